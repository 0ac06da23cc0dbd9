-- Performing the splits of a record, one after another. Assumes nothing.
use mathlib.Core.Path.{◌≡◌, refl, sym, ◌∙◌}
use mathlib.Core.Bool.{Bool, true, false, true≢false, false≢true}
use mathlib.Core.List.{List}
use Prim.Native.Nat.{ℕ, ◌+◌, ◌/◌, ◌%◌, ◌≤◌, ◌<◌}
use native.Mathlib.Nat.{add-suc}
use native.Mathlib.Numerals.{add-one}
use native.Mathlib.Omega.{arith}
use lib.ListN.{get_or, length}
use borrow.Author.Tests.{eq-eqb}
use Rattle.parity.specs.Matrix.{Matrix}
use Rattle.parity.specs.Cycles.{share, split_of}
use Rattle.parity.specs.Splits.{Pair, split_right}
use Rattle.parity.specs.Record.{kind_of, pair_in, split_word}
use Rattle.parity.specs.declared.Form.TheVariants.{Third}
use Rattle.parity.specs.Sound.{Sound}
use Rattle.parity.proofs.Finite.Sums.{is_true, is_false, is}
use Rattle.parity.proofs.Matrix.Sound.{split_sound}
use Rattle.parity.proofs.Splits.Given.{apart, given_le, given}
use Rattle.parity.proofs.Lists.Rebuilt.{Right, right}
use Rattle.parity.proofs.Record.Reading.{split_yes, split_kind, split_wrong, performing_at, read_split}
use Rattle.columns.specs.Columns.{Columns, together}
use Rattle.columns.specs.Splits.{parted, Parted}
use Rattle.columns.proofs.Shares.{together_share}
use Rattle.columns.proofs.Splitting.{parted_columns}
use Rattle.reading.specs.Read.{Kind}
use Rattle.exchange.specs.Merge.{Apart, Both}
use Rattle.exchange.proofs.Common.{twice}
use Rattle.carried.specs.Perform.{Performed, Performs}

abbrev carried_in : ℕ → Pair
carried_in x = record { lower = x % 512; higher = x / 512 }

module _ (h g : Matrix) (n m k x : ℕ) (S : Sound h n m k) (C : Columns m h g) where
  wrong : (h' g' : Matrix) → h' ≡ h → (Right h n m k (x % 512) (x / 512) → ⊥) → Performed h h' g' n m k x false
  wrong h' g' e d = record {
    decides = elim (is (split_right h n m k (carried_in x))) [ is_false q ↦ sym q | is_true q ↦ absurd (d ((right h n m k (carried_in x)).0 q)) ];
    made = λ q. absurd (false≢true q);
    columns = λ q. absurd (false≢true q);
    left = λ q. e;
  }

  pub no_room : (g' : Matrix) → k ≡ 392 → Performed h h g' n m k x false
  no_room g' q = wrong h g' refl (λ r. omega (arith, r.room))

  pub not_below : (g' : Matrix) → x / 512 ≤ x % 512 → Performed h h g' n m k x false
  not_below g' l = wrong h g' refl (λ r. omega (arith, r.low))

  pub not_there : (g' : Matrix) → n + k ≤ x / 512 → Performed h h g' n m k x false
  not_there g' l = wrong h g' refl (λ r. omega (arith, r.high))

  -- the two bits are there
  module _ (a : x % 512 < x / 512) (b : x / 512 < n + k) where
    few : m ≤ 128
    few = omega (arith, S.m120)

    pub too_few : (g' : Matrix) → together 2 g (x % 512) (x / 512) < 2 → Performed h h g' n m k x false
    too_few g' l =
        let e = together_share 2 m h g C few (x % 512) (x / 512) in
        wrong h g' refl (λ r. omega (arith, r.shares, given h n m k S (x % 512) (x / 512) (omega arith) b (λ q. omega arith) r.shares))

    module _ (l : 2 ≤ together 2 g (x % 512) (x / 512)) where
      shares : 2 ≤ share h (m + k) (x % 512) (x / 512)
      shares =
          let e = together_share 2 m h g C few (x % 512) (x / 512) in
          omega (arith, given_le h n m k S (x % 512) (x / 512) (omega arith) b (λ q. omega arith))

      never : Apart h m (m + k) (x % 512) (x / 512)
      never = record { never = apart h n m k S (x % 512) (x / 512) (omega arith) b (λ q. omega arith) shares }

      pub both : (g' : Matrix) → Parted g g' (x % 512) (x / 512) (n + k) → Both h (x % 512) (x / 512) (g' (n + k))
      unfolding parted
      both g' P = record {
        at = λ c. P.at (n + k) c ∙ rw (eq-eqb (n + k) (n + k) refl, C.at (x % 512) c, C.at (x / 512) c)
            (twice h m (m + k) (n + k) (x % 512) (x / 512) S.clean never c);
      }

      module _ (q : k < 392) (h' g' : Matrix) (P : Parted g g' (x % 512) (x / 512) (n + k)) (e : h' ≡ split_of h (n + k) (m + k) (x % 512) (x / 512)) where
        pub is_made : Performed h h' g' n m k x true
        is_made = record {
          decides = sym ((right h n m k (carried_in x)).1 record { low = a; high = b; shares = shares; room = q });
          made = λ t. e;
          columns = λ t. rw e (parted_columns h g g' m (m + k) (n + k) (x % 512) (x / 512) (omega arith) C P);
          left = λ t. absurd (true≢false t);
        }

-- k splits are performed
pub record Going (source : List ℕ) (n m p : ℕ) (h h' g : Matrix) (k : ℕ) : Type 0 where
  pub inside : p + k ≤ length source
  pub sound : Sound h' n m k
  pub columns : Columns m h' g
  pub goes : performing_at Third n m source p 0 h ≡ performing_at Third n m source (p + k) k h'

module _ (source : List ℕ) (n m p : ℕ) (h h' g : Matrix) (k : ℕ) (G : Going source n m p h h' g k) where
  ended : (p + k < length source → split_word Third h' n m k (get_or source (p + k) 0) ≡ false) → Performs source n m p h h' k
  ended o = record { inside = G.inside; sound = G.sound; goes = G.goes; next = o }

  pub going_other : (kind_of (get_or source (p + k) 0) ≡ 6 → ⊥) → Performs source n m p h h' k
  going_other d = ended (λ t. split_kind Third h' n m k (get_or source (p + k) 0) d)

  -- a kind 6 word with the payload x
  module _ (x : ℕ) (K : Kind 6 (get_or source (p + k) 0) x) where
    pair_is : pair_in (get_or source (p + k) 0) ≡ carried_in x
    unfolding pair_in
    pair_is = rw K.rest

    module _ (h'' g'' : Matrix) (r : Bool) (P : Performed h' h'' g'' n m k x r) where
      pub going_stops : r ≡ false → Performs source n m p h h'' k
      going_stops e = rw (P.left e) (ended (λ t. split_wrong Third h' n m k (get_or source (p + k) 0) (rw pair_is (sym P.decides ∙ e))))

      pub going_next : r ≡ true → p + k < length source → Going source n m p h h'' g'' (k + 1)
      going_next e l =
          let R = (right h' n m k (carried_in x)).0 (sym P.decides ∙ e) in
          let w = get_or source (p + k) 0 in
          let o = split_yes Third h' n m k w refl K.kind (rw pair_is (sym P.decides ∙ e)) in
          let f : split_of h' (n + k) (m + k) (pair_in w).lower (pair_in w).higher ≡ h'' = rw pair_is (sym (P.made e)) in
          rw (add-one k) record {
            inside = omega arith;
            sound = rw (P.made e) (split_sound h' n m k (x % 512) (x / 512) G.sound (omega (arith, R.low, R.high)) R.high (λ q. omega (arith, R.low)) R.shares R.room);
            columns = P.columns e;
            goes = rw (add-suc p k) (G.goes ∙ read_split Third n m source (p + k) k h' l o ∙ rw f);
          }
