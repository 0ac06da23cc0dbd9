-- The turns of orthogonalising on words, columns and row bounds. Assumes nothing.
use mathlib.Core.Path.{◌≡◌, refl, sym, ap, ◌∙◌}
use mathlib.Core.Bool.{true, false, and-false, and-eq-true_iff, false≢true, true≢false}
use mathlib.Core.List.{List, [], ◌∷◌}
use Prim.Native.Nat.{ℕ, zero, suc, ◌+◌, ◌*◌, ◌-◌, ◌/◌, ◌≤◌, ◌<◌}
use native.Mathlib.Numerals.{add-one}
use native.Mathlib.Omega.{arith}
use native.Mathlib.Decide.{dec_le, dec_lt}
use borrow.Author.Tests.{lt-ltb, le-ltb, eq-eqb}
use Rattle.parity.specs.Finite.{outermost}
use Rattle.parity.specs.Matrix.{Matrix, lent}
use Rattle.parity.specs.Cycles.{share, held_by, pairs, split_of, largest_share, lower_bit, higher_bit, Orthogonalised, orthogonal}
use Rattle.parity.specs.Causes.{answer, refusal}
use Rattle.parity.specs.Calls.{orthogonalised_reply}
use Rattle.parity.specs.CyclesPromises.{holding}
use Rattle.parity.specs.Sound.{Clean, Sound}
use Rattle.parity.proofs.Finite.Outermost.{outermost_same}
use Rattle.parity.proofs.Splits.Pairs.{pairs_suc}
use Rattle.parity.proofs.Splits.Split.{at_new_bit}
use Rattle.parity.proofs.Matrix.Lent.{lent_out}
use Rattle.parity.proofs.Matrix.Rule.{at_le}
use Rattle.parity.proofs.Matrix.Sound.{split_sound}
use Rattle.parity.proofs.Splits.Pick.{Chosen, picked, chosen_only}
use Rattle.parity.proofs.Splits.Given.{apart, given, given_too}
use Rattle.parity.proofs.Splits.Orthogonal.{finishes, stops_full, repeats}
use Rattle.columns.specs.Columns.{Columns, Given, together}
use Rattle.columns.specs.Splits.{parted, Parted}
use Rattle.columns.proofs.Shares.{together_le, together_top, together_none, together_share}
use Rattle.columns.proofs.Splitting.{parted_columns}
use Rattle.pairs.specs.Rows.{in_both}
use Rattle.choice.specs.Bounds.{Bounded, Head, Picked, NoPair, Narrow, Weights}
use Rattle.choice.proofs.RowBounds.{bounded_split, raised_head, weights_bound, weights_head}
use Rattle.exchange.specs.Merge.{Apart, Both}
use Rattle.orthogonalise.specs.Turns.{Ready, Turned, Ended}
use Rattle.exchange.proofs.Common.{twice}

-- the column of the new bit
pub both_parted : (h g g' : Matrix) (N M u v : ℕ) → Ready h g N M u v → Parted g g' u v N → Both h u v (g' N)
unfolding parted
both_parted h g g' N M u v R P = record { at = λ c. P.at N c ∙ rw (eq-eqb N N refl) (R.meet c) }

-- the columns of the given checks after the split
pub given_parted : (h g g' : Matrix) (N M u v : ℕ) → Ready h g N M u v → Parted g g' u v N → Given (split_of h N M u v) g'
given_parted h g g' N M u v R P = record { checks = R.given; few = R.few; columns = parted_columns h g g' R.given M N u v R.before R.columns P }

-- has the lowest and the highest check that held the pair
pub held_parted : (h : Matrix) (cols : List ℕ) (u v z M : ℕ) → Clean h z M → Both h u v (lent 2 cols z)
    → outermost (2 * 64) (in_both 2 cols z cols z) ≡ held_by h M u v
unfolding held_by
held_parted h cols u v z M K B = outermost_same (2 * 64) (in_both 2 cols z cols z) M (holding h u v)
    (λ c l e.
    let r = sym (B.at c) ∙ ((and-eq-true_iff (lent 2 cols z c) (lent 2 cols z c)).0 e).0 in
    elim (dec_lt c M) [ yes s ↦ (s, r) | no s ↦ absurd (true≢false (sym r ∙ rw (K.checks c u (omega arith)))) ])
    (λ c l e.
    let r = B.at c ∙ e in
    elim (dec_lt c 128) [
      | yes s ↦ (s, (and-eq-true_iff (lent 2 cols z c) (lent 2 cols z c)).1 (r, r))
      | no s ↦ absurd (true≢false (sym r ∙ lent_out 2 cols z c (omega arith)))
    ])

-- the columns are those of the given checks, and the bits from n + k on share nothing
pub given_columns : (m : ℕ) (h g : Matrix) → m ≤ 120 → Columns m h g → Given h g
given_columns m h g k C = record { checks = m; few = k; columns = C }

pub narrow_columns : (n m k : ℕ) (h g : Matrix) → Sound h n m k → Columns m h g → Narrow (together 2 g) (n + k)
narrow_columns n m k h g A C = record { none = λ x y l. together_none 2 g x y (λ c. C.at y c ∙ rw (A.clean.bits c y l, and-false)) }

-- at most 128 checks, and so at most 8,128 pairs of them
pub pairs_few : (d s : ℕ) → s + d ≡ 128 → pairs s ≤ 8128
unfolding pairs
pairs_few zero s e = let q : s ≡ 128 = omega arith in rw q (omega arith)
pairs_few (suc d) s e = omega (arith, pairs_few d (suc s) (omega arith), pairs_suc s)

-- What stands before a turn: h₀ was given with k₀, and h has k, its columns g and their bounds.
pub record Stands (h₀ : Matrix) (n m k₀ : ℕ) (h g : Matrix) (bound : List ℕ) (k splits total : ℕ) (held : List ℕ) : Type 0 where
  pub sound : Sound h n m k
  pub columns : Columns m h g
  pub bounded : Bounded (together 2 g) (n + k) bound
  pub count : splits + k₀ ≡ k
  pub few : total ≤ splits * 8128
  pub same : orthogonal (393 - k₀) h₀ n m k₀ 0 0 [] ≡ orthogonal (393 - k) h n m k splits total held

pub stands_start : (h g : Matrix) (bound : List ℕ) (n m k : ℕ) → Sound h n m k → Columns m h g → Weights (together 2 g) bound (n + k) → Stands h n m k h g bound k 0 0 []
stands_start h g bound n m k S C W = record {
  sound = S;
  columns = C;
  bounded = weights_bound (together 2 g) bound (n + k) W (λ x y. together_le 2 g g x y x x (λ c a b. (a, a)));
  count = omega arith;
  few = omega arith;
  same = refl;
}

pub head_start : (g : Matrix) (bound : List ℕ) (bits : ℕ) → Weights (together 2 g) bound bits → Head bound bits 0 128
head_start g bound bits W = weights_head (together 2 g) bound bits W 128 (λ x. together_top 2 g x x)

-- picking changes the bounds alone
pub stands_bound : (h₀ : Matrix) (n m k₀ : ℕ) (h g : Matrix) (bound bound' : List ℕ) (k splits total : ℕ) (held : List ℕ) → Stands h₀ n m k₀ h g bound k splits total held
    → Bounded (together 2 g) (n + k) bound' → Stands h₀ n m k₀ h g bound' k splits total held
stands_bound h₀ n m k₀ h g bound bound' k splits total held S B = record {
  sound = S.sound;
  columns = S.columns;
  bounded = B;
  count = S.count;
  few = S.few;
  same = S.same;
}

module _ (h₀ : Matrix) (n m k₀ : ℕ) (h g : Matrix) (bound : List ℕ) (k splits total : ℕ) (held : List ℕ) (S : Stands h₀ n m k₀ h g bound k splits total held) where
  shares : (x y : ℕ) → together 2 g x y ≡ share h m x y
  shares x y = together_share 2 m h g S.columns (omega (arith, S.sound.m120)) x y

  -- shares of two or more are those of the columns
  large : (x y : ℕ) → x < y → y < n + k → 2 ≤ share h (m + k) x y → together 2 g x y ≡ share h (m + k) x y
  large x y a b c = shares x y ∙ given h n m k S.sound x y (omega arith) b (λ q. omega arith) c

  large_too : (x y : ℕ) → x < y → y < n + k → 2 ≤ together 2 g x y → together 2 g x y ≡ share h (m + k) x y
  large_too x y a b c = let e = shares x y in e ∙ given_too h n m k S.sound x y (omega arith) b (λ q. omega arith) (omega arith)

  turns_left : 393 - k ≡ suc (392 - k)
  turns_left = omega (arith, S.sound.k392)

  none : NoPair (together 2 g) (n + k) → largest_share h (n + k) (m + k) < 2
  none P =
      elim (dec_lt (largest_share h (n + k) (m + k)) 2) [
        | yes q ↦ q
        | no q ↦
            let (a, b, e) = picked h (n + k) (m + k) (omega arith) in
            let f = large _ _ a b (omega arith) in
            absurd (omega (arith, P.few _ _ a b))
      ]

  pub ends_finished : NoPair (together 2 g) (n + k) → Ended h₀ n m k₀ h (answer (splits ∷ total ∷ k ∷ held))
  unfolding orthogonalised_reply
  ends_finished P =
      let e : orthogonal (393 - k₀) h₀ n m k₀ 0 0 [] ≡ record { finished = true; splits = splits; sum = total; k = k; held = held; matrix = h } = S.same ∙ rw turns_left (finishes (392 - k) h n m k splits total held (none P)) in
      record { told = sym (ap orthogonalised_reply e); matrix = sym (ap (λ (o : Orthogonalised). o.matrix) e) }

  module _ (u v s : ℕ) (P : Picked (together 2 g) (n + k) u v s) where
    here : share h (m + k) u v ≡ s
    here = let e = P.here in let t = P.two in sym (large_too u v P.low P.high (omega arith)) ∙ e

    -- The pair that the bounds give is the chosen one.
    is_chosen : Chosen h (n + k) (m + k) u v
    is_chosen =
        let at = here in
        let two = P.two in
        record {
          low = P.low;
          high = P.high;
          largest = λ i j ij jn. elim (dec_le 2 (share h (m + k) i j)) [
            | yes q ↦ let f = large i j ij jn q in omega (arith, P.most i j ij jn)
            | no q ↦ omega arith
          ];
          lower = λ i j ij jn q. elim (dec_lt i u) [
            | no w ↦ omega arith
            | yes w ↦ let f = large i j ij jn (omega arith) in absurd (omega (arith, P.first i j ij jn w))
          ];
          higher = λ j uj jn q. elim (dec_lt j v) [
            | no w ↦ omega arith
            | yes w ↦ let f = large u j uj jn (omega arith) in absurd (omega (arith, P.near j uj w))
          ];
        }

    chosen_is : (largest_share h (n + k) (m + k) ≡ share h (m + k) u v) × (lower_bit h (n + k) (m + k) ≡ u) × (higher_bit h (n + k) (m + k) ≡ v)
    chosen_is = chosen_only h (n + k) (m + k) u v is_chosen (omega (arith, here, P.two))

    pub ends_full : k ≡ 392 → Ended h₀ n m k₀ h (refusal 9 (splits ∷ total ∷ k ∷ held))
    unfolding orthogonalised_reply
    ends_full q =
        let (t, a, b) = chosen_is in
        let e : orthogonal (393 - k₀) h₀ n m k₀ 0 0 [] ≡ record { finished = false; splits = splits; sum = total; k = k; held = held; matrix = h } = S.same ∙ rw turns_left (stops_full (392 - k) h n m k splits total held (omega (arith, here, P.two)) q) in
        record { told = sym (ap orthogonalised_reply e); matrix = sym (ap (λ (o : Orthogonalised). o.matrix) e) }

    pub share_few : s ≤ 128
    share_few = omega (arith, together_top 2 g u v, P.here)

    pub picked_ready : Ready h g (n + k) (m + k) u v
    picked_ready =
        let A : Apart h m (m + k) u v =
        record { never = apart h n m k S.sound u v (omega (arith, P.low, P.high)) P.high (λ q. omega (arith, P.low)) (omega (arith, here, P.two)) } in
        record {
          clean = S.sound.clean;
          given = m;
          few = S.sound.m120;
          before = omega arith;
          columns = S.columns;
          meet = λ c. rw (S.columns.at u c, S.columns.at v c) (twice h m (m + k) (n + k) u v S.sound.clean A c);
        }

    -- after a turn
    module _ (small : k < 392) (h' g' : Matrix) (bound' held' : List ℕ) (T : Turned h h' g g' bound bound' (n + k) (m + k) u v held') where
      C : Columns m (split_of h (n + k) (m + k) u v) g'
      C = parted_columns h g g' m (m + k) (n + k) u v (omega arith) S.columns T.columns

      -- old bits are in no more given checks, and the new one in checks of both
      fewer : (x c : ℕ) → x < n + k → g' x c ≡ true → g x c ≡ true
      fewer x c xl e =
          elim (dec_lt c m) [
            | yes q ↦
                let t : split_of h (n + k) (m + k) u v c x ≡ true = rw (lt-ltb c m q) at (sym (C.at x c) ∙ e) in
                S.columns.at x c ∙ rw (lt-ltb c m q) (at_le h (n + k) (m + k) u v c x (λ r. omega arith) (λ r. omega arith) t)
            | no q ↦ absurd (false≢true (rw (le-ltb c m (omega arith)) at (sym (C.at x c) ∙ e)))
          ]

      newer : (c : ℕ) → g' (n + k) c ≡ true → (g u c ≡ true) × (g v c ≡ true)
      newer c e =
          elim (dec_lt c m) [
            | yes q ↦
                let t : split_of h (n + k) (m + k) u v c (n + k) ≡ true = rw (lt-ltb c m q) at (sym (C.at (n + k) c) ∙ e) in
                let (hu, hv) = (and-eq-true_iff (h c u) (h c v)).0 (sym (at_new_bit h (n + k) (m + k) u v c (λ r. omega arith)) ∙ t) in
                (S.columns.at u c ∙ rw (lt-ltb c m q, hu), S.columns.at v c ∙ rw (lt-ltb c m q, hv))
            | no q ↦ absurd (false≢true (rw (le-ltb c m (omega arith)) at (sym (C.at (n + k) c) ∙ e)))
          ]

      pub head_split : Head bound (n + k) u s → Head bound' (n + (k + 1)) u s
      head_split H =
          let z : n + (k + 1) ≡ n + k + 1 = omega arith in
          rw z (raised_head (together 2 g) (together 2 g') (n + k) u v s bound bound' P H T.bounds
          (λ x xl. together_le 2 g' g x (n + k) u v (λ c a b. newer c b)) (λ x xl. together_le 2 g' g x (n + k) x u (λ c a b. (fewer x c xl a, (newer c b).0))))

      pub stands_split : Stands h₀ n m k₀ h' g' bound' (k + 1) (splits + 1) (total + s * (s - 1) / 2) held'
      unfolding pairs
      stands_split =
          let (t, x, y) = chosen_is in
          let z : n + (k + 1) ≡ n + k + 1 = omega arith in
          let at = here in
          let two = P.two in
          let left : 393 - (k + 1) ≡ 392 - k = omega arith in
          let f = pairs_few (128 - s) s (omega (arith, share_few)) in
          let e = T.matrix in
          let held_is = T.holders in
          record {
            sound = rw (e, add-one k) (split_sound h n m k u v S.sound (omega (arith, P.low, P.high)) P.high (λ q. omega (arith, P.low)) (omega arith) small);
            columns = rw e C;
            bounded = rw z (bounded_split (together 2 g) (together 2 g') (n + k) bound bound' S.bounded (λ x y xl yl. together_le 2 g' g x y x y (λ c a b. (fewer x c xl a, fewer y c yl b))) T.bounds);
            count = omega (arith, S.count);
            few = omega (arith, S.few);
            same = S.same ∙ rw turns_left (repeats (392 - k) h n m k splits total held (omega arith) (λ q. omega arith) ∙ rw (x, y, t, at, e, left, add-one k, add-one splits, held_is));
          }
