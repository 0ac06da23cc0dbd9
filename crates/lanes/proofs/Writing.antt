-- Words of a packet and of a tile's row, when they are written: what the bits are then. Assumes nothing.
use mathlib.Core.Path.{◌≡◌, refl, sym, ap, ◌∙◌}
use mathlib.Core.Bool.{Bool, true, false, not, cond, ◌&&◌, ◌||◌}
use mathlib.Core.List.{List}
use Prim.Native.Nat.{ℕ, ◌+◌, ◌*◌, ◌-◌, ◌/◌, ◌%◌, ◌^◌, ◌≤◌, ◌<◌}
use native.Mathlib.Nat.{zero-mul, zero-add}
use native.Mathlib.Omega.{arith}
use native.Mathlib.Decide.{ℕ_discrete, dec_lt}
use lib.Bits.{bit_and, bit_or}
use lib.Dec.{eqb}
use lib.ListN.{get_or, length}
use borrow.Author.Tests.{eqb-true, not-false}
use Rattle.parity.specs.Finite.{count}
use Rattle.parity.specs.Matrix.{Matrix, bit_of, lent}
use Rattle.parity.proofs.Finite.Sums.{is_true, is_false, is, count_pos}
use Rattle.parity.proofs.Matrix.Digits.{bit_of_and, bit_of_or, bit_not, bit_zero}
use Rattle.parity.proofs.Matrix.Lent.{lent_in, lent_out}
use Rattle.rows.specs.Whole.{Written, word_from}
use Rattle.rows.proofs.Writing.{row_here, row_before, row_behind, row_else, row_first, row_others}
use Rattle.lanes.specs.Tiles.{Eight, Taken, Blanked, no_flag, Returned, Unflagged, Flagged}

pub taken_all : (xs : List ℕ) (len from count b : ℕ) (w u : List ℕ) (lanes : ℕ) → from + count ≤ len → count ≤ lanes → Written w u (b * lanes) (word_from xs (b * len + from)) count
    → Taken (lent len xs) from count b (lent lanes w) (lent lanes u)
taken_all xs len from count b w u lanes room few A = record {
  here = λ j k.
      let p : (from * 64 + j) / 64 ≡ from + j / 64 = omega arith in
      let q : (from * 64 + j) % 64 ≡ j % 64 = omega arith in
      let r : b * len + (from + j / 64) ≡ b * len + from + j / 64 = omega arith in
      row_first lanes b count few w u _ A j k
      ∙ sym (rw (lent_in len xs b (from * 64 + j) (omega arith), p, q, r));
  else = λ a j n. row_others lanes b count few w u _ A a j n;
}

-- words that are written behind others
written_join : (w u v : List ℕ) (b : ℕ) (f g : ℕ → ℕ) (i n : ℕ) → Written w u b f i → Written u v (b + i) g n → ((a : ℕ) → a < n → g a ≡ f (i + a)) → Written w v b f (i + n)
written_join w u v b f g i n A B e = record {
  long = B.long ∙ A.long;
  done = λ a k. elim (dec_lt a i) [
    | yes l ↦ B.else (b + a) (λ j m q. omega arith) ∙ A.done a l
    | no l ↦
        let p : b + a ≡ b + i + (a - i) = omega arith in
        let q : i + (a - i) ≡ a = omega arith in
        rw p (B.done (a - i) (omega arith)) ∙ e (a - i) (omega arith) ∙ ap f q
  ];
  else = λ a k. B.else a (λ j m q. k (i + j) (omega arith) (omega arith)) ∙ A.else a (λ j m q. k j (omega arith) q);
}

-- eight words more, which were read before
pub eight_more : (xs : List ℕ) (first : ℕ) (w u v : List ℕ) (b i : ℕ) (eight : List ℕ) → Written w u b (word_from xs first) i → Eight xs (first + i) eight
    → Written u v (b + i) (word_from eight 0) 8 → Written w v b (word_from xs first) (i + 8)
eight_more xs first w u v b i eight A E B =
    written_join w u v b (word_from xs first) (word_from eight 0) i 8 A B (λ a k. let e : first + i + a ≡ first + (i + a) = omega arith in rw (zero-add a) (E.at a k ∙ ap (λ (m : ℕ). get_or xs m 0) e))

-- and the rest
pub written_rest : (xs : List ℕ) (first : ℕ) (w u v : List ℕ) (b i n : ℕ) → i ≤ n → Written w u b (word_from xs first) i → Written u v (b + i) (word_from xs (first + i)) (n - i)
    → Written w v b (word_from xs first) n
written_rest xs first w u v b i n k A B =
    let e : i + (n - i) ≡ n = omega arith in
    rw e at (written_join w u v b (word_from xs first) (word_from xs (first + i)) i (n - i) A B (λ a l. let p : first + i + a ≡ first + (i + a) = omega arith in ap (λ (m : ℕ). get_or xs m 0) p))

pub blanked_all : (b : ℕ) (w u : List ℕ) (lanes : ℕ) → Written w u (b * lanes) (λ a. 0) lanes → Blanked b (lent lanes w) (lent lanes u)
blanked_all b w u lanes A = record {
  here = λ j. elim (dec_lt j (lanes * 64)) [
    | yes k ↦ row_first lanes b lanes (omega arith) w u (λ a. 0) A j k ∙ bit_zero (j % 64)
    | no k ↦ lent_out lanes u b j (omega arith)
  ];
  else = λ a j n. row_others lanes b lanes (omega arith) w u (λ a. 0) A a j n;
}

-- the word that is put back: the old bits where flagged, and else the new
pub merged : ℕ → ℕ → ℕ → ℕ
merged x t g = bit_or (bit_and x g) (bit_and t (2 ^ 64 - 1 - g))

merged_bit : (x t g m : ℕ) → g < 2 ^ 64 → m < 64 → bit_of (merged x t g) m ≡ cond (bit_of g m) (bit_of x m) (bit_of t m)
unfolding merged
merged_bit x t g m k l = bit_of_or (bit_and x g) (bit_and t (2 ^ 64 - 1 - g)) m ∙ rw (bit_of_and x g m, bit_of_and t (2 ^ 64 - 1 - g) m, bit_not 64 g m l k) (go (bit_of x m) (bit_of t m) (bit_of g m))
  where
    go : (p q r : Bool) → ((p && r) || (q && not r)) ≡ cond r p q
    go true q true = refl
    go false true true = refl
    go false false true = refl
    go true true false = refl
    go true false false = refl
    go false true false = refl
    go false false false = refl

pub returned_all : (len from count b : ℕ) (ts : List ℕ) (lanes : ℕ) (gs w u : List ℕ) → ((i : ℕ) → i < count → get_or gs i 0 < 2 ^ 64) → from + count ≤ len → count ≤ lanes
    → Written w u (b * len + from) (λ a. merged (get_or w (b * len + from + a) 0) (get_or ts (b * lanes + a) 0) (get_or gs a 0)) count
    → Returned from count b (lent lanes ts) (lent lanes gs 0) (lent len w) (lent len u)
returned_all len from count b ts lanes gs w u fits room few A = record {
  here = λ j k.
      let p : (from * 64 + j) / 64 ≡ from + j / 64 = omega arith in
      let q : (from * 64 + j) % 64 ≡ j % 64 = omega arith in
      let r : b * len + (from + j / 64) ≡ b * len + from + j / 64 = omega arith in
      let l : j < lanes * 64 = omega arith in
      row_here len b from count room w u _ A j k
      ∙ merged_bit (get_or w (b * len + from + j / 64) 0) (get_or ts (b * lanes + j / 64) 0) (get_or gs (j / 64) 0) (j % 64) (fits (j / 64) (omega arith)) (omega arith)
      ∙ sym (rw (lent_in len w b (from * 64 + j) (omega arith), p, q, r, lent_in lanes gs 0 j l, zero-mul lanes, zero-add (j / 64), lent_in lanes ts b j l));
  before = row_before len b from count room w u _ A;
  behind = row_behind len b from count room w u _ A;
  else = row_else len b from count room w u _ A;
}

-- the same where all of the row is put back
pub returned_whole : (len from count b : ℕ) (ts : List ℕ) (lanes : ℕ) (w u : List ℕ) → from + count ≤ len → count ≤ lanes → Written w u (b * len + from) (word_from ts (b * lanes)) count
    → Returned from count b (lent lanes ts) no_flag (lent len w) (lent len u)
returned_whole len from count b ts lanes w u room few A = record {
  here = λ j k. row_here len b from count room w u _ A j k ∙ sym (lent_in lanes ts b j (omega arith));
  before = row_before len b from count room w u _ A;
  behind = row_behind len b from count room w u _ A;
  else = row_else len b from count room w u _ A;
}

-- which it is where no lane is flagged
pub returned_unflagged : (from count b : ℕ) (t : Matrix) (f : ℕ → Bool) (x x' : Matrix) → ((j : ℕ) → f j ≡ false) → Returned from count b t no_flag x x' → Returned from count b t f x x'
returned_unflagged from count b t f x x' e R = record { here = λ j k. rw (e j) (R.here j k); before = R.before; behind = R.behind; else = R.else }

pub unflagged : (lanes : ℕ) (gs : List ℕ) (some : Bool) → some ≡ not (eqb (count (lanes * 64) (λ t. lent lanes gs 0 t && lent lanes gs 0 t)) 0) → Unflagged some (lent lanes gs 0)
unflagged lanes gs some e = record { none = λ q j. none (eqb-true _ 0 (not-false _ (sym e ∙ q))) j }
  where
    none : count (lanes * 64) (λ t. lent lanes gs 0 t && lent lanes gs 0 t) ≡ 0 → (j : ℕ) → lent lanes gs 0 j ≡ false
    none z j = elim (is (lent lanes gs 0 j)) [
      | is_false q ↦ q
      | is_true q ↦ elim (dec_lt j (lanes * 64)) [
        | yes l ↦ absurd (omega (arith, z, count_pos (lanes * 64) (λ t. lent lanes gs 0 t && lent lanes gs 0 t) j l (rw q)))
        | no l ↦ lent_out lanes gs 0 j (omega arith)
      ]
    ]

pub flagged_all : (from count : ℕ) (gs : List ℕ) (lanes : ℕ) (w u : List ℕ) → from + count ≤ length w → count ≤ lanes → Written w u from (word_from gs 0) count
    → Flagged from count (lent lanes gs 0) (lent (length w) w 0) (lent (length w) u 0)
flagged_all from count gs lanes w u room few A =
    let z : 0 * length w + from ≡ from = omega (arith, zero-mul (length w)) in
    let A' : Written w u (0 * length w + from) (word_from gs 0) count = rw z A in
    record {
      here = λ j k.
          let l : j < lanes * 64 = omega arith in
          row_here (length w) 0 from count room w u (word_from gs 0) A' j k ∙ sym (rw (lent_in lanes gs 0 j l, zero-mul lanes));
      before = row_before (length w) 0 from count room w u (word_from gs 0) A';
    }

-- one flag more is known to fit
pub fits_more : (gs : List ℕ) (i : ℕ) → ((a : ℕ) → a < i → get_or gs a 0 < 2 ^ 64) → get_or gs i 0 < 2 ^ 64 → (a : ℕ) → a < i + 1 → get_or gs a 0 < 2 ^ 64
fits_more gs i f k a l = elim (ℕ_discrete a i) [ yes q ↦ rw q k | no d ↦ f a (omega arith) ]

pub merged_now : (x x' t g : ℕ) → x ≡ x' → bit_or (bit_and x g) (bit_and t (2 ^ 64 - 1 - g)) ≡ merged x' t g
unfolding merged
merged_now x x' t g e = rw e
