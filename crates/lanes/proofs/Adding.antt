-- The rows that a check contains are added word by word, and in a word bit by bit. Assumes nothing.
use mathlib.Core.Path.{◌≡◌, refl, sym, ap, ◌∙◌}
use mathlib.Core.Bool.{Bool, true, false, not, ◌&&◌, and-false, xor}
use mathlib.Core.List.{List}
use Prim.Native.Nat.{ℕ, ◌+◌, ◌*◌, ◌-◌, ◌^◌, ◌<◌}
use native.Mathlib.Nat.{lt_of_le_of_lt}
use native.Mathlib.Omega.{arith}
use lib.Bits.{bit_and, and_le_l}
use lib.Dec.{eqb}
use lib.ListN.{get_or, replicate}
use borrow.Author.Tests.{eq-eqb, ne_eqb}
use Rattle.parity.specs.Finite.{one, sum, count}
use Rattle.parity.specs.Matrix.{Matrix, bit_of, lent}
use Rattle.parity.specs.Words.{inside, odd}
use Rattle.parity.proofs.Finite.Bools.{xor_false}
use Rattle.parity.proofs.Finite.Sums.{sum_point, sum_zero, count_cong}
use Rattle.parity.proofs.Matrix.Digits.{bit_zero}
use Rattle.parity.proofs.Matrix.Lent.{lent_word, lent_empty, count_add}
use Rattle.parity.proofs.Matrix.Ones.{Lowest}
use Rattle.parity.proofs.Matrix.Rest.{rest_bit}
use Rattle.rows.specs.Whole.{plus}
use Rattle.rows.proofs.Writing.{combined_at}
use Rattle.lanes.specs.Lanes.{WordAdded, SumOf}
use Rattle.lanes.proofs.Parity.{xor_assoc, odd_of, odd_add}

-- the rows at the ones of `rest` are still to be added
pub record Rest (x : Matrix) (i w rest : ℕ) (a a' : ℕ → Bool) : Type 0 where
  pub fits : rest < 2 ^ 64
  pub at : (j : ℕ) → xor (a' j) (odd (count 64 (λ t. bit_of rest t && x (i * 64 + t) j))) ≡ xor (a j) (odd (count 64 (λ t. bit_of w t && x (i * 64 + t) j)))

pub rest_all : (x : Matrix) (i w : ℕ) (a : ℕ → Bool) → w < 2 ^ 64 → Rest x i w w a a
rest_all x i w a l = record { fits = l; at = λ j. refl }

pub rest_none : (x : Matrix) (i w rest : ℕ) (a a' : ℕ → Bool) → rest ≡ 0 → Rest x i w rest a a' → WordAdded x i w a a'
rest_none x i w rest a a' e R = record { at = λ j. sym (none j) ∙ R.at j }
  where
    none : (j : ℕ) → xor (a' j) (odd (count 64 (λ t. bit_of rest t && x (i * 64 + t) j))) ≡ a' j
    none j = rw (zero_count j) (xor_false (a' j))
      where
        zeros : (n j : ℕ) → count n (λ t. bit_of rest t && x (i * 64 + t) j) ≡ 0
        zeros n j = unfold count in sum_zero n {f = λ t. one (bit_of rest t && x (i * 64 + t) j)} (λ t l. rw (e, bit_zero t))

        zero_count : (j : ℕ) → odd (count 64 (λ t. bit_of rest t && x (i * 64 + t) j)) ≡ false
        zero_count j = ap odd (zeros 64 j) ∙ unfold odd in refl

-- a count without one number
count_drop : (n t : ℕ) (p q s : ℕ → Bool) → t < n → p t ≡ true → ((u : ℕ) → q u ≡ (p u && not (eqb u t))) → count n (λ u. p u && s u) ≡ one (s t) + count n (λ u. q u && s u)
unfolding count
count_drop n t p q s k e f =
    let r = sum_point n t {f = λ u. one (p u && s u)} {g = λ u. one (q u && s u)} k (λ u l d. rw (f u, ne_eqb u t d) (go (p u) (s u))) in
    omega (arith, rw (f t, eq-eqb t t refl, and-false, e) at r)
  where
    go : (p q : Bool) → one (p && q) ≡ one ((p && true) && q)
    go true q = refl
    go false q = refl

pub rest_next : (x : Matrix) (i w rest t : ℕ) (a a' : ℕ → Bool) (a'' : Matrix) (b : Matrix) → Rest x i w rest a a' → Lowest 64 rest t → a' ≡ b 0
    → a'' ≡ plus 0 (x (i * 64 + t)) b → Rest x i w (bit_and rest (rest - 1)) a (a'' 0)
rest_next x i w rest t a a' a'' b R L e p = record {
  fits = lt_of_le_of_lt (and_le_l rest (rest - 1)) R.fits;
  at = λ j. rw (p, combined_at xor 0 (x (i * 64 + t)) b j, ← e)
      (xor_assoc (a' j) (x (i * 64 + t) j) _
      ∙ ap (xor (a' j)) (sym (ap odd (count_drop 64 t (bit_of rest) (bit_of (bit_and rest (rest - 1))) (λ u. x (i * 64 + u) j) L.short L.here (rest_bit 64 rest t L)) ∙ odd_add (one (x (i * 64 + t) j)) _ ∙ rw (odd_of (x (i * 64 + t) j))))
      ∙ R.at j);
}

-- no word of the check is added yet
pub sum_none : (h : Matrix) (c : ℕ) (x : Matrix) (lanes : ℕ) (acc : List ℕ) → acc ≡ replicate 16 0 → SumOf h (0 * 64) c x (lent lanes acc 0)
sum_none h c x lanes acc e = record { at = λ j. lent_empty lanes 16 acc e 0 j ∙ unfold inside count sum odd in refl }

-- one word more
pub sum_next : (W : ℕ) (ws : List ℕ) (c : ℕ) (x : Matrix) (i : ℕ) (s s' : ℕ → Bool) → i < W → SumOf (lent W ws) (i * 64) c x s
    → WordAdded x i (get_or ws (c * W + i) 0) s s' → SumOf (lent W ws) ((i + 1) * 64) c x s'
unfolding inside
sum_next W ws c x i s s' k S A = record {
  at = λ j. A.at j ∙ rw (S.at j) (sym (
      let e : (i + 1) * 64 ≡ i * 64 + 64 = omega arith in
      rw e (ap odd (count_add (i * 64) 64 (λ b. lent W ws c b && x b j)) ∙ odd_add _ _
      ∙ ap (λ (n : ℕ). xor (odd (count (i * 64) (λ b. lent W ws c b && x b j))) (odd n)) (count_cong 64 (λ t l. rw (lent_word W ws c i t k l))))));
}
