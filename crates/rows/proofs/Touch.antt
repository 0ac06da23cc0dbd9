-- Two rows have a bit in common exactly if the and of some words of theirs is not zero. Assumes nothing.
use mathlib.Core.Path.{◌≡◌, refl, ap, ◌∙◌}
use mathlib.Core.Bool.{not, ◌&&◌}
use mathlib.Core.List.{List}
use Prim.Native.Nat.{ℕ, ◌+◌, ◌*◌, ◌^◌, ◌≤◌, ◌<◌}
use native.Mathlib.Nat.{lt_of_le_of_lt}
use native.Mathlib.Omega.{arith}
use native.Mathlib.Decide.{ℕ_discrete}
use lib.Bits.{and_le_l}
use lib.Count.{ones as onesOf, count_trailing_zeros}
use lib.Dec.{eqb}
use lib.ListN.{get_or}
use borrow.Author.Tests.{eq-eqb, eqb-true}
use Rattle.parity.specs.Finite.{count, sum}
use Rattle.parity.specs.Matrix.{bit_of, lent}
use Rattle.parity.proofs.Finite.Bools.{same_test}
use Rattle.parity.proofs.Finite.Sums.{count_pos, sum_zero, sum_ge}
use Rattle.parity.proofs.Matrix.Lent.{ones_count}
use Rattle.parity.proofs.Matrix.Ones.{trailing_lowest}
use Rattle.parity.proofs.Splits.Common.{common_words}
use Rattle.rows.specs.Zeros.{Zeros, both}

-- a word without ones
ones_zero : (x : ℕ) → x < 2 ^ 64 → onesOf x ≡ 0 → x ≡ 0
ones_zero x l e =
    elim (ℕ_discrete x 0) [
      | yes q ↦ q
      | no d ↦
          let L = trailing_lowest 64 x l d in
          absurd (omega (arith, ones_count 64 x l, count_pos 64 (bit_of x) (count_trailing_zeros 64 x) L.short L.here))
    ]

module _ (W U : ℕ) (few : U ≤ W) (a b : List ℕ) (i j : ℕ) (machine : (q : ℕ) → get_or a q 0 < 2 ^ 64) where
  -- the bits in common, by words
  in_words : count (U * 64) (λ t. lent W a i t && lent W b j t) ≡ sum U (λ p. onesOf (both W a i b j p))
  unfolding both
  in_words = common_words W a b i j U few machine

  fits : (p : ℕ) → both W a i b j p < 2 ^ 64
  unfolding both
  fits p = lt_of_le_of_lt (and_le_l (get_or a (i * W + p) 0) (get_or b (j * W + p) 0)) (machine (i * W + p))

  pub touch_law : (acc : ℕ) → Zeros 0 U (both W a i b j) acc → not (eqb acc 0) ≡ not (eqb (count (U * 64) (λ t. lent W a i t && lent W b j t)) 0)
  touch_law acc Z =
      ap not (same_test (eqb acc 0) (eqb (count (U * 64) (λ t. lent W a i t && lent W b j t)) 0)
      (λ e. eq-eqb _ 0 (in_words ∙ sum_zero U (λ p k. rw (Z.none (eqb-true acc 0 e) p (omega arith) k) (unfold onesOf in refl))))
      (λ e. eq-eqb acc 0 (Z.back (λ p l k.
      ones_zero (both W a i b j p) (fits p) (omega (arith, sum_ge U (λ p. onesOf (both W a i b j p)) p k, in_words, eqb-true (count (U * 64) (λ t. lent W a i t && lent W b j t)) 0 e))))))
