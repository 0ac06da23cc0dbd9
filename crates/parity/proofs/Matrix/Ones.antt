-- The lowest one of a word, as the machine's trailing_zeros gives it; Rest has the word without it. Assumes nothing.
use mathlib.Core.Path.{◌≡◌, refl, ap, ◌∙◌}
use mathlib.Core.Bool.{true, false}
use Prim.Native.Nat.{ℕ, zero, suc, ◌+◌, ◌/◌, ◌%◌, ◌^◌, ◌<◌}
use native.Mathlib.Nat.{not-suc-le-zero}
use native.Mathlib.Numerals.{add-one}
use native.Mathlib.Omega.{arith}
use lib.Arith.{lt-one}
use lib.Count.{count_trailing_zeros, under}
use lib.Pow.{shr_lt}
use Rattle.parity.specs.Finite.{one}
use Rattle.parity.specs.Matrix.{bit_of}
use Rattle.parity.proofs.Finite.Sums.{is_true, is_false, is}
use Rattle.parity.proofs.Matrix.Digits.{low_bit, higher}

-- t is the lowest one of the word x of k bits
pub record Lowest (k x t : ℕ) : Type 0 where
  pub short : t < k
  pub here : bit_of x t ≡ true
  pub none : (i : ℕ) → i < t → bit_of x i ≡ false

up_one : (x t k : ℕ) → bit_of x 0 ≡ false → Lowest k (x / 2) t → Lowest (suc k) x (suc t)
up_one x t k e L = record {
  short = omega (arith, L.short);
  here = let s : suc t ≡ 1 + t = omega arith in rw s (higher x t ∙ L.here);
  none = go;
}
  where
    go : (i : ℕ) → i < suc t → bit_of x i ≡ false
    go zero l = e
    go (suc i) l = let s : suc i ≡ 1 + i = omega arith in rw s (higher x i ∙ L.none i (omega arith))

-- the machine's trailing_zeros
pub trailing_lowest : (k x : ℕ) → x < 2 ^ k → (x ≡ 0 → ⊥) → Lowest k x (count_trailing_zeros k x)
unfolding count_trailing_zeros
trailing_lowest zero x l n = absurd (n (lt-one l))
trailing_lowest (suc k) x l n = go (λ m. trailing_lowest k (x / 2) (shr_lt k 1 (rw (add-one k) l)) m) (x % 2) refl
  where
    go : ((x / 2 ≡ 0 → ⊥) → Lowest k (x / 2) (count_trailing_zeros k (x / 2))) → (d : ℕ) → x % 2 ≡ d
        → Lowest (suc k) x (under d (count_trailing_zeros k (x / 2)))
    go rest zero e =
        up_one x (count_trailing_zeros k (x / 2)) k (elim (is (bit_of x 0)) [
          | is_false f ↦ f
          | is_true f ↦ absurd (omega (arith, low_bit x, ap one f))
        ])
        (rest (λ f. n (omega arith)))
    go rest (suc d) e = record {
      short = omega arith;
      here = elim (is (bit_of x 0)) [
        | is_true f ↦ f
        | is_false f ↦ absurd (omega (arith, low_bit x, ap one f))
      ];
      none = λ i m. absurd (not-suc-le-zero m);
    }
