-- The largest number of those in planes. Assumes nothing.
use mathlib.Core.Path.{◌≡◌, refl, sym, ◌∙◌}
use mathlib.Core.Bool.{true, false, and-eq-true_iff, true≢false, false≢true}
use Prim.Native.Nat.{ℕ, ◌+◌, ◌*◌, ◌≤◌, ◌<◌}
use native.Mathlib.Omega.{arith}
use lib.Bits.{bit_and, and_le_l}
use Rattle.parity.specs.Matrix.{bit_of}
use Rattle.parity.proofs.Finite.Sums.{is, is_true, is_false, one≤1}
use Rattle.parity.proofs.Matrix.Digits.{bit_zero, bit_of_and}
use Rattle.columns.specs.Planes.{next}
use Rattle.choice.specs.Numbers.{Candidates}

-- the largest number: one plane more
no_both : (left plane t : ℕ) → bit_and left plane ≡ 0 → bit_of left t ≡ true → bit_of plane t ≡ false
no_both left plane t e l =
    elim (is (bit_of plane t)) [
      | is_false f ↦ f
      | is_true f ↦ absurd (false≢true (sym (bit_zero t) ∙ rw e at (bit_of_and left plane t) ∙ rw (l, f)))
    ]

module _ (left value plane : ℕ) where
  pub candidates_some : (bit_and left plane ≡ 0 → ⊥) → Candidates left value plane (bit_and left plane) (value * 2 + 1)
  candidates_some d = record {
    kept = λ t e.
        let (l, p) = (and-eq-true_iff (bit_of left t) (bit_of plane t)).0 (sym (bit_of_and left plane t) ∙ e) in
        (l, rw p (omega arith));
    lost = λ t k l e.
        let p : bit_of plane t ≡ false = sym (sym e ∙ bit_of_and left plane t ∙ rw l) in
        rw p (omega arith);
    least = omega arith;
    some = λ e. absurd (d e);
    few = omega arith;
    less = and_le_l left plane;
  }

  pub candidates_none : bit_and left plane ≡ 0 → Candidates left value plane left (value * 2)
  candidates_none z = record {
    kept = λ t e. (e, rw (no_both left plane t z e) (omega arith));
    lost = λ t k l e. absurd (true≢false (sym l ∙ e));
    least = omega arith;
    some = λ e. e;
    few = omega arith;
    less = omega arith;
  }

-- the candidates after some planes, which hold the numbers f
pub record Stage (f : ℕ → ℕ) (mask left value : ℕ) : Type 0 where
  pub here : (t : ℕ) → bit_of left t ≡ true → (bit_of mask t ≡ true) × (f t ≡ value)
  pub below : (t : ℕ) → t < 64 → bit_of mask t ≡ true → bit_of left t ≡ false → f t < value
  pub some : left ≡ 0 → mask ≡ 0
  pub less : left ≤ mask

pub stage_start : (mask : ℕ) → Stage (λ t. 0) mask mask 0
stage_start mask = record { here = λ t e. (e, refl); below = λ t k l e. absurd (true≢false (sym l ∙ e)); some = λ e. e; less = omega arith }

pub stage_next : (f : ℕ → ℕ) (mask left value plane left' value' : ℕ) → Stage f mask left value → Candidates left value plane left' value' → Stage (next plane f) mask left' value'
stage_next f mask left value plane left' value' S C = record {
  here = λ t e. let (l, v) = C.kept t e in let (m, q) = S.here t l in (m, omega arith);
  below = λ t k m e. elim (is (bit_of left t)) [
    | is_true l ↦ omega (arith, C.lost t k l e, (S.here t l).1)
    | is_false l ↦ omega (arith, S.below t k m l, C.least, one≤1 (bit_of plane t))
  ];
  some = λ e. S.some (C.some e);
  less = omega (arith, S.less, C.less);
}
