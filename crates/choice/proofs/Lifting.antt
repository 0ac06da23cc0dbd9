-- Bounds that take in the numbers of planes. Assumes nothing.
use mathlib.Core.Path.{◌≡◌, sym, ap, ◌∙◌}
use mathlib.Core.Bool.{false, not, and-true}
use mathlib.Core.List.{List}
use Prim.Native.Nat.{ℕ, ◌+◌, ◌*◌, ◌-◌, ◌%◌, ◌^◌, ◌≤◌, ◌<◌, max}
use native.Mathlib.Omega.{arith}
use native.Mathlib.Decide.{ℕ_discrete}
use lib.Bits.{bit_and, bit_or}
use lib.ListN.{get_or, length, set}
use lib.Seq.{get_or-set_same, get_or-set_other}
use borrow.Author.Tests.{eq-eqb, ne_eqb}
use Rattle.parity.specs.Finite.{one}
use Rattle.parity.specs.Matrix.{bit_of}
use Rattle.parity.proofs.Finite.Sums.{one≤1}
use Rattle.parity.proofs.Finite.Bools.{or_false_both}
use Rattle.parity.proofs.Matrix.Digits.{one_shl, bit_zero, bit_of_or, bit_test}
use Rattle.parity.proofs.Matrix.Ones.{Lowest}
use Rattle.parity.proofs.Matrix.Rest.{rest_bit}
use Rattle.columns.specs.Planes.{number}
use Rattle.choice.specs.Numbers.{high, Several, Lifted}
use Rattle.columns.specs.declared.planes.Planes.{Planes}

-- the numbers that are two or more
pub several_places : (p : Planes) → Several p (bit_or (bit_or (bit_or (bit_or (bit_or p.p1 p.p2) p.p3) p.p4) p.p5) p.p6)
unfolding number
several_places p = record {
  few = λ t e.
      let a2 : ℕ = bit_or p.p1 p.p2 in
      let a3 : ℕ = bit_or a2 p.p3 in
      let a4 : ℕ = bit_or a3 p.p4 in
      let a5 : ℕ = bit_or a4 p.p5 in
      let (e5, d6) = or_false_both (bit_of a5 t) (bit_of p.p6 t) (sym (bit_of_or a5 p.p6 t) ∙ e) in
      let (e4, d5) = or_false_both (bit_of a4 t) (bit_of p.p5 t) (sym (bit_of_or a4 p.p5 t) ∙ e5) in
      let (e3, d4) = or_false_both (bit_of a3 t) (bit_of p.p4 t) (sym (bit_of_or a3 p.p4 t) ∙ e4) in
      let (e2, d3) = or_false_both (bit_of a2 t) (bit_of p.p3 t) (sym (bit_of_or a2 p.p3 t) ∙ e3) in
      let (d1, d2) = or_false_both (bit_of p.p1 t) (bit_of p.p2 t) (sym (bit_of_or p.p1 p.p2 t) ∙ e2) in
      rw (d1, d2, d3, d4, d5, d6) (omega (arith, one≤1 (bit_of p.p0 t)));
}

-- taking in the numbers at the ones of a word
pub lifted_none : (p : Planes) (i : ℕ) (bound : List ℕ) (x : ℕ) → Several p x → Lifted p i bound bound x
lifted_none p i bound x S = record { kept = λ y. omega arith; over = λ t k e l. absurd (omega (arith, S.few t e)); few = λ y b a f. a }

module _ (p : Planes) (i : ℕ) (bound₀ bound : List ℕ) (rest t : ℕ) (L : Lifted p i bound₀ bound rest) (T : Lowest 64 rest t) (room : i * 64 + t < length bound) where
  pub lifted_next : Lifted p i bound₀ (set bound (i * 64 + t) (max (get_or bound (i * 64 + t) 0) (number p t))) (bit_and rest (rest - 1))
  lifted_next =
      let short = T.short in
      record {
        kept = λ x. elim (ℕ_discrete x (i * 64 + t)) [
          | yes q ↦ rw (q, get_or-set_same bound (i * 64 + t) (max (get_or bound (i * 64 + t) 0) (number p t)) 0 room) (omega (arith, L.kept (i * 64 + t)))
          | no d ↦ rw (get_or-set_other bound (i * 64 + t) x (max (get_or bound (i * 64 + t) 0) (number p t)) 0 d) (L.kept x)
        ];
        over = λ s k e l. elim (ℕ_discrete s t) [
          | yes q ↦ rw (q, get_or-set_same bound (i * 64 + t) (max (get_or bound (i * 64 + t) 0) (number p t)) 0 room) (omega arith)
          | no d ↦
              let f : bit_of rest s ≡ false = sym (sym e ∙ rest_bit 64 rest t T s ∙ rw (ne_eqb s t d, and-true)) in
              rw (get_or-set_other bound (i * 64 + t) (i * 64 + s) (max (get_or bound (i * 64 + t) 0) (number p t)) 0 (λ r. d (omega arith))) (L.over s k f l)
        ];
        few = λ x b a f. elim (ℕ_discrete x (i * 64 + t)) [
          | yes q ↦
              let r : x % 64 ≡ t = omega arith in
              let v : number p t ≤ b = rw r at (f (omega arith)) in
              rw (q, get_or-set_same bound (i * 64 + t) (max (get_or bound (i * 64 + t) 0) (number p t)) 0 room) (omega (arith, rw q at (L.few x b a f)))
          | no d ↦ rw (get_or-set_other bound (i * 64 + t) x (max (get_or bound (i * 64 + t) 0) (number p t)) 0 d) (L.few x b a f)
        ];
      }

-- no digit above the fourth
pub high_zero : (p : Planes) (t : ℕ) → bit_or (bit_or p.p4 p.p5) p.p6 ≡ 0 → high p t ≡ 0
unfolding high
high_zero p t e =
    let (d, d6) = or_false_both (bit_of (bit_or p.p4 p.p5) t) (bit_of p.p6 t) (sym (bit_of_or (bit_or p.p4 p.p5) p.p6 t) ∙ rw e (bit_zero t)) in
    let (d4, d5) = or_false_both (bit_of p.p4 t) (bit_of p.p5 t) (sym (bit_of_or p.p4 p.p5 t) ∙ d) in
    rw (d4, d5, d6)

-- a digit, by the word that has a one at its place alone
pub digit_none : (x t : ℕ) → t < 64 → bit_and x (1 * 2 ^ t % 2 ^ 64) ≡ 0 → 0 ≡ one (bit_of x t)
digit_none x t k e = sym (ap one (sym (bit_test x t) ∙ ap not (eq-eqb (bit_and x (2 ^ t)) 0 (rw (one_shl t k) at e))))

pub digit_some : (x t : ℕ) → t < 64 → (bit_and x (1 * 2 ^ t % 2 ^ 64) ≡ 0 → ⊥) → 1 ≡ one (bit_of x t)
digit_some x t k d = sym (ap one (sym (bit_test x t) ∙ ap not (ne_eqb (bit_and x (2 ^ t)) 0 (rw (one_shl t k) at d))))
