-- Sums modulo 2, as tests. Assumes nothing.
use mathlib.Core.Path.{◌≡◌, refl}
use mathlib.Core.Bool.{Bool, true, false, xor}
use Prim.Native.Nat.{ℕ, ◌+◌, ◌%◌}
use native.Mathlib.Omega.{arith}
use native.Mathlib.Decide.{ℕ_discrete}
use borrow.Author.Tests.{eq-eqb, ne_eqb}
use Rattle.parity.specs.Finite.{one}
use Rattle.parity.specs.Words.{odd}

pub xor_assoc : (p q r : Bool) → xor (xor p q) r ≡ xor p (xor q r)
unfolding xor
xor_assoc true true true = refl
xor_assoc true true false = refl
xor_assoc true false true = refl
xor_assoc true false false = refl
xor_assoc false true true = refl
xor_assoc false true false = refl
xor_assoc false false true = refl
xor_assoc false false false = refl

pub odd_of : (b : Bool) → odd (one b) ≡ b
unfolding odd
odd_of true = refl
odd_of false = refl

pub odd_add : (a b : ℕ) → odd (a + b) ≡ xor (odd a) (odd b)
unfolding odd xor
odd_add a b =
    elim (ℕ_discrete (a % 2) 1) [
      | yes p ↦ elim (ℕ_discrete (b % 2) 1) [
        | yes q ↦ rw (eq-eqb (a % 2) 1 p, eq-eqb (b % 2) 1 q) (ne_eqb ((a + b) % 2) 1 (λ z. omega arith))
        | no q ↦ rw (eq-eqb (a % 2) 1 p, ne_eqb (b % 2) 1 q) (eq-eqb ((a + b) % 2) 1 (omega arith))
      ]
      | no p ↦ elim (ℕ_discrete (b % 2) 1) [
        | yes q ↦ rw (ne_eqb (a % 2) 1 p, eq-eqb (b % 2) 1 q) (eq-eqb ((a + b) % 2) 1 (omega arith))
        | no q ↦ rw (ne_eqb (a % 2) 1 p, ne_eqb (b % 2) 1 q) (ne_eqb ((a + b) % 2) 1 (λ z. omega arith))
      ]
    ]
