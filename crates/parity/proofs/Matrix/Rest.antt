-- A word without its lowest one, as the machine's x & (x - 1) gives it. Assumes nothing.
use mathlib.Core.Path.{◌≡◌, refl, sym, ap, ◌∙◌}
use mathlib.Core.Bool.{Bool, true, false, not, ◌&&◌}
use Prim.Native.Nat.{ℕ, zero, suc, ◌+◌, ◌-◌, ◌/◌, ◌%◌, ◌<◌}
use native.Mathlib.Omega.{arith}
use lib.Bits.{bit_and, and_le_r}
use native.Mathlib.Decide.{ℕ_discrete}
use lib.Dec.{eqb}
use borrow.Author.Tests.{eq-eqb, ne_eqb}
use Rattle.parity.specs.Finite.{one}
use Rattle.parity.specs.Matrix.{bit_of}
use Rattle.parity.proofs.Finite.Sums.{is_true, is_false, is}
use Rattle.parity.proofs.Matrix.Digits.{bit_of_and, low_bit, higher}
use Rattle.parity.proofs.Matrix.Ones.{Lowest}

up : (x i : ℕ) → bit_of x (suc i) ≡ bit_of (x / 2) i
up x i = let s : suc i ≡ 1 + i = omega arith in rw s (higher x i)

-- the lowest bit as a remainder
is_odd : (x : ℕ) → bit_of x 0 ≡ true → x % 2 ≡ 1
is_odd x e = sym (low_bit x) ∙ ap one e

is_even : (x : ℕ) → bit_of x 0 ≡ false → x % 2 ≡ 0
is_even x e = sym (low_bit x) ∙ ap one e

even_bit : (x : ℕ) → x % 2 ≡ 0 → bit_of x 0 ≡ false
even_bit x e = elim (is (bit_of x 0)) [ is_false q ↦ q | is_true q ↦ absurd (omega (arith, is_odd x q)) ]

-- the lowest one of the half of an even word
half : (k x t : ℕ) → Lowest (suc k) x (suc t) → Lowest k (x / 2) t
half k x t L = record {
  short = omega (arith, L.short);
  here = sym (up x t) ∙ L.here;
  none = λ i l. sym (up x i) ∙ L.none (suc i) (omega arith);
}

both : (k x t : ℕ) → Lowest k x t → (i : ℕ) → (bit_of x i && bit_of (x - 1) i) ≡ (bit_of x i && not (eqb i t))
both zero x t L i = absurd (omega (arith, L.short))
both (suc k) x zero L zero =
    let o = is_odd x L.here in
    rw (even_bit (x - 1) (omega arith))
both (suc k) x zero L (suc i) =
    let o = is_odd x L.here in
    let e : (x - 1) / 2 ≡ x / 2 = omega arith in
    rw (up x i, up (x - 1) i, e, ne_eqb (suc i) 0 (λ q. omega arith)) (go (bit_of (x / 2) i))
  where
    go : (b : Bool) → (b && b) ≡ (b && true)
    go true = refl
    go false = refl
both (suc k) x (suc t) L zero = rw (L.none 0 (omega arith))
both (suc k) x (suc t) L (suc i) =
    let o = is_even x (L.none 0 (omega arith)) in
    let e : (x - 1) / 2 ≡ x / 2 - 1 = omega arith in
    rw (up x i, up (x - 1) i, e) (both k (x / 2) t (half k x t L) i ∙ rw (same i t))
  where
    same : (a b : ℕ) → eqb (suc a) (suc b) ≡ eqb a b
    same a b = elim (ℕ_discrete a b) [ yes q ↦ rw (eq-eqb a b q, eq-eqb (suc a) (suc b) (omega arith)) | no d ↦ rw (ne_eqb a b d, ne_eqb (suc a) (suc b) (λ r. omega arith)) ]

pub rest_bit : (k x t : ℕ) → Lowest k x t → (i : ℕ) → bit_of (bit_and x (x - 1)) i ≡ (bit_of x i && not (eqb i t))
rest_bit k x t L i = bit_of_and x (x - 1) i ∙ both k x t L i

pub rest_less : (x : ℕ) → (x ≡ 0 → ⊥) → bit_and x (x - 1) < x
rest_less x d = omega (arith, and_le_r x (x - 1))
