-- Laws of an or that is zero exactly if all its parts are, and of words that are 0. Assumes nothing.
use mathlib.Core.Path.{◌≡◌, refl, sym, ap, ◌∙◌}
use mathlib.Core.Logic.{◌↔◌}
use mathlib.Core.List.{List}
use Prim.Native.Nat.{ℕ, ◌+◌, ◌≤◌}
use native.Mathlib.Omega.{arith}
use native.Mathlib.Decide.{dec_lt}
use lib.Bits.{bit_or, or_add_and, and_le_l, and_le_r}
use lib.ListN.{replicate}
use Rattle.parity.specs.Matrix.{lent}
use Rattle.parity.proofs.Matrix.Lent.{lent_empty}
use Rattle.rows.specs.Rows.{Empty}
use Rattle.rows.specs.Zeros.{Zeros}

-- an or is zero exactly if both its parts are
pub or_zero : (a b : ℕ) → (bit_or a b ≡ 0) ↔ ((a ≡ 0) × (b ≡ 0))
or_zero a b = (
  λ e. (omega (arith, or_add_and a b, and_le_l a b, and_le_r a b), omega (arith, or_add_and a b, and_le_l a b, and_le_r a b)),
  λ r. omega (arith, or_add_and a b),
)

pub zeros_none : (a : ℕ) (f : ℕ → ℕ) → Zeros a a f 0
zeros_none a f = record { none = λ e i k l. absurd (omega arith); back = λ g. refl }

zeros_one : (a : ℕ) (f : ℕ → ℕ) (x : ℕ) → x ≡ f a → Zeros a (a + 1) f x
zeros_one a f x e = record {
  none = λ z i k l. let q : i ≡ a = omega arith in ap f q ∙ sym e ∙ z;
  back = λ g. e ∙ g a (omega arith) (omega arith);
}

zeros_join : (a b d : ℕ) (f : ℕ → ℕ) (x y : ℕ) → a ≤ b → b ≤ d → Zeros a b f x → Zeros b d f y → Zeros a d f (bit_or x y)
zeros_join a b d f x y p q X Y = record {
  none = λ e i k l.
      let (s, t) = (or_zero x y).0 e in
      elim (dec_lt i b) [ yes m ↦ X.none s i k m | no m ↦ Y.none t i (omega arith) l ];
  back = λ g. (or_zero x y).1 (X.back (λ i k l. g i k (omega arith)), Y.back (λ i k l. g i (omega arith) l));
}

pub zeros_more : (a b : ℕ) (f : ℕ → ℕ) (x y : ℕ) → a ≤ b → Zeros a b f x → y ≡ f b → Zeros a (b + 1) f (bit_or x y)
zeros_more a b f x y p X e = zeros_join a b (b + 1) f x y p (omega arith) X (zeros_one b f y e)

-- words that are 0 are rows without a bit
pub empty : (W n : ℕ) (r : List ℕ) → r ≡ replicate n 0 → Empty (lent W r)
empty W n r z = record { at = lent_empty W n r z }
