-- What is read of numbers in planes. Assumes nothing.
use Rattle.std.specs.Prelude.{◌≡◌, true, false, List, ℕ, ◌+◌, ◌*◌, ◌/◌, ◌%◌, ◌≤◌, ◌<◌, get_or}
use Rattle.parity.specs.Finite.{one}
use Rattle.parity.specs.Matrix.{bit_of}
use Rattle.columns.specs.Planes.{next, number}
use Rattle.columns.specs.declared.planes.Planes.{Planes}

-- the upper three digits of the number at t
unfoldable pub high : Planes → ℕ → ℕ
high p = next p.p4 (next p.p5 (next p.p6 (λ t. 0)))

-- one plane more: those places that have a one in it, if there are any, and the largest number so far
pub record Candidates (left value plane left' value' : ℕ) : Type 0 where
  pub kept : (t : ℕ) → bit_of left' t ≡ true → (bit_of left t ≡ true) × (value' ≡ one (bit_of plane t) + 2 * value)
  pub lost : (t : ℕ) → t < 64 → bit_of left t ≡ true → bit_of left' t ≡ false → one (bit_of plane t) + 2 * value < value'
  pub least : 2 * value ≤ value'
  pub some : left' ≡ 0 → left ≡ 0
  pub few : value' ≤ 2 * value + 1
  pub less : left' ≤ left

-- value is the largest number at the ones of mask, and left has the places of it
pub record Best (p : Planes) (mask left value : ℕ) : Type 0 where
  pub here : (t : ℕ) → bit_of left t ≡ true → (bit_of mask t ≡ true) × (number p t ≡ value)
  pub below : (t : ℕ) → t < 64 → bit_of mask t ≡ true → bit_of left t ≡ false → number p t < value
  pub some : left ≡ 0 → mask ≡ 0
  pub less : left ≤ mask

-- x has the places of the numbers that are two or more
pub record Several (p : Planes) (x : ℕ) : Type 0 where
  pub few : (t : ℕ) → bit_of x t ≡ false → number p t < 2

-- The bounds of the bits of word i took in the numbers, but for those at the ones of the rest: no bound fell, and none rose above
-- both its old value and its number.
pub record Lifted (p : Planes) (i : ℕ) (bound bound' : List ℕ) (rest : ℕ) : Type 0 where
  pub kept : (x : ℕ) → get_or bound x 0 ≤ get_or bound' x 0
  pub over : (t : ℕ) → t < 64 → bit_of rest t ≡ false → 2 ≤ number p t → number p t ≤ get_or bound' (i * 64 + t) 0
  pub few : (x b : ℕ) → get_or bound x 0 ≤ b → (x / 64 ≡ i → number p (x % 64) ≤ b) → get_or bound' x 0 ≤ b
