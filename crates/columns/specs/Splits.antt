-- Columns after the split of two bits, and those before it. Assumes nothing.
use Rattle.std.specs.Prelude.{◌≡◌, false, not, cond, ◌&&◌, ◌||◌, ℕ, ◌/◌, eqb, ltb}
use Rattle.parity.specs.Matrix.{Matrix}

-- the columns after the split of u and v, whose new bit is z
unfoldable pub parted : ℕ → ℕ → ℕ → Matrix → Matrix
parted u v z g x c =
    cond (eqb x z) (g u c && g v c)
    (cond (eqb x u || eqb x v) (g x c && not (g u c && g v c))
    (g x c))

-- the columns before it
unfoldable pub joined : ℕ → ℕ → ℕ → Matrix → Matrix
joined u v z g x c = cond (eqb x z) false (g x c || ((eqb x u || eqb x v) && g z c))

-- g' has what f makes of the columns g in word i, and else what they have
pub record InWord (f : Matrix → Matrix) (g g' : Matrix) (i : ℕ) : Type 0 where
  pub at : (x c : ℕ) → g' x c ≡ cond (eqb (c / 64) i) (f g x c) (g x c)

-- .. in the words below i
pub record InWords (f : Matrix → Matrix) (g g' : Matrix) (i : ℕ) : Type 0 where
  pub at : (x c : ℕ) → g' x c ≡ cond (ltb (c / 64) i) (f g x c) (g x c)

-- the columns after the split, and before it
pub record Parted (g g' : Matrix) (u v z : ℕ) : Type 0 where
  pub at : (x c : ℕ) → g' x c ≡ parted u v z g x c

pub record Joined (g g' : Matrix) (u v z : ℕ) : Type 0 where
  pub at : (x c : ℕ) → g' x c ≡ joined u v z g x c
