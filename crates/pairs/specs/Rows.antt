-- What two rows of words have in common. Assumes nothing.
use Rattle.std.specs.Prelude.{Bool, cond, ◌&&◌, List, Option, Some, None, ℕ}
use Rattle.parity.specs.Finite.{any, greatest}
use Rattle.parity.specs.Matrix.{lent}

-- bit t is in row i of a and in row j of b, W words to a row
abbrev pub in_both : ℕ → List ℕ → ℕ → List ℕ → ℕ → ℕ → Bool
in_both W a i b j t = lent W a i t && lent W b j t

-- the largest of 0 .. n - 1 that passes the test, and nothing if none does
abbrev pub last : ℕ → (ℕ → Bool) → Option ℕ
last n p = cond (any n p) (Some (greatest n p)) None
