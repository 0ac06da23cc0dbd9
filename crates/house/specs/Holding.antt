-- Words while a code is copied into them. Assumes nothing.
use Rattle.std.specs.Prelude.{◌≡◌, cond, List, ℕ, ◌*◌, ◌/◌, ◌<◌, ltb, get_or}
use Rattle.parity.specs.Matrix.{Matrix, word_of}

-- the words, W for each check, hold the checks of h below c, and no others
pub record Holding (W : ℕ) (h : Matrix) (c : ℕ) (words : List ℕ) : Type 0 where
  pub held : (j : ℕ) → j < 512 * W → get_or words j 0 ≡ cond (ltb (j / W) c) (word_of W h j) 0
