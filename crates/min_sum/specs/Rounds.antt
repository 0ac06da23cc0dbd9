-- What the rounds are given. Assumes nothing.
use Rattle.std.specs.Prelude.{ℕ, ◌≡◌, List, length, Float}
use Rattle.parity.specs.Matrix.{lent}
use Rattle.parity.specs.Soft.{message_at}
use Rattle.soft.specs.Store.{Sounds}
use Rattle.messages.specs.Memory.{Laid, Within, Inner, across}

-- the words ws of a matrix with M checks, a word w of its bits with their floats f, and the memory
pub record Ready (ws : List ℕ) (M : ℕ) (w : List ℕ) (f : List Float) (ts : List ℕ) (xs : List Float) : Type 0 where
  pub laid : Laid ws (lent 8 ws) ts xs
  pub within : Within (lent 8 ws) M
  pub inner : Inner (lent 8 ws) w f
  pub sounds : Sounds (length w) (message_at w f)

-- the columns of the matrix
pub record Turned (ws cols : List ℕ) : Type 0 where
  pub long : length cols ≡ 4096
  pub same : across (lent 8 cols) ≡ lent 8 ws
