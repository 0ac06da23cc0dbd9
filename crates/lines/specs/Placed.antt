-- Bytes put at a place of a buffer. Assumes nothing.
use Rattle.std.specs.Prelude.{ℕ, ◌+◌, ◌≤◌, ◌≡◌, List, ◌++◌, length, take, drop}

-- the buffer with the text from place p on, and the rest of it as it was
unfoldable pub placed : ℕ → List ℕ → List ℕ → List ℕ
placed p text old = take p old ++ text ++ drop (p + length text) old

-- The text stands from place p on, and r is the place after it.
pub record Placed (old : List ℕ) (p : ℕ) (text new : List ℕ) (r : ℕ) : Type 0 where
  pub next : r ≡ p + length text
  pub room : r ≤ length old
  pub made : new ≡ placed p text old
