-- A row beside an empty one. Assumes nothing.
use Rattle.std.specs.Prelude.{◌≡◌, false, List, ℕ, length}
use Rattle.parity.specs.Matrix.{lent}

-- sixteen words, of which the first W, a row, are empty
pub record Blank (W : ℕ) (r : List ℕ) : Type 0 where
  pub size : length r ≡ 16
  pub none : (b : ℕ) → lent W r 0 b ≡ false

-- and the next W are those of check c
pub record RowOf (W : ℕ) (ws : List ℕ) (c : ℕ) (r : List ℕ) : Type 0 where
  pub blank : Blank W r
  pub bits : lent W r 1 ≡ lent W ws c
