-- Pivots filled in. Assumes nothing.
use Rattle.std.specs.Prelude.{ℕ, ◌%◌, ◌≤◌, ◌<◌, ◌≡◌, true, false, List}
use Rattle.parity.specs.Matrix.{Matrix}
use Rattle.parity.specs.Words.{is_one, inside}
use Rattle.elimination.specs.Reduction.{pivot}
use Rattle.message_bits.specs.Placing.{pivot_at, Rising}

-- r checks, each with a pivot, in rising order, that is its lowest bit, and 0 in the word w
pub record Open (g : Matrix) (n r : ℕ) (pivots : List ℕ) (w : ℕ → ℕ) : Type 0 where
  pub rising : Rising n r pivots
  pub own : (c : ℕ) → c < r → g c (pivot_at pivots c) ≡ true
  pub first : (c j : ℕ) → c < r → j < pivot_at pivots c → g c j ≡ false
  pub none : (c : ℕ) → c < r → w (pivot_at pivots c) ≡ 0

-- u is the word w in which the pivots of the checks from i on make these even.
pub record Filled (g : Matrix) (n r : ℕ) (pivots : List ℕ) (i : ℕ) (w u : ℕ → ℕ) : Type 0 where
  pub even : (c : ℕ) → i ≤ c → c < r → inside g n c (is_one u) % 2 ≡ 0
  pub bit : (c : ℕ) → i ≤ c → c < r → u (pivot_at pivots c) ≤ 1
  pub none : (c : ℕ) → c < i → u (pivot_at pivots c) ≡ 0
  pub else : (b : ℕ) → pivot r (pivot_at pivots) b ≡ false → u b ≡ w b
