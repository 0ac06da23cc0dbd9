-- The checks that touch a set of bits, gathered into rows of B bits. Assumes nothing.
use Rattle.std.specs.Prelude.{◌≡◌, Bool, ℕ, ◌≤◌, ◌<◌}
use Rattle.parity.specs.Matrix.{Matrix}
use Rattle.parity.specs.Words.{inside}

-- row d of g is check c of h
pub record Copied (h g : Matrix) (B c d : ℕ) : Type 0 where
  pub same : (b : ℕ) → b < B → g d b ≡ h c b

-- The L rows of g are checks of h below M, and each of these that contains one of the bits e is among them.
pub record Gathered (h g : Matrix) (B M : ℕ) (e : ℕ → Bool) (L : ℕ) : Type 0 where
  pub few : L ≤ M
  pub from : (d : ℕ) → d < L → (c : ℕ) × (c < M) × Copied h g B c d
  pub all : (c : ℕ) → c < M → (inside h B c e ≡ 0 → ⊥) → (d : ℕ) × (d < L) × Copied h g B c d
