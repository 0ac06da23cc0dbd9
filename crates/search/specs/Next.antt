-- A check with exactly one erased bit, of N bits and M checks. Assumes nothing.
use Rattle.std.specs.Prelude.{◌≡◌, Bool, true, ℕ, ◌≤◌, ◌<◌}
use Rattle.parity.specs.Matrix.{Matrix}
use Rattle.parity.specs.Words.{inside}

-- Check c has exactly one of the erased bits e, namely b.
pub record Lone (h : Matrix) (N M : ℕ) (e : ℕ → Bool) (c b : ℕ) : Type 0 where
  pub check : c < M
  pub bit : b < N
  pub has : h c b ≡ true
  pub gone : e b ≡ true
  pub only : inside h N c e ≡ 1

-- No check from `from` on has exactly one erased bit.
pub record NoSingle (h : Matrix) (N M from : ℕ) (e : ℕ → Bool) : Type 0 where
  pub none : (c : ℕ) → from ≤ c → c < M → inside h N c e ≡ 1 → ⊥
