-- What acceptance says of the matrix itself, as facts, for contracts between crates. Assumes nothing.
use Rattle.std.specs.Prelude.{ℕ, suc, ◌+◌, ◌≤◌, ◌<◌, ◌≡◌, true, false}
use Rattle.parity.specs.Finite.{count}
use Rattle.parity.specs.Matrix.{Matrix, rule_a}
use Rattle.parity.specs.Cycles.{share}

-- A matrix has no one at bit N or above, nor at check M or above: cause 3 in bits (`cleans` of proofs/Matrix/Clean).
pub record Clean (h : Matrix) (N M : ℕ) : Type 0 where
  pub checks : (c b : ℕ) → M ≤ c → h c b ≡ false
  pub bits : (c b : ℕ) → N ≤ b → h c b ≡ false

-- A matrix that causes 2 to 4 do not refuse (`accepts` of proofs/Matrix/Accept).
pub record Sound (h : Matrix) (n m k : ℕ) : Type 0 where
  pub n1 : 1 ≤ n
  pub n120 : n ≤ 120
  pub m120 : m ≤ 120
  pub k392 : k ≤ 392
  pub clean : Clean h (n + k) (m + k)
  pub rule : rule_a h n m k ≡ true

-- A matrix whose newest added check, M, keeps rule A; N is its own bit (`newest` of proofs/Splits/Undo: every sound one with k above 0 is).
pub record Newest (h : Matrix) (N M : ℕ) : Type 0 where
  pub clean : Clean h (suc N) (suc M)
  pub own : h M N ≡ true
  pub two : count N (h M) ≡ 2
  pub alone : (a b : ℕ) → a < b → b < suc N → h M a ≡ true → h M b ≡ true → share h (suc M) a b ≡ 1
