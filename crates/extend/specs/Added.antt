-- Extending: what stands in the word on the way. Assumes nothing.
use Rattle.std.specs.Prelude.{◌≡◌, List, ℕ, ◌+◌, ◌≤◌, ◌<◌}
use Rattle.parity.specs.Finite.{one, list_from}
use Rattle.parity.specs.Matrix.{Matrix}
use Rattle.parity.specs.Words.{is_one, extended}
use Rattle.parity.specs.Calls.{byte_of}

-- the first n bytes of w are those of sent
pub record Copied (sent : List ℕ) (n : ℕ) (w : List ℕ) : Type 0 where
  pub at : (b : ℕ) → b < n → byte_of w b ≡ byte_of sent b

-- the first N bytes are 0 or 1
pub record Bits (w : List ℕ) (N : ℕ) : Type 0 where
  pub at : (b : ℕ) → b < N → byte_of w b ≤ 1

-- the first n + j bytes of w' are those of w, extended
pub record ExtendedTo (h : Matrix) (n m j : ℕ) (w w' : List ℕ) : Type 0 where
  pub at : (b : ℕ) → b < n + j → byte_of w' b ≡ one (extended h n m j (is_one (byte_of w)) b)

-- the sent bytes, extended
unfoldable pub extended_bytes : Matrix → ℕ → ℕ → ℕ → List ℕ → List ℕ
extended_bytes h n m k sent = list_from 0 (n + k) (λ b. one (extended h n m k (is_one (byte_of sent)) b))
