-- Encoding behind causes 1 to 4 and 13. Assumes nothing.
use Rattle.std.specs.Prelude.{ℕ, ◌-◌, List, [], length}
use Rattle.parity.specs.Finite.{one, list_from}
use Rattle.parity.specs.Matrix.{lent}
use Rattle.parity.specs.Words.{is_one}
use Rattle.parity.specs.Encoding.{rank_of, encoded}
use Rattle.parity.specs.Causes.{answer, Outcome, leaving}
use Rattle.parity.specs.Calls.{byte_of, checking_bytes}

-- encoding with an accepted matrix that has k = 0, for a word of n bytes
unfoldable pub given_outcome : List ℕ → ℕ → List ℕ → List ℕ → Outcome
given_outcome ws m message w =
    leaving w (checking_bytes (length w - rank_of (lent 8 ws) (length w) m) 1 message (answer []))
    (list_from 0 (length w) (λ b. one (encoded (lent 8 ws) (length w) m (is_one (byte_of message)) b)))
