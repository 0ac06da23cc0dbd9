-- Ours, beyond documents 01 and 02: which bits of a codeword hold the message, and which are parity bits (01, 'Encoding'), for a matrix with k = 0.
-- Assumes nothing.
use Rattle.std.specs.Prelude.{ℕ, List, [], ltb}
use Rattle.parity.specs.Finite.{one, list_from}
use Rattle.parity.specs.Matrix.{lent}
use Rattle.parity.specs.Encoding.{dependent}
use Rattle.parity.specs.Causes.{Reply, answer, refusal, refuse, accepting, Outcome, leaving}
use Rattle.parity.specs.Calls.{wrong_length}

-- message_bits: writes 0 for a parity bit and 1 for every other bit, of n
unfoldable pub message_bits_reply : List ℕ → ℕ → ℕ → ℕ → List ℕ → Reply
message_bits_reply ws n m k set = accepting ws n m k (refuse (ltb 0 k) (refusal 13 []) (refuse (wrong_length n set) (refusal 10 []) (answer [])))

unfoldable pub message_bits_outcome : List ℕ → ℕ → ℕ → ℕ → List ℕ → Outcome
message_bits_outcome ws n m k set = leaving set (message_bits_reply ws n m k set) (list_from 0 n (λ b. one (dependent (lent 8 ws) m b)))
