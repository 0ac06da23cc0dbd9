-- The outcome of peeling behind the causes before 12. Assumes nothing.
use Rattle.std.specs.Prelude.{ℕ, ◌+◌, List}
use Rattle.parity.specs.Matrix.{Matrix}
use Rattle.parity.specs.Words.{peels, peeled}
use Rattle.parity.specs.Causes.{Outcome}
use Rattle.parity.specs.Calls.{byte_of}
use Rattle.word.specs.Solved.{solved_outcome}

-- peeling a word of n sent and k added bits that the causes before 12 do not refuse, in M checks
abbrev pub word_outcome : Matrix → ℕ → ℕ → ℕ → List ℕ → Outcome
word_outcome h n k M w = solved_outcome n k w (peels h (n + k) M (byte_of w)) (peeled h (n + k) M (byte_of w))
