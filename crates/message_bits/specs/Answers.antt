-- The marks of the bits that hold a message. Assumes nothing.
use Rattle.std.specs.Prelude.{ℕ, List}
use Rattle.parity.specs.Finite.{one, list_from}
use Rattle.parity.specs.Matrix.{lent}
use Rattle.parity.specs.Encoding.{dependent}

-- the marks of n bits: 0 for a parity bit, 1 for every other bit
abbrev pub marks : List ℕ → ℕ → ℕ → List ℕ
marks ws n m = list_from 0 n (λ b. one (dependent (lent 8 ws) m b))
