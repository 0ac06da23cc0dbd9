-- The lowest place whose byte is above a value. Assumes nothing.
use Rattle.std.specs.Prelude.{ℕ, List, length, Option, ltb}
use Rattle.parity.specs.Finite.{first}
use Rattle.parity.specs.Calls.{byte_of}

unfoldable pub first_wrong : ℕ → List ℕ → Option ℕ
first_wrong top w = first (length w) (λ b. ltb top (byte_of w b))
