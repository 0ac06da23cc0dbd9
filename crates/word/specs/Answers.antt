-- What the calls on words and sets answer, as document 01's number and values. Assumes nothing.
use Rattle.std.specs.Prelude.{ℕ, ◌+◌, List, []}
use Rattle.parity.specs.Causes.{Reply, answer, accepting}
use Rattle.parity.specs.Calls.{checking_bytes}

-- causes 1 to 4 of a matrix, then 10 and 11 of its n + k bytes
unfoldable pub admit_reply : List ℕ → ℕ → ℕ → ℕ → List ℕ → ℕ → Reply
admit_reply ws n m k w top = accepting ws n m k (checking_bytes (n + k) top w (answer []))
