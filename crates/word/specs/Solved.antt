-- What a word that no cause before 12 refuses comes to, from whether it is solved and what results. Assumes nothing.
use Rattle.std.specs.Prelude.{ℕ, ◌+◌, Bool, not, List, []}
use Rattle.parity.specs.Finite.{list_from}
use Rattle.parity.specs.Words.{losses}
use Rattle.parity.specs.Causes.{Reply, answer, refusal, refuse, accepting, Outcome, leaving}
use Rattle.parity.specs.Calls.{byte_of, checking_bytes}

-- of n sent and k added bits: refused 12, or the four numbers of M-100
unfoldable pub solved_reply : ℕ → ℕ → List ℕ → Bool → (ℕ → ℕ) → Reply
solved_reply n k w solves result = refuse (not solves) (refusal 12 []) (answer (losses n k (byte_of w) result))

unfoldable pub solved_outcome : ℕ → ℕ → List ℕ → Bool → (ℕ → ℕ) → Outcome
solved_outcome n k w solves result = leaving w (solved_reply n k w solves result) (list_from 0 (n + k) result)

-- the same behind the causes before 12: peeling and determining are of this form
abbrev pub solving_outcome : List ℕ → ℕ → ℕ → ℕ → List ℕ → Bool → (ℕ → ℕ) → Outcome
solving_outcome ws n m k w solves result =
    leaving w (accepting ws n m k (checking_bytes (n + k) 2 w (solved_reply n k w solves result))) (list_from 0 (n + k) result)
