-- Document 02, M-108: what is promised of solving checks in any order, beside what peeling answers and leaves. Assumes nothing.
use Rattle.std.specs.Prelude.{ℕ, ◌+◌, ◌<◌, ◌≡◌, Bool, true, List, [], ◌∷◌, ◌++◌, length}
use Rattle.parity.specs.Causes.{answer}
use Rattle.parity.specs.Matrix.{lent}
use Rattle.parity.specs.Calls.{byte_of, peel_outcome}
use Rattle.parity.specs.Demand3.{Verifies, erasing, Left}
use Rattle.parity.specs.Solving.{solving_all, is_run, is_complete}

-- M-108: what holds of a word w got by erasing bits of the codeword x, and of the lists of solving steps on it.
pub record AnyOrder (ws : List ℕ) (n m k : ℕ) (x w : List ℕ) : Type 0 where
  -- peeling answers its four numbers
  pub sent : ℕ
  pub added : ℕ
  pub sent_left : ℕ
  pub added_left : ℕ
  pub answers : (peel_outcome ws n m k w).reply ≡ answer (sent ∷ added ∷ sent_left ∷ added_left ∷ [])
  -- every complete run ends in the same word as peeling, and has as many steps as bits are recovered, sent and added ones together;
  pub same_word : (cs : List ℕ) → is_complete (lent 8 ws) (n + k) (m + k) w cs ≡ true → solving_all (lent 8 ws) (n + k) w cs ≡ (peel_outcome ws n m k w).after
  pub total : (cs : List ℕ) → is_complete (lent 8 ws) (n + k) (m + k) w cs ≡ true → length cs ≡ sent + added
  -- every run, complete or not, has written the codeword's bits alone,
  pub right : (cs : List ℕ) → is_run (lent 8 ws) (n + k) (m + k) w cs ≡ true → (b : ℕ) → b < n + k
      → (Left (solving_all (lent 8 ws) (n + k) w cs) b → ⊥) → byte_of (solving_all (lent 8 ws) (n + k) w cs) b ≡ byte_of x b
  -- and can be gone on with to a complete one: none is a dead end, and complete ones exist
  pub goes_on : (cs : List ℕ) → is_run (lent 8 ws) (n + k) (m + k) w cs ≡ true
      → (more : List ℕ) × (is_complete (lent 8 ws) (n + k) (m + k) w (cs ++ more) ≡ true)

-- for every matrix that is accepted, every codeword, and whichever of its bytes are made 2.
abbrev pub SolvedInAnyOrder : Type 0
SolvedInAnyOrder = (ws : List ℕ) (n m k : ℕ) (x : List ℕ) → Verifies ws n m k x → (e : ℕ → Bool) → AnyOrder ws n m k x (erasing e x)
