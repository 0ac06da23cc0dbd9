-- What a receiver relies on that peels a word with a given matrix and with its orthogonalised copy. Assumes nothing.
use Rattle.std.specs.Prelude.{ℕ, ◌<◌, ◌≡◌, Bool, true, List}
use Rattle.parity.specs.Calls.{byte_of}
use Rattle.parity.specs.Demand3.{Verifies, erasing, Left, Recovered}

-- If the received word was sent as a codeword x, and the bits of a set e were lost, then both peelings answer; a sent bit that the orthogonalised matrix
-- leaves the given one leaves; and every sent bit that either recovers is the codeword's.
pub record ReliesOn (ws : List ℕ) (n m : ℕ) (received : List ℕ) (answered : Bool) (given longer : List ℕ) : Type 0 where
  pub both_answer : (x : List ℕ) (e : ℕ → Bool) → Verifies ws n m 0 x → received ≡ erasing e x → answered ≡ true
  pub no_less : (x : List ℕ) (e : ℕ → Bool) → Verifies ws n m 0 x → received ≡ erasing e x → (b : ℕ) → b < n → Left longer b → Left given b
  pub given_right : (x : List ℕ) (e : ℕ → Bool) → Verifies ws n m 0 x → received ≡ erasing e x → (b : ℕ) → b < n
      → Recovered received given b → byte_of given b ≡ byte_of x b
  pub longer_right : (x : List ℕ) (e : ℕ → Bool) → Verifies ws n m 0 x → received ≡ erasing e x → (b : ℕ) → b < n
      → Recovered received longer b → byte_of longer b ≡ byte_of x b
