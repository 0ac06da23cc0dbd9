-- Document 02, M-112: what is promised of min-sum rounds, over what the call answers and leaves; and, ours, `RoundsEnd`: where the rounds may end early.
-- Assumes nothing.
use Rattle.std.specs.Prelude.{ℕ, suc, ◌≤◌, ◌+◌, ◌<◌, ◌≡◌, Bool, true, List, [], ◌⊎◌, get_or, length, replicate, Float}
use Rattle.std.specs.Float.{nan, binary32}
use Rattle.std.specs.Float.Ieee.{neg, fits}
use Rattle.parity.specs.Causes.{answer}
use Rattle.parity.specs.Matrix.{lent, Matrix}
use Rattle.parity.specs.Calls.{peel_outcome}
use Rattle.parity.specs.Demand3.{Verifies, erasing}
use Rattle.parity.specs.Floats.{positive_zero, finite}
use Rattle.parity.specs.Soft.{Messages, message_at, to_bits, sent_after}
use Rattle.parity.specs.SoftCall.{min_sum_outcome}
use Rattle.parity.specs.declared.Channel.TheVariants.{Soft}

-- M-112: of N bits, one that check c contains, other than bit b, sent a soft value that is y, or whose negation y is.
pub record OneInput (h : Matrix) (N : ℕ) (sent : Messages) (c b : ℕ) (y : Float) : Type 0 where
  pub bit : ℕ
  pub below : bit < N
  pub contained : h c bit ≡ true
  pub other : bit ≡ b → ⊥
  pub input : Float
  pub is_input : sent c bit ≡ Soft input
  pub either : (y ≡ input) ⊎ (y ≡ neg input)

-- A check's soft answer is exactly one input or its negation: in each round of a call that answers, at each check and bit. The floats of a lent
-- slice are 32-bit floats.
abbrev pub AnswerIsInput : Type 0
AnswerIsInput = (ws : List ℕ) (n m k rounds : ℕ) (word : List ℕ) (floats : List Float) (bytes : List ℕ) (values : List Float)
    → (min_sum_outcome ws n m k rounds word floats bytes values).reply ≡ answer []
    → ((b : ℕ) → fits binary32 (get_or floats b nan) ≡ true)
    → (r c b : ℕ) → r < rounds → c < m + k → (y : Float)
    → let sent = sent_after (lent 8 ws) (n + k) (m + k) (message_at word floats) r in
    to_bits (lent 8 ws) (n + k) sent c b ≡ Soft y → OneInput (lent 8 ws) (n + k) sent c b y

-- Words holding only sure and erased bits, got from a codeword, after 512 rounds end as peeling ends: the call answers, whatever the floats and the
-- messages held, and the floats are plus zero.
abbrev pub EndsAsPeeling : Type 0
EndsAsPeeling = (ws : List ℕ) (n m k : ℕ) (x : List ℕ) → Verifies ws n m k x → (e : ℕ → Bool) (floats : List Float) (bytes : List ℕ) (values : List Float)
    → length floats ≡ n + k → length bytes ≡ 65536 → length values ≡ 65536
    → min_sum_outcome ws n m k 512 (erasing e x) floats bytes values ≡ record {
      reply = answer [];
      word = (peel_outcome ws n m k (erasing e x)).after;
      floats = replicate (n + k) positive_zero;
      bytes_of_messages = replicate 65536 0;
      floats_of_messages = replicate 65536 positive_zero;
    }

-- Nothing that an answer writes is infinite or not a number.
abbrev pub WritesFinite : Type 0
WritesFinite = (ws : List ℕ) (n m k rounds : ℕ) (word : List ℕ) (floats : List Float) (bytes : List ℕ) (values : List Float)
    → (min_sum_outcome ws n m k rounds word floats bytes values).reply ≡ answer []
    → let o = min_sum_outcome ws n m k rounds word floats bytes values in
    ((b : ℕ) → b < n + k → finite (get_or o.floats b nan) ≡ true) × ((i : ℕ) → i < 65536 → finite (get_or o.floats_of_messages i nan) ≡ true)

-- Ours: the same message at every one of the matrix, of N bits and M checks
abbrev pub Agree : Matrix → ℕ → ℕ → Messages → Messages → Type 0
Agree h N M sent sent' = (c b : ℕ) → c < M → b < N → h c b ≡ true → sent c b ≡ sent' c b

-- Ours: where one round more than r changes no message, no later round does, and the call does the same with every number of rounds above r. `min_sum` ends
-- its rounds there.
abbrev pub RoundsEnd : Type 0
RoundsEnd = (ws : List ℕ) (n m k rounds : ℕ) (word : List ℕ) (floats : List Float) (bytes : List ℕ) (values : List Float)
    → (min_sum_outcome ws n m k rounds word floats bytes values).reply ≡ answer []
    → let sent = sent_after (lent 8 ws) (n + k) (m + k) (message_at word floats) in
    (r : ℕ) → r < rounds → Agree (lent 8 ws) (n + k) (m + k) (sent (suc r)) (sent r)
    → (others : ℕ) → r < others → others ≤ 512
    → min_sum_outcome ws n m k others word floats bytes values ≡ min_sum_outcome ws n m k rounds word floats bytes values
