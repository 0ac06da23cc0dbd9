-- What checks and bits have sent, on the messages in lent memory. Assumes nothing.
use Rattle.std.specs.Prelude.{ℕ, ◌+◌, ◌<◌, ◌≤◌, ◌≡◌, true, ◌&&◌, List, length, Float}
use Rattle.parity.specs.Matrix.{Matrix}
use Rattle.parity.specs.Soft.{Messages, message_at, to_bits, to_checks, bit_sends, sound, but}
use Rattle.messages.specs.Memory.{held, held_at, column, Above}
use Rattle.parity.specs.declared.Channel.{Channel}

-- In w places from a on the lists hold g now, and elsewhere what they held.
pub record Part (a w : ℕ) (g : ℕ → Channel) (ts : List ℕ) (xs : List Float) (ts' : List ℕ) (xs' : List Float) : Type 0 where
  pub tags : length ts' ≡ length ts
  pub values : length xs' ≡ length xs
  pub new : (t : ℕ) → t < w → message_at ts' xs' (a + t) ≡ g t
  pub before : (i : ℕ) → i < a → message_at ts' xs' i ≡ message_at ts xs i
  pub after : (i : ℕ) → a + w ≤ i → message_at ts' xs' i ≡ message_at ts xs i

-- the values in the places from a on
abbrev pub from : ℕ → List ℕ → List Float → ℕ → Channel
from a ts xs t = message_at ts xs (a + t)

-- every soft message of the M checks is a number
pub record SoundAll (h : Matrix) (N M : ℕ) (m : Messages) : Type 0 where
  pub at : (c b : ℕ) → c < M → b < N → h c b ≡ true → sound (m c b) ≡ true

-- The first c of M checks have answered; the others' messages are as they were.
pub record Answering (h : Matrix) (N M c : ℕ) (old : Messages) (ts : List ℕ) (xs : List Float) : Type 0 where
  pub done : (d b : ℕ) → d < c → b < N → h d b ≡ true → held h N ts xs d b ≡ to_bits h N old d b
  pub left : (d b : ℕ) → c ≤ d → d < M → b < N → h d b ≡ true → held h N ts xs d b ≡ old d b

-- The first b bits have sent; the messages at the others are as they were.
pub record Sending (h : Matrix) (N M b : ℕ) (channel : ℕ → Channel) (old : Messages) (ts : List ℕ) (xs : List Float) : Type 0 where
  pub done : (d a : ℕ) → d < M → a < N → a < b → h d a ≡ true → held h N ts xs d a ≡ to_checks h M channel old d a
  pub left : (d a : ℕ) → d < M → a < N → b ≤ a → h d a ≡ true → held h N ts xs d a ≡ old d a

-- Bit b, with the channel value v, has sent to its M checks; every other message is as it was.
pub record BitSent (h : Matrix) (N M b : ℕ) (v : Channel) (ts : List ℕ) (xs : List Float) (ts' : List ℕ) (xs' : List Float) : Type 0 where
  pub tags : length ts' ≡ length ts
  pub values : length xs' ≡ length xs
  pub done : (d : ℕ) → d < M → h d b ≡ true → held h N ts' xs' d b ≡ bit_sends v M (λ e. h e b && but d e) (held_at h N ts xs b)
  pub rest : (d a : ℕ) → d < M → a < N → h d a ≡ true → (a ≡ b → ⊥) → held h N ts' xs' d a ≡ held h N ts xs d a
  pub above : Above h N ts xs ts' xs'

-- the result of each bit, from the messages that the lists hold
unfoldable pub result_of : Matrix → ℕ → ℕ → (ℕ → Channel) → List ℕ → List Float → ℕ → Channel
result_of h N M channel ts xs b = bit_sends (channel b) M (column h b) (held_at h N ts xs b)
