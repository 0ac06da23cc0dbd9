-- Document 01, 'Encoding': what is promised of the rank and of encoding, with k = 0, over what the calls answer and leave. Assumes nothing.
-- What is in double quotes is document 01's own sentence.
use Rattle.std.specs.Prelude.{ℕ, ◌≤◌, ◌-◌, ◌%◌, ◌<◌, ◌≡◌, Bool, true, List, [], ◌∷◌, ◌↔◌, length}
use Rattle.parity.specs.Finite.{one, count, list_from}
use Rattle.parity.specs.Causes.{answer, Outcome}
use Rattle.parity.specs.Matrix.{Matrix, lent, cause}
use Rattle.parity.specs.Words.{inside}
use Rattle.parity.specs.Encoding.{dependent, parity_bit}
use Rattle.parity.specs.Calls.{byte_of, rank_reply, encode_outcome}
use Rattle.parity.specs.Demand3.{Verifies}
use Rattle.parity.specs.MessageBitsPromises.{at_marks}

-- The column of bit b is the sum modulo 2 of the columns of a set s of lower bits: in each check, as many of s as the bit's own entry, modulo 2.
abbrev pub SumOfLower : Matrix → ℕ → ℕ → Type 0
SumOfLower h m b = (s : ℕ → Bool) × ((c : ℕ) → c < m → inside h b c s % 2 ≡ one (h c b))

-- "a bit is a parity bit if its column is not a sum modulo 2 of some columns of lower bits"
abbrev pub ParityBits : Type 0
ParityBits = (h : Matrix) (m b : ℕ) → (parity_bit h m b ≡ true) ↔ (SumOfLower h m b → ⊥)

-- "The rank r is their number, and has a call of its own."
abbrev pub RankCountsParityBits : Type 0
RankCountsParityBits = (ws : List ℕ) (n m : ℕ) → cause ws n m 0 ≡ 0 → rank_reply ws n m 0 ≡ answer (count n (parity_bit (lent 8 ws) m) ∷ [])

-- the other bits, as a set of n bytes; `at_marks` gives a word's bytes there, rising
abbrev pub other_bits : List ℕ → ℕ → ℕ → List ℕ
other_bits ws n m = list_from 0 n (λ b. one (dependent (lent 8 ws) m b))

-- "Encoding takes n-r bytes of 0 or 1 and writes the one codeword of n bytes whose other bits, rising, hold them."
pub record Encodes (ws : List ℕ) (n m : ℕ) (message : List ℕ) (o : Outcome) : Type 0 where
  pub answers : o.reply ≡ answer []
  pub codeword : Verifies ws n m 0 o.after
  pub held : at_marks (other_bits ws n m) o.after ≡ message
  pub only : (w : List ℕ) → Verifies ws n m 0 w → at_marks (other_bits ws n m) w ≡ message → w ≡ o.after

abbrev pub EncodesMessage : Type 0
EncodesMessage = (ws : List ℕ) (n m r : ℕ) (message held : List ℕ) → rank_reply ws n m 0 ≡ answer (r ∷ [])
    → length message ≡ n - r → ((i : ℕ) → i < n - r → byte_of message i ≤ 1) → length held ≡ n
    → Encodes ws n m message (encode_outcome ws n m 0 message held)

-- Different messages have different codewords,
abbrev pub OneMessageEach : Type 0
OneMessageEach = (ws : List ℕ) (n m : ℕ) (message other held : List ℕ) → (encode_outcome ws n m 0 message held).reply ≡ answer []
    → (encode_outcome ws n m 0 other held).reply ≡ answer []
    → (encode_outcome ws n m 0 message held).after ≡ (encode_outcome ws n m 0 other held).after → message ≡ other

-- and each codeword is that of a message: so there are as many codewords as messages of n - r bits.
abbrev pub EveryCodewordEncoded : Type 0
EveryCodewordEncoded = (ws : List ℕ) (n m : ℕ) (w held : List ℕ) → Verifies ws n m 0 w → length held ≡ n
    → (message : List ℕ) × (encode_outcome ws n m 0 message held ≡ record { reply = answer []; after = w })
