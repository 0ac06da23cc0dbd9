-- Ours, beyond documents 01 and 02: what is promised of marking the bits that hold the message, over what the calls answer and leave. Assumes nothing.
use Rattle.std.specs.Prelude.{ℕ, ◌≡◌, cond, List, [], ◌∷◌, eqb}
use Rattle.parity.specs.Finite.{count}
use Rattle.parity.specs.Causes.{answer}
use Rattle.parity.specs.Calls.{byte_of, rank_reply, encode_outcome}
use Rattle.parity.specs.MessageBits.{message_bits_outcome}

-- The parity bits are as many as the rank answers.
abbrev pub RankOfMarks : Type 0
RankOfMarks = (ws : List ℕ) (n m k : ℕ) (set : List ℕ) → (message_bits_outcome ws n m k set).reply ≡ answer []
    → rank_reply ws n m k ≡ answer (count n (λ b. eqb (byte_of (message_bits_outcome ws n m k set).after b) 0) ∷ [])

-- the bytes of a word where the set has a 1, in order
unfoldable pub at_marks : List ℕ → List ℕ → List ℕ
at_marks [] w = []
at_marks (s ∷ ss) [] = []
at_marks (s ∷ ss) (x ∷ xs) = cond (eqb s 1) (x ∷ at_marks ss xs) (at_marks ss xs)

-- Of a codeword that encoding writes, the bits marked 1, rising, are the message.
abbrev pub MessageMarked : Type 0
MessageMarked = (ws : List ℕ) (n m k : ℕ) (set message w : List ℕ) → (message_bits_outcome ws n m k set).reply ≡ answer []
    → (encode_outcome ws n m k message w).reply ≡ answer []
    → at_marks (message_bits_outcome ws n m k set).after (encode_outcome ws n m k message w).after ≡ message
