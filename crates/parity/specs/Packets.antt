-- Ours, beyond documents 01 and 02: packets. A link loses packets, and bit b of the code travels in packet b, L words of 64 bits. Lane i is bit i of every
-- packet, the one of word i div 64 at i mod 64: a word of n + k bits of its own, erased where its packet is lost. Mending packets determines every lane as
-- M-105 determines a word. Assumes nothing.
use Rattle.std.specs.Prelude.{ℕ, ◌+◌, ◌*◌, ◌^◌, Bool, not, cond, ◌||◌, List, [], ◌∷◌, ◌++◌, eqb, ltb, length}
use Rattle.parity.specs.Finite.{one, count, list_from}
use Rattle.parity.specs.Matrix.{Matrix, lent, word_of}
use Rattle.parity.specs.Causes.{Reply, answer, refusal, refuse, accepting, Outcome}
use Rattle.parity.specs.Calls.{byte_of, wrong_length, wrong_byte, wrong_place, determine_outcome}

-- packet b is lost: its byte is 1
abbrev pub is_lost : List ℕ → ℕ → Bool
is_lost lost b = eqb (byte_of lost b) 1

-- the word of lane i: 2 where the packet is lost, and else the packet's bit
unfoldable pub lane_word : ℕ → ℕ → List ℕ → List ℕ → ℕ → List ℕ
lane_word N L lost packets i = list_from 0 N (λ b. cond (is_lost lost b) 2 (one (lent L packets b i)))

-- the word of zeros, with the same losses
unfoldable pub lost_word : ℕ → List ℕ → List ℕ
lost_word N lost = list_from 0 N (λ b. cond (is_lost lost b) 2 0)

-- what determining comes to in lane i
abbrev pub lane_outcome : List ℕ → ℕ → ℕ → ℕ → List ℕ → List ℕ → ℕ → ℕ → Outcome
lane_outcome ws n m k lost packets L i = determine_outcome ws n m k (lane_word (n + k) L lost packets i)

-- A lane is odd if determining its word is refused.
unfoldable pub odd_lane : List ℕ → ℕ → ℕ → ℕ → List ℕ → List ℕ → ℕ → ℕ → Bool
odd_lane ws n m k lost packets L i = not (eqb (lane_outcome ws n m k lost packets L i).reply.number 0)

-- bit i of packet b afterwards: what determining leaves there in lane i, or the bit as it was where that is 2
unfoldable pub mended_bit : List ℕ → ℕ → ℕ → ℕ → List ℕ → List ℕ → ℕ → Matrix
mended_bit ws n m k lost packets L b i =
    let x = byte_of (lane_outcome ws n m k lost packets L i).after b in
    cond (eqb x 2) (lent L packets b i) (eqb x 1)

-- Packet b is still lost afterwards if determining leaves 2 there in the word of zeros: this depends on the losses alone.
unfoldable pub still_lost : List ℕ → ℕ → ℕ → ℕ → List ℕ → ℕ → ℕ
still_lost ws n m k lost b = one (eqb (byte_of (determine_outcome ws n m k (lost_word (n + k) lost)).after b) 2)

-- the words that hold R rows of a matrix, W words to a row
unfoldable pub words_of : ℕ → ℕ → Matrix → List ℕ
words_of W R h = list_from 0 (R * W) (word_of W h)

-- cause 10: another length of the losses or of the packets, or packets of more than 2 ^ 57 words, whose lanes a number of the machine could not count
unfoldable pub wrong_lengths : ℕ → ℕ → List ℕ → List ℕ → Bool
wrong_lengths N L lost packets = wrong_length N lost || (wrong_length (N * L) packets || ltb (2 ^ 57) L)

-- mend_packets: answers M-100's four numbers, in packets, which are those of determining the word of zeros, and then the number of odd lanes
unfoldable pub packets_reply : List ℕ → ℕ → ℕ → ℕ → List ℕ → List ℕ → ℕ → Reply
packets_reply ws n m k lost packets L =
    accepting ws n m k
    (refuse (wrong_lengths (n + k) L lost packets) (refusal 10 [])
    (refuse (wrong_byte 1 lost) (refusal 11 (wrong_place 1 lost ∷ []))
    (answer ((determine_outcome ws n m k (lost_word (n + k) lost)).reply.values ++ (count (L * 64) (odd_lane ws n m k lost packets L) ∷ [])))))

-- the reply, and the three lists afterwards: which packets are lost, the packets, and which lanes are odd
pub record PacketsOutcome : Type 0 where
  pub reply : Reply
  pub lost : List ℕ
  pub packets : List ℕ
  pub odd : List ℕ

-- The length of the list for odd lanes says how many words a packet has. A refusal leaves all lists.
unfoldable pub packets_outcome : List ℕ → ℕ → ℕ → ℕ → List ℕ → List ℕ → List ℕ → PacketsOutcome
packets_outcome ws n m k lost packets odd =
    let L = length odd in
    let r = packets_reply ws n m k lost packets L in
    record {
      reply = r;
      lost = cond (eqb r.number 0) (list_from 0 (n + k) (still_lost ws n m k lost)) lost;
      packets = cond (eqb r.number 0) (words_of L (n + k) (mended_bit ws n m k lost packets L)) packets;
      odd = cond (eqb r.number 0) (words_of L 1 (λ c. odd_lane ws n m k lost packets L)) odd;
    }
