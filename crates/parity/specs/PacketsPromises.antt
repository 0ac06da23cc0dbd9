-- Ours, beyond documents 01 and 02: what is promised of mending packets, over what the calls answer and leave. Assumes nothing.
use Rattle.std.specs.Prelude.{ℕ, ◌+◌, ◌*◌, ◌<◌, ◌≡◌, ◌↔◌, Bool, false, not, ◌&&◌, List, [], ◌∷◌, length, take, replicate}
use Rattle.parity.specs.Finite.{count}
use Rattle.parity.specs.Matrix.{lent}
use Rattle.parity.specs.Causes.{answer}
use Rattle.parity.specs.Calls.{byte_of}
use Rattle.parity.specs.Demand3.{Verifies}
use Rattle.parity.specs.DeterminingPromises.{Agreeing}
use Rattle.parity.specs.Packets.{is_lost, lane_word, lost_word, lane_outcome, packets_outcome}

-- One call that answers is a call of `determine` for every lane. The lane is odd exactly if that call is refused; if it answers, the lane's word afterwards,
-- with 2 where packets are still lost, is the one that it leaves; if it is refused, the lane is as it was. A packet that is still lost is as it was.
pub record LaneMended (ws : List ℕ) (n m k : ℕ) (lost packets odd : List ℕ) (i : ℕ) : Type 0 where
  pub flag : (lent (length odd) (packets_outcome ws n m k lost packets odd).odd 0 i ≡ false) ↔ ((lane_outcome ws n m k lost packets (length odd) i).reply.number ≡ 0)
  pub mended : (lane_outcome ws n m k lost packets (length odd) i).reply.number ≡ 0
      → lane_word (n + k) (length odd) (packets_outcome ws n m k lost packets odd).lost (packets_outcome ws n m k lost packets odd).packets i
      ≡ (lane_outcome ws n m k lost packets (length odd) i).after
  pub kept : ((lane_outcome ws n m k lost packets (length odd) i).reply.number ≡ 0 → ⊥) → (b : ℕ) → b < n + k
      → lent (length odd) (packets_outcome ws n m k lost packets odd).packets b i ≡ lent (length odd) packets b i
  pub left : (b : ℕ) → b < n + k → byte_of (packets_outcome ws n m k lost packets odd).lost b ≡ 1
      → lent (length odd) (packets_outcome ws n m k lost packets odd).packets b i ≡ lent (length odd) packets b i

abbrev pub PacketsAsLanes : Type 0
PacketsAsLanes = (ws : List ℕ) (n m k : ℕ) (lost packets odd : List ℕ) → (packets_outcome ws n m k lost packets odd).reply.number ≡ 0
    → (i : ℕ) → i < length odd * 64 → LaneMended ws n m k lost packets odd i

-- A packet is still lost exactly if some codeword that is zero in every packet that arrived has a one there.
abbrev pub StillLost : Type 0
StillLost = (ws : List ℕ) (n m k : ℕ) (lost packets odd : List ℕ) → (packets_outcome ws n m k lost packets odd).reply.number ≡ 0 → (b : ℕ) → b < n + k
    → (byte_of (packets_outcome ws n m k lost packets odd).lost b ≡ 1) ↔ ((x : List ℕ) × Agreeing ws n m k (lost_word (n + k) lost) x × (byte_of x b ≡ 1))

-- Which packets stay lost, and the first four numbers, depend on the losses alone.
abbrev pub LossesDecide : Type 0
LossesDecide = (ws : List ℕ) (n m k : ℕ) (lost packets odd packets' odd' : List ℕ)
    → let o = packets_outcome ws n m k lost packets odd in
    let o' = packets_outcome ws n m k lost packets' odd' in
    o.reply.number ≡ 0 → o'.reply.number ≡ 0 → (o.lost ≡ o'.lost) × (take 4 o.reply.values ≡ take 4 o'.reply.values)

-- The answer tells what stands in the lists: the packets recovered and the packets left, sent and added ones apart, and the odd lanes.
abbrev pub PacketsTold : Type 0
PacketsTold = (ws : List ℕ) (n m k : ℕ) (lost packets odd : List ℕ)
    → let o = packets_outcome ws n m k lost packets odd in
    let got : ℕ → Bool = λ b. is_lost lost b && not (is_lost o.lost b) in
    o.reply.number ≡ 0
    → o.reply ≡ answer (count n got ∷ count k (λ j. got (n + j)) ∷ count n (is_lost o.lost) ∷ count k (λ j. is_lost o.lost (n + j))
    ∷ count (length odd * 64) (lent (length odd) o.odd 0) ∷ [])

-- A block of which every lane is a codeword; `[]` says that none is lost.
abbrev pub Codewords : List ℕ → ℕ → ℕ → ℕ → ℕ → List ℕ → Type 0
Codewords ws n m k L sent = (i : ℕ) → i < L * 64 → Verifies ws n m k (lane_word (n + k) L [] sent i)

-- A block got from codewords by losing packets, whatever the lost ones hold, has no odd lane, and every packet that is not lost afterwards is the codewords'.
abbrev pub CodewordsMended : Type 0
CodewordsMended = (ws : List ℕ) (n m k : ℕ) (lost packets odd sent : List ℕ)
    → let L = length odd in
    let o = packets_outcome ws n m k lost packets odd in
    o.reply.number ≡ 0 → Codewords ws n m k L sent
    → ((b i : ℕ) → b < n + k → i < L * 64 → is_lost lost b ≡ false → lent L packets b i ≡ lent L sent b i)
    → (o.odd ≡ replicate L 0) × ((b i : ℕ) → b < n + k → i < L * 64 → is_lost o.lost b ≡ false → lent L o.packets b i ≡ lent L sent b i)

-- Mending again changes nothing, and recovers nothing.
abbrev pub MendedTwice : Type 0
MendedTwice = (ws : List ℕ) (n m k : ℕ) (lost packets odd : List ℕ) (rs ra ls la lanes : ℕ)
    → let o = packets_outcome ws n m k lost packets odd in
    o.reply ≡ answer (rs ∷ ra ∷ ls ∷ la ∷ lanes ∷ [])
    → packets_outcome ws n m k o.lost o.packets o.odd
    ≡ record { reply = answer (0 ∷ 0 ∷ ls ∷ la ∷ lanes ∷ []); lost = o.lost; packets = o.packets; odd = o.odd }
