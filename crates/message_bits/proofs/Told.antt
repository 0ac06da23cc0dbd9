-- What is placed beside the pivots, and what marking the message's bits answers. Assumes nothing.
use mathlib.Core.Path.{◌≡◌, refl, ap, ◌∙◌}
use mathlib.Core.Bool.{false, not}
use mathlib.Core.List.{List, []}
use Prim.Native.Nat.{ℕ, ◌-◌, ◌≤◌, ◌<◌}
use native.Mathlib.Omega.{arith}
use lib.ListN.{get_or, length, take, replicate, get_or-replicate}
use lib.Seq.{get_or-take, length-take-le}
use borrow.Author.Tests.{eq-eqb, ne_eqb, lt-ltb}
use Rattle.parity.specs.Finite.{one, count, list_from}
use Rattle.parity.specs.Matrix.{Matrix}
use Rattle.parity.specs.Encoding.{dependent}
use Rattle.parity.specs.Causes.{Reply, answer, refusal_of, leaving}
use Rattle.parity.specs.Calls.{byte_of, accept_reply}
use Rattle.parity.specs.MessageBits.{message_bits_reply, message_bits_outcome}
use Rattle.parity.specs.declared.Refusal.{Refusal}
use Rattle.parity.specs.declared.Refusal.TheVariants.{WrongLength, AddedBits}
use Rattle.parity.proofs.Finite.Sums.{is_true, is_false, is}
use Rattle.parity.proofs.Finite.Lists.{length_list_from, at_list_from}
use Rattle.parity.proofs.Encoding.Encode.{lengths}
use Rattle.parity.proofs.Matrix.Accept.{Accepted, passes}
use Rattle.parity.proofs.Causes.Refused.{refused_number, refused_same}
use Rattle.elimination.specs.Reduction.{Reduced, pivot, every_bit, Echelon}
use Rattle.elimination.proofs.Reduced.{pivot_at_lem}
use Rattle.rank.proofs.Pivots as pivots
use Rattle.rank.proofs.Told.{is_rank}
use Rattle.message_bits.specs.Answers.{marks}
use Rattle.message_bits.specs.Placing.{pivot_at, Rising, placed}
use Rattle.message_bits.proofs.Placing.{is_list_from, room}

module _ (h g : Matrix) (n m r : ℕ) (at : List ℕ) (E : Echelon h g n m n r at) where
  abbrev R : Reduced E.whole m every_bit n r (pivot_at at)
  R = E.reduction.form

  pub few : r ≤ n
  few = omega (arith, is_rank h g n m r at E, lengths h n m (λ b. false))

  pub rising : Rising n r at
  rising = record { low = R.low; rise = R.rise }

  -- the list may be cut behind the pivots
  pub front_length : m ≤ length at → length (take r at) ≡ r
  front_length k = length-take-le r at (omega (arith, R.few))

  at_front : (c : ℕ) → c < r → get_or (take r at) c 0 ≡ get_or at c 0
  at_front c k = get_or-take r at c 0 k

  pub front : Echelon h g n m n r (take r at)
  front = record {
    same = E.same;
    own = λ c k. rw (at_front c k) (E.own c k);
    first = λ c j k l. E.first c j k (rw (at_front c k) at l);
    whole = E.whole;
    reduction = record {
      same = E.reduction.same;
      form = record {
        few = R.few;
        low = λ c k. rw (at_front c k) (R.low c k);
        among = λ c k. refl;
        rise = λ c d k l. rw (at_front c (omega arith), at_front d l) (R.rise c d k l);
        own = λ c k. rw (at_front c k) (R.own c k);
        alone = λ c d k l z. rw (at_front c k) (R.alone c d k l z);
        first = λ c j k l e. R.first c j k (rw (at_front c k) at l) e;
        rest = R.rest;
      };
    };
    rest = E.rest;
  }

  module _ (message w : List ℕ) (W : w ≡ list_from 0 n (placed r at (byte_of message))) where
    word_at : (b : ℕ) → b < n → byte_of w b ≡ placed r at (byte_of message) b
    word_at b k = ap (λ l. get_or l b 0) W ∙ at_list_from 0 n (placed r at (byte_of message)) b k ∙ ap (placed r at (byte_of message)) (omega arith)

    pub at_pivot : (c : ℕ) → c < r → byte_of w (pivot_at at c) ≡ 0
    unfolding placed
    at_pivot c k = word_at (pivot_at at c) (R.low c k) ∙ rw (pivot_at_lem r (pivot_at at) c k)

    pub at_else : (b : ℕ) → b < n → pivot r (pivot_at at) b ≡ false → byte_of w b ≡ byte_of message (count b (λ i. not (pivot r (pivot_at at) i)))
    unfolding placed
    at_else b k q = word_at b k ∙ rw q

    -- a message of ones stands at the bits that are no parity bits
    pub marked : ((i : ℕ) → i < n - r → byte_of message i ≡ 1) → w ≡ list_from 0 n (λ b. one (dependent h m b))
    unfolding placed
    marked f = is_list_from n (λ b. one (dependent h m b)) w (ap length W ∙ length_list_from 0 n (placed r at (byte_of message))) (λ b k.
        rw (pivots.dependents h E.whole n m r (pivot_at at) R E.reduction.same b k) (elim (is (pivot r (pivot_at at) b)) [
          | is_true q ↦ word_at b k ∙ rw q
          | is_false q ↦ at_else b k q ∙ f _ (room n r at rising (byte_of message) b k q (n - r) (omega (arith, few))) ∙ rw q
        ]))

-- the front of a message of ones
pub front_ones : (message : List ℕ) → message ≡ replicate 120 1 → (j : ℕ) → j ≤ 120 → (i : ℕ) → i < j → byte_of (take j message) i ≡ 1
front_ones message e j k i l = get_or-take j message i 0 l ∙ ap (λ (u : List ℕ). get_or u i 0) e ∙ get_or-replicate 120 i 1 0 (omega arith)

-- a refusal leaves the list as it was
pub left : (r : Refusal) (reply : Reply) (old new : List ℕ) → refusal_of r ≡ reply → (refusal_of r ≡ (leaving old reply new).reply) × (old ≡ (leaving old reply new).after)
left r reply old new e = (e, rw (← e, ne_eqb (refusal_of r).number 0 (refused_number r)))

-- the call
module _ (ws : List ℕ) (n m k : ℕ) (set : List ℕ) where
  abbrev Marked : Reply → List ℕ → Type 0
  Marked r u = (r ≡ (message_bits_outcome ws n m k set).reply) × (u ≡ (message_bits_outcome ws n m k set).after)

  unmarked : (r : Refusal) → refusal_of r ≡ message_bits_reply ws n m k set → Marked (refusal_of r) set
  unfolding message_bits_outcome
  unmarked r e = left r (message_bits_reply ws n m k set) set _ e

  pub mark_first : (r : Refusal) → refusal_of r ≡ accept_reply ws n m k → Marked (refusal_of r) set
  mark_first r e = unmarked r (unfold message_bits_reply in refused_same ws n m k r _ e)

  module _ (A : Accepted ws n m k) where
    pub mark_added : (k ≡ 0 → ⊥) → Marked (refusal_of AddedBits) set
    mark_added d = unmarked AddedBits (unfold message_bits_reply in rw (passes ws n m k A _, lt-ltb 0 k (omega (arith, d))))

    pub mark_length : k ≡ 0 → (length set ≡ n → ⊥) → Marked (refusal_of WrongLength) set
    mark_length e d = unmarked WrongLength (unfold message_bits_reply in rw (passes ws n m k A _, e, ne_eqb (length set) n d))

    pub mark_made : k ≡ 0 → length set ≡ n → (u : List ℕ) → u ≡ marks ws (length set) m → Marked (answer []) u
    unfolding message_bits_outcome message_bits_reply
    mark_made e l u q = (rw (passes ws n m k A _, e, l, eq-eqb n n refl), q ∙ rw (passes ws n m k A _, e, l, eq-eqb n n refl))
