-- The codeword that is read off the reduced rows, and what encoding answers. Assumes nothing.
use mathlib.Core.Path.{◌≡◌, refl, sym, ap, ◌∙◌}
use mathlib.Core.Bool.{Bool, true, false, not, false≢true}
use mathlib.Core.List.{List, []}
use Prim.Native.Nat.{ℕ, ◌+◌, ◌-◌, ◌%◌, ◌≤◌, ◌<◌}
use native.Mathlib.Omega.{arith}
use native.Mathlib.Decide.{dec_lt}
use lib.ListN.{length, get_or-eq_default}
use borrow.Author.Tests.{eq-eqb, ne_eqb, lt-ltb}
use Rattle.parity.specs.Finite.{one, count, list_from}
use Rattle.parity.specs.Matrix.{Matrix, lent}
use Rattle.parity.specs.Words.{is_one, inside}
use Rattle.parity.specs.Encoding.{dependent, rank_of, encoded}
use Rattle.parity.specs.Causes.{Reply, answer, refusal_of}
use Rattle.parity.specs.Calls.{byte_of, wrong_byte, wrong_place, accept_reply, encode_reply, encode_outcome}
use Rattle.parity.specs.declared.Refusal.{Refusal}
use Rattle.parity.specs.declared.Refusal.TheVariants.{WrongLength, WrongByte, AddedBits}
use Rattle.parity.proofs.Finite.Sums.{is_true, is_false, is, count_cong, byte_one}
use Rattle.parity.proofs.Splits.Split.{Even}
use Rattle.parity.proofs.Encoding.Encode.{encodes, lengths}
use Rattle.parity.proofs.Encoding.Dependent.{inside_zero}
use Rattle.parity.proofs.Matrix.Accept.{Accepted, passes}
use Rattle.parity.proofs.Causes.Refused.{refused_same}
use Rattle.parity.proofs.Words.Bytes.{right_bytes}
use Rattle.elimination.specs.Reduction.{Same, Reduced, pivot, every_bit, Echelon}
use Rattle.elimination.proofs.Clearing.{same_at}
use Rattle.elimination.proofs.Reduced.{pivot_of}
use Rattle.rank.proofs.Pivots.{dependents}
use Rattle.message_bits.specs.Placing.{pivot_at, placed}
use Rattle.message_bits.proofs.Placing.{is_list_from}
use Rattle.message_bits.proofs.Told.{rising, at_pivot, at_else, left}
use Rattle.encode.specs.Answers.{given_outcome}
use Rattle.encode.specs.Filling.{Open, Filled}

module _ (h g : Matrix) (n m r : ℕ) (at : ℕ → ℕ) (R : Reduced g m every_bit n r at) (S : Same h g n m) where
  bits : (j : ℕ) → j < n → dependent h m j ≡ not (pivot r at j)
  bits = dependents h g n m r at R S

  -- the bits of a codeword that are no pivots hold the message: it is the one
  reads : (message z : ℕ → Bool) → Even h n m z
      → ((b : ℕ) → b < n → pivot r at b ≡ false → z b ≡ message (count b (λ i. not (pivot r at i))))
      → (b : ℕ) → b < n → encoded h n m message b ≡ z b
  reads message z even u b k = sym ((encodes h n m message).2 z even held b k)
    where
      held : (b : ℕ) → b < n → dependent h m b ≡ true → z b ≡ message (count b (dependent h m))
      held b k t =
          let q : pivot r at b ≡ false = flip (pivot r at b) (sym (bits b k) ∙ t) in
          u b k q ∙ ap message (count_cong b {p = λ i. not (pivot r at i)} {q = dependent h m} (λ i l. sym (bits i (omega arith))))
        where
          flip : (a : Bool) → not a ≡ true → a ≡ false
          flip true p = absurd (false≢true p)
          flip false p = refl

module _ (h g : Matrix) (n m r : ℕ) (at : List ℕ) (E : Echelon h g n m n r at) where
  abbrev R : Reduced E.whole m every_bit n r (pivot_at at)
  R = E.reduction.form

  -- the checks without a pivot are empty, so that a word is a codeword if the others are even
  even_word : (z : ℕ → Bool) → ((c : ℕ) → c < r → inside g n c z % 2 ≡ 0) → Even h n m z
  even_word z f = (same_at h g n m E.same z).1 (λ c k. elim (dec_lt c r) [
    | yes l ↦ f c l
    | no l ↦ let o : r ≤ c = omega arith in
        rw (inside_zero g n c z (λ b i p. absurd (false≢true (sym (E.rest c b o ∙ R.rest c b o k i refl) ∙ p))))
  ])

  module _ (message w : List ℕ) (W : w ≡ list_from 0 n (placed r at (byte_of message))) where
    pub opened : Open g n r at (byte_of w)
    opened = record { rising = rising h g n m r at E; own = E.own; first = E.first; none = at_pivot h g n m r at E message w W }

    module _ (small : wrong_byte 1 message ≡ false) where
      message_small : (i : ℕ) → byte_of message i ≤ 1
      message_small i = elim (dec_lt i (length message)) [
        | yes k ↦ (right_bytes 1 message).0 small i k
        | no k ↦ let l : length message ≤ i = omega arith in rw (get_or-eq_default message 0 l) (omega arith)
      ]

      -- what stands after the pivots are filled in is the message's codeword
      pub codeword_read : (u : List ℕ) → length u ≡ n → Filled g n r at 0 (byte_of w) (byte_of u) → u ≡ list_from 0 n (λ b. one (encoded h n m (is_one (byte_of message)) b))
      codeword_read u l F = is_list_from n (λ b. one (encoded h n m (is_one (byte_of message)) b)) u l (λ b k.
          rw (reads h E.whole n m r (pivot_at at) R E.reduction.same (is_one (byte_of message)) (is_one (byte_of u))
          (even_word (is_one (byte_of u)) (λ c i. F.even c (omega arith) i)) (λ b i q. rw (F.else b q, at_else h g n m r at E message w W b i q)) b k)
          (sym (byte_one (byte_of u b) (bit b k))))
        where
          bit : (b : ℕ) → b < n → byte_of u b ≤ 1
          bit b k = elim (is (pivot r (pivot_at at) b)) [
            | is_true q ↦ let (c, i, e) = pivot_of r (pivot_at at) b q in rw (← e) (F.bit c (omega arith) i)
            | is_false q ↦ rw (F.else b q, at_else h g n m r at E message w W b k q) (message_small _)
          ]

-- encoding with an accepted matrix that has k = 0
module _ (ws : List ℕ) (m : ℕ) (message w : List ℕ) (r : ℕ) (e : r ≡ rank_of (lent 8 ws) (length w) m) where
  rest_length : (length message ≡ length w - rank_of (lent 8 ws) (length w) m → ⊥) → length message + r ≡ length w → ⊥
  rest_length d q = d (omega arith)

  whole_length : length message + r ≡ length w → length message ≡ length w - rank_of (lent 8 ws) (length w) m
  whole_length q = omega arith

  pub given_length : (length message + r ≡ length w → ⊥) → (refusal_of WrongLength ≡ (given_outcome ws m message w).reply) × (w ≡ (given_outcome ws m message w).after)
  unfolding given_outcome
  given_length d =
      let f = ne_eqb (length message) (length w - rank_of (lent 8 ws) (length w) m) (λ q. d (omega (arith, lengths (lent 8 ws) (length w) m (λ b. false)))) in
      (rw f, rw f)

  pub given_byte : length message + r ≡ length w → (place : ℕ) → place ≡ wrong_place 1 message → wrong_byte 1 message ≡ true
      → (refusal_of (WrongByte place) ≡ (given_outcome ws m message w).reply) × (w ≡ (given_outcome ws m message w).after)
  unfolding given_outcome
  given_byte q place p t =
      let f = eq-eqb (length message) (length w - rank_of (lent 8 ws) (length w) m) (whole_length q) in
      (rw (f, t, p), rw (f, t))

  pub given_written : length message + r ≡ length w → wrong_byte 1 message ≡ false
      → (u : List ℕ) → u ≡ list_from 0 (length w) (λ b. one (encoded (lent 8 ws) (length w) m (is_one (byte_of message)) b))
      → (answer [] ≡ (given_outcome ws m message w).reply) × (u ≡ (given_outcome ws m message w).after)
  unfolding given_outcome
  given_written q t u s =
      let f = eq-eqb (length message) (length w - rank_of (lent 8 ws) (length w) m) (whole_length q) in
      (rw (f, t), s ∙ rw (f, t))

-- the call
module _ (ws : List ℕ) (n m k : ℕ) (message w : List ℕ) where
  abbrev Told : Reply → List ℕ → Type 0
  Told r u = (r ≡ (encode_outcome ws n m k message w).reply) × (u ≡ (encode_outcome ws n m k message w).after)

  refused : (r : Refusal) → refusal_of r ≡ encode_reply ws n m k message w → Told (refusal_of r) w
  unfolding encode_outcome
  refused r e = left r (encode_reply ws n m k message w) w _ e

  pub encode_first : (r : Refusal) → refusal_of r ≡ accept_reply ws n m k → Told (refusal_of r) w
  encode_first r e = refused r (unfold encode_reply in refused_same ws n m k r _ e)

  module _ (A : Accepted ws n m k) where
    pub encode_added : (k ≡ 0 → ⊥) → Told (refusal_of AddedBits) w
    encode_added d = refused AddedBits (unfold encode_reply in rw (passes ws n m k A _, lt-ltb 0 k (omega (arith, d))))

    pub encode_length : k ≡ 0 → (length w ≡ n → ⊥) → Told (refusal_of WrongLength) w
    encode_length e d = refused WrongLength (unfold encode_reply in rw (passes ws n m k A _, e, ne_eqb (length w) n d))

    pub encode_given : k ≡ 0 → length w ≡ n → given_outcome ws m message w ≡ encode_outcome ws n m k message w
    unfolding given_outcome encode_outcome encode_reply
    encode_given e l = rw (passes ws n m k A _, e, l, eq-eqb n n refl)
