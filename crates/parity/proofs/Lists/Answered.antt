-- A peeling that answers: its numbers, and the word where no bit is left. Where no cause before 12 refuses, it answers or is refused 12. Assumes nothing.
use mathlib.Core.Path.{◌≡◌, sym, ap, ◌∙◌}
use mathlib.Core.Bool.{true, false, ◌&&◌, true≢false}
use mathlib.Core.List.{List, []}
use Prim.Native.Nat.{ℕ, ◌+◌, ◌-◌, ◌≤◌, ◌<◌}
use native.Mathlib.Omega.{arith}
use native.Mathlib.Decide.{ℕ_discrete, dec_lt}
use lib.ListN.{get_or, length}
use borrow.Author.Tests.{eq-eqb, eqb-false, ltb-false}
use Rattle.parity.specs.Finite.{count, any_set}
use Rattle.parity.specs.Matrix.{lent}
use Rattle.parity.specs.Words.{erased, is_one, residue, solves, peels, peeled, recovered, losses}
use Rattle.parity.specs.Determining.{determined}
use Rattle.parity.specs.Causes.{refusal, Outcome}
use Rattle.parity.specs.Calls.{byte_of, peel_reply, peel_outcome, determine_outcome}
use Rattle.parity.specs.Block.{bits_recovered, sent_remain, bits_remain}
use Rattle.parity.specs.Demand3.{Left}
use Rattle.parity.proofs.Finite.Sums.{is_true, is_false, is, eqb_two, count_pos, count_bound, count_at}
use Rattle.parity.proofs.Finite.Lists.{at_list_from, list_from_cong}
use Rattle.parity.proofs.Matrix.Accept.{passes}
use Rattle.parity.proofs.Words.Bytes.{word_right}
use Rattle.parity.proofs.Words.Agreeing.{whole_agrees, peeled_determined}
use Rattle.parity.proofs.Words.Peeling.{Answered, peel_answered}
use Rattle.parity.proofs.Words.Residue.{residue_stops}
use Rattle.parity.proofs.Words.Determine.{Taken, determine_made}
use Rattle.parity.proofs.Lists.Theorems.{added_stop}

-- A peeling that answers.
module _ (ws : List ℕ) (n m k : ℕ) (w : List ℕ) (e : (peel_outcome ws n m k w).reply.number ≡ 0) where
  abbrev A : Answered ws n m k w
  A = peel_answered ws n m k w e

  abbrev after : ℕ → ℕ
  after = peeled (lent 8 ws) (n + k) (m + k) (byte_of w)

  -- its four numbers: at most n + k bits are recovered,
  pub recovered_most : bits_recovered (peel_outcome ws n m k w).reply ≤ n + k
  unfolding losses
  recovered_most =
      rw A.outcome (omega (arith, count_bound n (recovered (byte_of w) after), count_bound k (λ j. recovered (byte_of w) after (n + j))))

  pub sent_known : sent_remain (peel_outcome ws n m k w).reply ≡ false → (b : ℕ) → b < n → erased after b ≡ false
  unfolding losses
  sent_known q b l =
      let z = ltb-false 0 (count n (erased after)) (rw A.outcome at q) in
      elim (is (erased after b)) [ is_false r ↦ r | is_true r ↦ absurd (omega (arith, count_pos n (erased after) b l r)) ]

  -- where no sent bit is left, no added bit is, since of the sets of added bits only the empty one is a stopping set;
  none_left : sent_remain (peel_outcome ws n m k w).reply ≡ false → (b : ℕ) → b < n + k → erased after b ≡ false
  unfolding peeled
  none_left q b l =
      let r = residue (lent 8 ws) (n + k) (m + k) (erased (byte_of w)) in
      let sent : (b : ℕ) → b < n → r b ≡ false = λ b l. elim (is (r b)) [ is_false z ↦ z | is_true z ↦ absurd (true≢false (rw z at (sent_known q b l))) ] in
      let z = added_stop (lent 8 ws) n m k A.accepted.sound.rule r (residue_stops (lent 8 ws) (n + k) (m + k) (erased (byte_of w))) sent b l in
      rw z (eqb_two (any_set (n + k) (λ y. solves (lent 8 ws) (n + k) (m + k) (erased (byte_of w)) r (is_one (byte_of w)) y && y b)))

  -- and where none is left, the whole word is known
  pub all_known : bits_remain (peel_outcome ws n m k w).reply ≡ false → (b : ℕ) → b < n + k → erased after b ≡ false
  unfolding losses
  all_known q b l =
      let z = ltb-false 0 (count n (erased after) + count k (λ j. erased after (n + j))) (rw A.outcome at q) in
      elim (is (erased after b)) [
        | is_false r ↦ r
        | is_true r ↦ elim (dec_lt b n) [
          | yes i ↦ absurd (omega (arith, count_pos n (erased after) b i r))
          | no i ↦ absurd (added b (omega arith) l r (omega arith))
        ]
      ]
    where
      added : (b : ℕ) → n ≤ b → b < n + k → erased after b ≡ true → count k (λ j. erased after (n + j)) ≡ 0 → ⊥
      added b i l r z =
          let j : n + (b - n) ≡ b = omega arith in
          omega (arith, count_pos k (λ j. erased after (n + j)) (b - n) (omega arith) (rw j r))

  pub added_left : sent_remain (peel_outcome ws n m k w).reply ≡ false → get_or (peel_outcome ws n m k w).reply.values 3 0 ≡ 0
  unfolding losses
  added_left q =
      rw A.outcome (elim (ℕ_discrete (count k (λ j. erased after (n + j))) 0) [
        | yes z ↦ z
        | no z ↦
            let (j, l, r) = count_at k (λ j. erased after (n + j)) (omega arith) in
            absurd (true≢false (sym r ∙ none_left q (n + j) (omega arith)))
      ])

  -- Then determining writes the same word.
  pub whole_determined : ((b : ℕ) → b < n + k → erased after b ≡ false)
      → ((determine_outcome ws n m k w).reply.number ≡ 0) × ((determine_outcome ws n m k w).after ≡ (peel_outcome ws n m k w).after)
  whole_determined f =
      let s = whole_agrees (lent 8 ws) (n + k) (m + k) (byte_of w) A.solvable f in
      let d = determine_made ws n m k w record { accepted = A.accepted; word = A.word } s in (
        ap (λ (o : Outcome). o.reply.number) d,
        ap (λ (o : Outcome). o.after) d
            ∙ list_from_cong 0 (n + k) (determined (lent 8 ws) (n + k) (m + k) (byte_of w)) after (λ j l.
            peeled_determined (lent 8 ws) (n + k) (m + k) (byte_of w) s (0 + j) (omega arith) (λ q. eqb-false (after (0 + j)) 2 (f (0 + j) (omega arith)) q))
            ∙ sym (ap (λ (o : Outcome). o.after) A.outcome),
      )

  -- no byte of it is 2
  pub whole_left : ((b : ℕ) → b < n + k → erased after b ≡ false) → (b : ℕ) → b < n + k → Left (peel_outcome ws n m k w).after b → ⊥
  whole_left f b l q =
      eqb-false (after (0 + b)) 2 (f (0 + b) (omega arith))
      (sym (ap (λ (o : Outcome). byte_of o.after b) A.outcome ∙ at_list_from 0 (n + k) after b l) ∙ q)

-- Where no cause before 12 refuses, a peeling answers or is refused 12.
pub peel_refused : (ws : List ℕ) (n m k : ℕ) (w : List ℕ) → Taken ws n m k w → ((peel_outcome ws n m k w).reply.number ≡ 0 → ⊥)
    → peel_outcome ws n m k w ≡ record { reply = refusal 12 []; after = w }
unfolding peel_outcome peel_reply
peel_refused ws n m k w T d =
    elim (is (peels (lent 8 ws) (n + k) (m + k) (byte_of w))) [
      | is_false p ↦ rw (passes ws n m k T.accepted, eq-eqb (length w) (n + k) T.word.size, word_right (n + k) 2 w T.word, p)
      | is_true p ↦ absurd (d (rw (passes ws n m k T.accepted, eq-eqb (length w) (n + k) T.word.size, word_right (n + k) 2 w T.word, p)))
    ]
