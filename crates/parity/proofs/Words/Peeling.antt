-- What peeling promises of the lists that it is lent and leaves: what is left is the largest stopping set within the erased bits; a word got
-- from a codeword by erasing is peeled, to the codeword's bits; peeling twice changes nothing more. Assumes nothing.
use mathlib.Core.Path.{◌≡◌, refl, sym, ap, ◌∙◌}
use mathlib.Core.Bool.{Bool, true, false, not, ◌&&◌}
use mathlib.Core.List.{List, [], ◌∷◌}
use mathlib.Core.Logic.{◌⊎◌, ⊎_elim}
use Prim.Native.Nat.{ℕ, ◌+◌, ◌%◌, ◌<◌}
use native.Mathlib.Nat.{zero-add}
use native.Mathlib.Omega.{arith}
use lib.Dec.{eqb}
use lib.ListN.{length, get_or}
use borrow.Author.Tests.{eq-eqb, ne_eqb, eqb-true, eqb-false}
use Rattle.parity.specs.Finite.{one, count, list_from}
use Rattle.parity.specs.Matrix.{Matrix, lent}
use Rattle.parity.specs.Words.{erased, is_one, inside, residue, peels, peeled, recovered, losses, agrees}
use Rattle.parity.specs.Causes.{Reply, answer, Outcome, refusal}
use Rattle.parity.specs.Calls.{byte_of, verify_reply, is_stopping_reply, peel_reply, peel_outcome}
use Rattle.parity.proofs.Finite.Sums.{is_true, is_false, is, one≤1, all_of, count_cong, count_part, byte_one, eqb_one, eqb_two, byte_known, count_never}
use Rattle.parity.proofs.Finite.Lists.{length_list_from, at_list_from, list_from_cong}
use Rattle.parity.proofs.Words.Extend.{inside_cong}
use Rattle.parity.proofs.Words.Residue.{outside, any_set_at, residue_of, residue_within, residue_stops, Solves, solve}
use Rattle.parity.proofs.Words.Peel.{peels_solved, peeled_left, peeled_value, right_value}
use Rattle.parity.proofs.Words.Steps.{stage_start, Ended, ended}
use Rattle.parity.proofs.Matrix.Accept.{Accepted, passes}
use Rattle.parity.proofs.Causes.Admit.{accepted_number}
use Rattle.parity.proofs.Words.Bytes.{Word, read_word, word_right, Codeword, list_bytes}
use Rattle.parity.proofs.Words.Verifying.{verifies, list_stops, stops_list}

-- the four numbers depend on the bytes of n + k bits alone
pub losses_same : (n k : ℕ) (before after end : ℕ → ℕ) → ((b : ℕ) → b < n + k → after b ≡ end b) → losses n k before after ≡ losses n k before end
unfolding losses recovered
losses_same n k before after end f =
    let a = count_cong n {p = λ b. erased before b && not (erased after b)} {q = λ b. erased before b && not (erased end b)} (λ b l. rw (f b (omega arith))) in
    let b = count_cong k {p = λ j. erased before (n + j) && not (erased after (n + j))} {q = λ j. erased before (n + j) && not (erased end (n + j))} (λ j l. rw (f (n + j) (omega arith))) in
    let c = count_cong n {p = erased after} {q = erased end} (λ b l. rw (f b (omega arith))) in
    let d = count_cong k {p = λ j. erased after (n + j)} {q = λ j. erased end (n + j)} (λ j l. rw (f (n + j) (omega arith))) in
    cc

-- Peeling, from the word at which steps end.
module _ (ws : List ℕ) (n m k : ℕ) (A : Accepted ws n m k) (w : List ℕ) (W : Word (n + k) 2 w) (end : ℕ → ℕ)
    (E : Ended (lent 8 ws) (n + k) (m + k) (byte_of w) end) where
  pub peel_made : agrees (lent 8 ws) (n + k) (m + k) end ≡ true
      → peel_outcome ws n m k w ≡ record { reply = answer (losses n k (byte_of w) end); after = list_from 0 (n + k) end }
  unfolding peel_outcome peel_reply
  peel_made e =
      let p : peels (lent 8 ws) (n + k) (m + k) (byte_of w) ≡ true = E.answers ∙ e in
      let t : list_from 0 (n + k) (peeled (lent 8 ws) (n + k) (m + k) (byte_of w)) ≡ list_from 0 (n + k) end = list_from_cong 0 (n + k) (peeled (lent 8 ws) (n + k) (m + k) (byte_of w)) end (λ j l. E.word p (0 + j) (omega arith)) in
      rw (passes ws n m k A, eq-eqb (length w) (n + k) W.size, word_right (n + k) 2 w W, p, t, losses_same n k (byte_of w) (peeled (lent 8 ws) (n + k) (m + k) (byte_of w)) end (E.word p))

  pub peel_refused : agrees (lent 8 ws) (n + k) (m + k) end ≡ false → peel_outcome ws n m k w ≡ record { reply = refusal 12 []; after = w }
  unfolding peel_outcome peel_reply
  peel_refused e = rw (passes ws n m k A, eq-eqb (length w) (n + k) W.size, word_right (n + k) 2 w W, E.answers, e)

-- What a peeling that is not refused comes to: its matrix is accepted, its word is right, values that solve exist, and its outcome.
pub record Answered (ws : List ℕ) (n m k : ℕ) (w : List ℕ) : Type 0 where
  pub accepted : Accepted ws n m k
  pub word : Word (n + k) 2 w
  pub solvable : peels (lent 8 ws) (n + k) (m + k) (byte_of w) ≡ true
  pub outcome : peel_outcome ws n m k w ≡ record {
    reply = answer (losses n k (byte_of w) (peeled (lent 8 ws) (n + k) (m + k) (byte_of w)));
    after = list_from 0 (n + k) (peeled (lent 8 ws) (n + k) (m + k) (byte_of w));
  }

module _ (ws : List ℕ) (n m k : ℕ) (w : List ℕ) where
  abbrev h : Matrix
  h = lent 8 ws

  abbrev N : ℕ
  N = n + k

  abbrev M : ℕ
  M = m + k

  answers : Accepted ws n m k → Word N 2 w → peels h N M (byte_of w) ≡ true → Answered ws n m k w
  answers A W p = record { accepted = A; word = W; solvable = p; outcome = made }
    where
      made : peel_outcome ws n m k w ≡ record {
        reply = answer (losses n k (byte_of w) (peeled h N M (byte_of w)));
        after = list_from 0 N (peeled h N M (byte_of w));
      }
      made = unfold peel_outcome peel_reply in rw (passes ws n m k A _, eq-eqb (length w) N W.size, word_right N 2 w W, p)

  pub peel_answered : (peel_outcome ws n m k w).reply.number ≡ 0 → Answered ws n m k w
  unfolding peel_outcome peel_reply
  peel_answered e =
      let A = accepted_number ws n m k _ e in
      let (W, f) = read_word N 2 w _ (sym (ap (λ r. r.number) (passes ws n m k A _)) ∙ e) in
      elim (is (peels h N M (byte_of w))) [
        | is_true p ↦ answers A W p
        | is_false p ↦ absurd (omega (arith, rw (passes ws n m k A _, f, p) at e))
      ]

  -- a peeling that is not refused
  module _ (A : Answered ws n m k w) where
    abbrev left : List ℕ
    left = (peel_outcome ws n m k w).after

    after_is : left ≡ list_from 0 N (peeled h N M (byte_of w))
    after_is = ap (λ (o : Outcome). o.after) A.outcome

    pub after_size : length left ≡ N
    after_size = ap length after_is ∙ length_list_from 0 N (peeled h N M (byte_of w))

    after_at : (b : ℕ) → b < N → byte_of left b ≡ peeled h N M (byte_of w) b
    after_at b l =
        ap (λ (v : List ℕ). byte_of v b) after_is ∙ at_list_from 0 N (peeled h N M (byte_of w)) b l ∙ ap (peeled h N M (byte_of w)) (zero-add b)

    abbrev r : ℕ → Bool
    r = residue h N M (erased (byte_of w))

    -- values that solve
    solution : (y : ℕ → Bool) × Solves h N M (erased (byte_of w)) r (is_one (byte_of w)) y
    unfolding peels
    solution =
        let (y, t) = any_set_at N _ A.solvable in
        (y, (solve h N M (erased (byte_of w)) r (is_one (byte_of w)) y).0 t)

    -- the bits left are those of the residue, and the others have the values that solve
    pub left_is : (b : ℕ) → b < N → erased (byte_of left) b ≡ r b
    left_is b l =
        let (y, s) = solution in
        rw (after_at b l) (elim (is (r b)) [
          | is_true q ↦ rw (q, peeled_left h N M (byte_of w) y s b q)
          | is_false q ↦ rw (q, peeled_value h N M (byte_of w) y s b l q) (eqb_two (y b))
        ])

    value_is : (b : ℕ) → b < N → r b ≡ false → is_one (byte_of left) b ≡ solution.0 b
    value_is b l q =
        let (y, s) = solution in
        rw (after_at b l, peeled_value h N M (byte_of w) y s b l q) (eqb_one (y b))

    -- The bits left, as a list of 0 and 1.
    unfoldable pub left_set : List ℕ
    left_set = list_from 0 N (λ b. one (erased (byte_of left) b))

    set_at : (b : ℕ) → b < N → byte_of left_set b ≡ one (erased (byte_of left) b)
    unfolding left_set
    set_at b l = at_list_from 0 N (λ b. one (erased (byte_of left) b)) b l ∙ ap (λ (a : ℕ). one (erased (byte_of left) a)) (zero-add b)

    -- They are a stopping set, as testing it says,
    pub left_stops : is_stopping_reply ws n m k left_set ≡ answer (1 ∷ [])
    left_stops =
        list_stops ws n m k A.accepted left_set
        record {
          size = unfold left_set in length_list_from 0 N (λ b. one (erased (byte_of left) b));
          bytes = λ b l. rw (set_at b l) (one≤1 (erased (byte_of left) b));
        }
        (λ c l e. residue_stops h N M (erased (byte_of w)) c l (sym (inside_cong h N c (λ b j. ap (λ (a : ℕ). eqb a 1) (set_at b j) ∙ eqb_one (erased (byte_of left) b) ∙ left_is b j)) ∙ e))

    -- within the erased bits,
    pub left_erased : (b : ℕ) → b < N → byte_of left b ≡ 2 → byte_of w b ≡ 2
    left_erased b l e =
        eqb-true (byte_of w b) 2 (residue_within h N M (erased (byte_of w)) b l (sym (left_is b l) ∙ eq-eqb (byte_of left b) 2 e))

    -- and every stopping set within the erased bits is within it.
    pub left_largest : (t : List ℕ) → is_stopping_reply ws n m k t ≡ answer (1 ∷ []) → ((b : ℕ) → b < N → byte_of t b ≡ 1 → byte_of w b ≡ 2)
        → (b : ℕ) → b < N → byte_of t b ≡ 1 → byte_of left b ≡ 2
    left_largest t e f b l q =
        let (T, S) = stops_list ws n m k A.accepted t e in
        eqb-true (byte_of left b) 2 (left_is b l ∙ residue_of h N M (erased (byte_of w)) (is_one (byte_of t)) S
        (λ a j p. eq-eqb (byte_of w a) 2 (f a j (eqb-true (byte_of t a) 1 p))) b l (eq-eqb (byte_of t b) 1 q))

    -- The sent bits recovered and those left are the erased sent bits, and the added bits likewise; where k = 0 there is no added bit.
    still : (b : ℕ) → b < N → erased (peeled h N M (byte_of w)) b ≡ true → erased (byte_of w) b ≡ true
    still b l e = eq-eqb (byte_of w b) 2 (left_erased b l (after_at b l ∙ eqb-true (peeled h N M (byte_of w) b) 2 e))

    abbrev carried : ℕ → ℕ
    carried i = get_or (peel_outcome ws n m k w).reply.values i 0

    carries : (peel_outcome ws n m k w).reply.values ≡ losses n k (byte_of w) (peeled h N M (byte_of w))
    carries = ap (λ (o : Outcome). o.reply.values) A.outcome

    pub losses_sent : carried 0 + carried 2 ≡ count n (erased (byte_of w))
    unfolding losses recovered
    losses_sent = rw carries (count_part n (erased (byte_of w)) (erased (peeled h N M (byte_of w))) (λ b l. still b (omega arith)))

    pub losses_added : carried 1 + carried 3 ≡ count k (λ j. erased (byte_of w) (n + j))
    unfolding losses recovered
    losses_added =
        rw carries (count_part k (λ j. erased (byte_of w) (n + j)) (λ j. erased (peeled h N M (byte_of w)) (n + j)) (λ j l. still (n + j) (omega arith)))

    pub losses_given : k ≡ 0 → (carried 1 ≡ 0) × (carried 3 ≡ 0)
    losses_given e =
        let s = losses_added in
        let z : count k (λ j. erased (byte_of w) (n + j)) ≡ 0 = rw e (unfold count in refl) in
        (omega arith, omega arith)

    -- a bit that was not erased is kept
    pub kept : (b : ℕ) → b < N → (byte_of w b ≡ 2 → ⊥) → byte_of left b ≡ byte_of w b
    kept b l d =
        let (y, s) = solution in
        let z : erased (byte_of w) b ≡ false = ne_eqb (byte_of w b) 2 d in
        let q : r b ≡ false = elim (is (r b)) [ is_false q ↦ q | is_true q ↦ absurd (d (eqb-true (byte_of w b) 2 (residue_within h N M (erased (byte_of w)) b l q))) ] in
        after_at b l ∙ peeled_value h N M (byte_of w) y s b l q ∙ ap one (s.known b l z)
        ∙ byte_known (byte_of w b) (A.word.bytes b l) d

    left_word : Word N 2 left
    left_word = record {
      size = after_size;
      bytes = λ b l.
          let (y, s) = solution in
          rw (after_at b l) (elim (is (r b)) [
            | is_true q ↦ rw (peeled_left h N M (byte_of w) y s b q) (omega arith)
            | is_false q ↦ rw (peeled_value h N M (byte_of w) y s b l q) (omega (arith, one≤1 (y b)))
          ]);
    }

    left_ended : Ended h N M (byte_of left) (byte_of left)
    left_ended =
        ended h N M (byte_of left) (byte_of left) (stage_start h N M (byte_of left) left_word.bytes)
        (λ c l e. residue_stops h N M (erased (byte_of w)) c l (sym (inside_cong h N c left_is) ∙ e))

    left_agrees : agrees h N M (byte_of left) ≡ true
    unfolding agrees
    left_agrees = all_of M _ (λ c l. elim (is (eqb (inside h N c (erased (byte_of left))) 0)) [
      | is_false q ↦ rw q
      | is_true q ↦ rw q (eq-eqb (inside h N c (is_one (byte_of left)) % 2) 0 (even c l (sym (inside_cong h N c left_is) ∙ eqb-true (inside h N c (erased (byte_of left))) 0 q)))
    ])
      where
        even : (c : ℕ) → c < M → inside h N c r ≡ 0 → inside h N c (is_one (byte_of left)) % 2 ≡ 0
        even c l z =
            let same : inside h N c (is_one (byte_of left)) ≡ inside h N c solution.0 = unfold inside in count_cong N (λ b j. elim (is (h c b)) [
              | is_true p ↦ rw (p, value_is b j (outside h N c r z b j p))
              | is_false p ↦ rw p
            ]) in
            ap (◌% 2) same ∙ solution.1.even c l z

    -- Peeling what was left recovers nothing more, and changes nothing.
    pub peel_again : peel_outcome ws n m k left
        ≡ record { reply = answer (0 ∷ 0 ∷ count n (erased (byte_of left)) ∷ count k (λ j. erased (byte_of left) (n + j)) ∷ []); after = left }
    unfolding losses recovered
    peel_again =
        let e = peel_made ws n m k A.accepted left left_word (byte_of left) left_ended left_agrees in
        let p = count_never n (erased (byte_of left)) in
        let q = count_never k (λ j. erased (byte_of left) (n + j)) in
        e ∙ rw (p, q, list_bytes N left after_size)

-- a word that is got from a codeword x by erasing
module _ (ws : List ℕ) (n m k : ℕ) (x : List ℕ) (v : verify_reply ws n m k x ≡ answer (1 ∷ [])) (w : List ℕ) (size : length w ≡ n + k)
    (got : (b : ℕ) → b < n + k → (byte_of w b ≡ 2) ⊎ (byte_of w b ≡ byte_of x b)) where
  accepted_x : Accepted ws n m k
  unfolding verify_reply
  accepted_x = accepted_number ws n m k _ (ap (λ (r : Reply). r.number) v)

  pub codeword_x : Codeword (lent 8 ws) (n + k) (m + k) x
  codeword_x = verifies ws n m k accepted_x x v

  word_w : Word (n + k) 2 w
  word_w = record {
    size = size;
    bytes = λ b l. ⊎_elim (λ e. omega arith) (λ e. omega (arith, codeword_x.word.bytes b l)) (got b l);
  }

  pub solves_w : Solves (lent 8 ws) (n + k) (m + k) (erased (byte_of w)) (residue (lent 8 ws) (n + k) (m + k) (erased (byte_of w))) (is_one (byte_of w)) (is_one (byte_of x))
  solves_w = record {
    known = λ b l q. ⊎_elim (λ e. absurd (eqb-false (byte_of w b) 2 q e)) (λ e. ap (λ (a : ℕ). eqb a 1) (sym e)) (got b l);
    even = λ c l q. codeword_x.even c l;
  }

  pub erased_answered : Answered ws n m k w
  erased_answered = answers ws n m k w accepted_x word_w (peels_solved (lent 8 ws) (n + k) (m + k) (byte_of w) (is_one (byte_of x)) solves_w)

  -- it is never refused,
  pub never_refused : (peel_outcome ws n m k w).reply.number ≡ 0
  never_refused = ap (λ (o : Outcome). o.reply.number) erased_answered.outcome

  -- and each bit that is not left is the codeword's.
  pub recovers : (b : ℕ) → b < n + k → (byte_of (peel_outcome ws n m k w).after b ≡ 2 → ⊥) → byte_of (peel_outcome ws n m k w).after b ≡ byte_of x b
  recovers b l d =
      let e = after_at ws n m k w erased_answered b l in
      e ∙ right_value (lent 8 ws) (n + k) (m + k) (byte_of w) (is_one (byte_of x)) solves_w b l (λ q. d (e ∙ q))
      ∙ byte_one (byte_of x b) (codeword_x.word.bytes b l)
