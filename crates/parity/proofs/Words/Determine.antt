-- The call determine on a matrix and a word that no cause before 12 refuses, and peeling of the same word. Assumes nothing.
use mathlib.Core.Path.{◌≡◌, refl, sym, ap, ◌∙◌}
use mathlib.Core.Logic.{◌↔◌}
use mathlib.Core.Bool.{Bool, true, false, not, cond, ◌&&◌, and-not_self}
use mathlib.Core.List.{List, [], ◌∷◌}
use Prim.Native.Nat.{ℕ, ◌+◌, ◌≤◌, ◌<◌}
use native.Mathlib.Nat.{zero-add}
use native.Mathlib.Omega.{arith}
use native.Mathlib.Decide.{ℕ_discrete}
use lib.Dec.{eqb}
use lib.ListN.{length}
use borrow.Author.Tests.{eq-eqb, ne_eqb, eqb-true, eqb-false}
use Rattle.parity.specs.Finite.{one, count, list_from}
use Rattle.parity.specs.Matrix.{Matrix, lent, in_range, clean, rule_a, cause}
use Rattle.parity.specs.Words.{erased, is_one, peeled, recovered, losses}
use Rattle.parity.specs.Determining.{some_agrees, determined}
use Rattle.parity.specs.Causes.{Reply, answer, refusal, accepting, Outcome}
use Rattle.parity.specs.Calls.{byte_of, wrong_byte, checking_bytes, verify_reply, peel_reply, peel_outcome, determine_reply, determine_outcome}
use Rattle.parity.specs.Demand3.{Left}
use Rattle.parity.specs.DeterminingPromises.{Agreeing, Determines}
use Rattle.parity.proofs.Finite.Sums.{is_true, is_false, is, one≤1, sum_zero, byte_one, eqb_one, byte_known}
use Rattle.parity.proofs.Finite.Lists.{length_list_from, at_list_from}
use Rattle.parity.proofs.Matrix.Accept.{Accepted, accepts, accepting_answers, accepting_refuses, passes}
use Rattle.parity.proofs.Causes.Admit.{accepted_number}
use Rattle.parity.proofs.Words.Extend.{inside_cong}
use Rattle.parity.proofs.Words.Agreeing.{Agree, open_at, written_value, known_value, determined_byte, agrees_peels, some_same, determined_same}
use Rattle.parity.proofs.Words.Bytes.{Word, right_bytes, read_word, word_right}
use Rattle.parity.proofs.Words.Verifying.{verifies, verified}

-- the matrix and the word of a call that is not refused before 12
pub record Taken (ws : List ℕ) (n m k : ℕ) (w : List ℕ) : Type 0 where
  pub accepted : Accepted ws n m k
  pub word : Word (n + k) 2 w

module _ (ws : List ℕ) (n m k : ℕ) (w : List ℕ) where
  abbrev h : Matrix
  h = lent 8 ws

  abbrev N : ℕ
  N = n + k

  abbrev M : ℕ
  M = m + k

  abbrev o : Outcome
  o = determine_outcome ws n m k w

  pub verify_taken : (verify_reply ws n m k w).number ≡ 0 → Taken ws n m k w
  unfolding verify_reply
  verify_taken e =
      let A = accepted_number ws n m k _ e in
      record { accepted = A; word = (read_word N 2 w _ (sym (ap (λ r. r.number) (passes ws n m k A _)) ∙ e)).0 }

  -- a codeword that agrees, as a list and as a set
  pub agreeing_at : Accepted ws n m k → (x : List ℕ) → Agreeing ws n m k w x → Agree h N M (byte_of w) (is_one (byte_of x))
  agreeing_at A x a = record {
    even = (verifies ws n m k A x a.codeword).even;
    known = λ b l q. ap (λ (v : ℕ). eqb v 1) (a.known b l (eqb-false (byte_of w b) 2 q));
  }

  pub agreeing_bytes : Accepted ws n m k → (x : List ℕ) → Agreeing ws n m k w x → (b : ℕ) → b < N → one (is_one (byte_of x) b) ≡ byte_of x b
  agreeing_bytes A x a b l = byte_one (byte_of x b) ((verifies ws n m k A x a.codeword).word.bytes b l)

  pub listed : (ℕ → Bool) → List ℕ
  listed y = list_from 0 N (λ b. one (y b))

  pub listed_at : (y : ℕ → Bool) (b : ℕ) → b < N → byte_of (listed y) b ≡ one (y b)
  unfolding listed
  listed_at y b l = at_list_from 0 N (λ b. one (y b)) b l ∙ ap (λ (a : ℕ). one (y a)) (zero-add b)

  -- the value of a byte that is not erased
  pub byte_value : Word N 2 w → (b : ℕ) → b < N → (byte_of w b ≡ 2 → ⊥) → one (is_one (byte_of w) b) ≡ byte_of w b
  byte_value W b l d = byte_known (byte_of w b) (W.bytes b l) d

  pub agreeing_of : Taken ws n m k w → (y : ℕ → Bool) → Agree h N M (byte_of w) y → Agreeing ws n m k w (listed y)
  agreeing_of T y a = record {
    codeword = verified ws n m k T.accepted (listed y) record {
      word = record { size = unfold listed in length_list_from 0 N (λ b. one (y b)); bytes = λ b l. rw (listed_at y b l) (one≤1 (y b)) };
      even = λ c l. rw (inside_cong h N c {w = is_one (byte_of (listed y))} {x = y} (λ b q. rw (listed_at y b q) (eqb_one (y b)))) (a.even c l);
    };
    known = λ b l d. listed_at y b l ∙ ap one (a.known b l (ne_eqb (byte_of w b) 2 d)) ∙ byte_value T.word b l d;
  }

  -- A codeword that agrees with a word of n + k bytes: no cause before 12 refuses.
  pub agreeing_taken : length w ≡ N → (x : List ℕ) → Agreeing ws n m k w x → Taken ws n m k w
  unfolding verify_reply
  agreeing_taken size x a =
      let A = accepted_number ws n m k _ (ap (λ (r : Reply). r.number) a.codeword) in
      record {
        accepted = A;
        word = record {
          size = size;
          bytes = λ b l. elim (ℕ_discrete (byte_of w b) 2) [
            | yes q ↦ omega arith
            | no d ↦ rw (← a.known b l d) (omega (arith, (verifies ws n m k A x a.codeword).word.bytes b l))
          ];
        };
      }

  module _ (T : Taken ws n m k w) where
    pub determine_made : some_agrees h N M (byte_of w) ≡ true
        → o ≡ record { reply = answer (losses n k (byte_of w) (determined h N M (byte_of w))); after = list_from 0 N (determined h N M (byte_of w)) }
    unfolding determine_outcome determine_reply
    determine_made e = rw (passes ws n m k T.accepted, eq-eqb (length w) N T.word.size, word_right N 2 w T.word, e) refl

    pub determine_refused : some_agrees h N M (byte_of w) ≡ false → o ≡ record { reply = refusal 12 []; after = w }
    unfolding determine_outcome determine_reply
    determine_refused e = rw (passes ws n m k T.accepted, eq-eqb (length w) N T.word.size, word_right N 2 w T.word, e)

  -- a call that is not refused
  pub answered : o.reply.number ≡ 0 → Taken ws n m k w × (some_agrees h N M (byte_of w) ≡ true)
  unfolding determine_outcome determine_reply
  answered e =
      let A = accepted_number ws n m k _ e in
      let (W, f) = read_word N 2 w _ (sym (ap (λ r. r.number) (passes ws n m k A _)) ∙ e) in
      let T : Taken ws n m k w = record { accepted = A; word = W } in
      elim (is (some_agrees h N M (byte_of w))) [
        | is_true p ↦ (T, p)
        | is_false p ↦ absurd (omega (arith, rw (passes ws n m k A _, f, p) at e))
      ]

  -- Some codeword agrees: what is written.
  module _ (T : Taken ws n m k w) (s : some_agrees h N M (byte_of w) ≡ true) where
    after_is : o.after ≡ list_from 0 N (determined h N M (byte_of w))
    after_is = ap (λ (o : Outcome). o.after) (determine_made T s)

    pub after_size : length o.after ≡ N
    after_size = ap length after_is ∙ length_list_from 0 N (determined h N M (byte_of w))

    pub after_at : (b : ℕ) → b < N → byte_of o.after b ≡ determined h N M (byte_of w) b
    after_at b l =
        ap (λ (v : List ℕ). byte_of v b) after_is ∙ at_list_from 0 N (determined h N M (byte_of w)) b l ∙ ap (determined h N M (byte_of w)) (zero-add b)

    value : (b : ℕ) → b < N → (Left o.after b → ⊥) → (x : List ℕ) → Agreeing ws n m k w x → byte_of o.after b ≡ byte_of x b
    value b l d x a =
        after_at b l ∙ written_value h N M (byte_of w) b l (is_one (byte_of x)) (agreeing_at T.accepted x a) (λ q. d (after_at b l ∙ q))
        ∙ agreeing_bytes T.accepted x a b l

    differ : (b : ℕ) → b < N → Left o.after b
        → (x : List ℕ) × (y : List ℕ) × Agreeing ws n m k w x × Agreeing ws n m k w y × (byte_of x b ≡ byte_of y b → ⊥)
    differ b l q =
        let (y, z, a, d, p, r) = open_at h N M (byte_of w) b (sym (after_at b l) ∙ q) in
        (listed y, listed z, agreeing_of T y a, agreeing_of T z d, λ e. apart (y b) (z b) p r (sym (listed_at y b l) ∙ e ∙ listed_at z b l))
      where
        apart : (u v : Bool) → u ≡ true → not v ≡ true → one u ≡ one v → ⊥
        apart true false p r e = omega arith
        apart true true p r e = omega (arith, ap one r)
        apart false v p r e = omega (arith, ap one p)

    pub determines : Determines ws n m k w o
    determines = record {
      exactly = λ b l. (
        λ d x y a e. sym (value b l d x a) ∙ value b l d y e,
        λ f q. let (x, y, a, e, d) = differ b l q in d (f x y a e),
      );
      value = value;
      differ = differ;
    }

    pub kept : (b : ℕ) → b < N → (byte_of w b ≡ 2 → ⊥) → byte_of o.after b ≡ byte_of w b
    kept b l d = after_at b l ∙ known_value h N M (byte_of w) s b l (ne_eqb (byte_of w b) 2 d) ∙ byte_value T.word b l d

    after_taken : Taken ws n m k o.after
    after_taken = record {
      accepted = T.accepted;
      word = record { size = after_size; bytes = λ b l. rw (after_at b l) (determined_byte h N M (byte_of w) b) };
    }

    -- the same codewords agree with what is written
    after_agrees : (y : ℕ → Bool) → Agree h N M (byte_of o.after) y ↔ Agree h N M (byte_of w) y
    after_agrees y = (
      λ a. record {
        even = a.even;
        known = λ b l q.
            let e = kept b l (eqb-false (byte_of w b) 2 q) in
            a.known b l (ap (λ (v : ℕ). eqb v 2) e ∙ q) ∙ ap (λ (v : ℕ). eqb v 1) e;
      },
      λ a. record {
        even = a.even;
        known = λ b l q.
            sym (ap (λ (v : ℕ). eqb v 1) (after_at b l ∙ written_value h N M (byte_of w) b l y a (λ z. eqb-false (byte_of o.after b) 2 q (after_at b l ∙ z)))
            ∙ eqb_one (y b));
      },
    )

    pub again : determine_outcome ws n m k o.after
        ≡ record { reply = answer (0 ∷ 0 ∷ count n (erased (determined h N M (byte_of w))) ∷ count k (λ j. erased (determined h N M (byte_of w)) (n + j)) ∷ []); after = o.after }
    unfolding determine_outcome determine_reply losses recovered
    again =
        let z : some_agrees h N M (byte_of o.after) ≡ true = some_same h h N M M (byte_of o.after) (byte_of w) after_agrees ∙ s in
        let d : determined h N M (byte_of o.after) ≡ determined h N M (byte_of w) = determined_same h h N M M (byte_of o.after) (byte_of w) after_agrees in
        let p = nothing n (λ b. b) (λ b l. after_at b (omega arith)) in
        let q = nothing k (λ j. n + j) (λ j l. after_at (n + j) (omega arith)) in
        rw (passes ws n m k T.accepted, eq-eqb (length o.after) N after_size, word_right N 2 o.after after_taken.word, z, d, p, q, after_is)
      where
        nothing : (i : ℕ) (at : ℕ → ℕ) → ((b : ℕ) → b < i → byte_of o.after (at b) ≡ determined h N M (byte_of w) (at b))
            → count i (λ b. erased (byte_of o.after) (at b) && not (erased (determined h N M (byte_of w)) (at b))) ≡ 0
        nothing i at f = unfold count in sum_zero i (λ b l. rw (f b l, and-not_self (erased (determined h N M (byte_of w)) (at b))))

-- causes 1 to 4
cause_low : (ws : List ℕ) (n m k : ℕ) → cause ws n m k ≤ 4
unfolding cause
cause_low ws n m k = low (eqb (length ws) 4096) (in_range n m k) (clean 8 (n + k) (m + k) 0 ws) (rule_a (lent 8 ws) n m k)
  where
    low : (a b c d : Bool) → cond (not a) 1 (cond (not b) 2 (cond (not c) 3 (cond (not d) 4 0))) ≤ 4
    low true true true true = omega arith
    low true true true false = omega arith
    low true true false d = omega arith
    low true false c d = omega arith
    low false b c d = omega arith

-- a refusal 12 comes behind them, and behind causes 10 and 11
taken_twelve : (ws : List ℕ) (n m k : ℕ) (w : List ℕ) (after : Reply) → accepting ws n m k (checking_bytes (n + k) 2 w after) ≡ refusal 12 [] → Taken ws n m k w
taken_twelve ws n m k w after e =
    elim (ℕ_discrete (cause ws n m k) 0) [
      | no d ↦ absurd (omega (arith, cause_low ws n m k, ap (λ (r : Reply). r.number) (sym (accepting_refuses ws n m k (checking_bytes (n + k) 2 w after) d) ∙ e)))
      | yes q ↦
          let f = sym (accepting_answers ws n m k (checking_bytes (n + k) 2 w after) q) ∙ e in
          elim (is (eqb (length w) (n + k))) [
            | is_false p ↦ absurd (omega (arith, ap (λ (r : Reply). r.number) (rw p at f)))
            | is_true p ↦ elim (is (wrong_byte 2 w)) [
              | is_true r ↦ absurd (omega (arith, ap (λ (r : Reply). r.number) (rw (p, r) at f)))
              | is_false r ↦ record {
                accepted = (accepts ws n m k).0 q;
                word = record { size = eqb-true (length w) (n + k) p; bytes = λ b l. (right_bytes 2 w).0 r b (omega (arith, eqb-true (length w) (n + k) p)) };
              }
            ]
          ]
    ]

-- peeling, of the same word
module _ (ws : List ℕ) (n m k : ℕ) (w : List ℕ) where
  -- where some codeword agrees, it answers,
  pub peel_answers : Taken ws n m k w → some_agrees (lent 8 ws) (n + k) (m + k) (byte_of w) ≡ true → peel_outcome ws n m k w ≡ record {
    reply = answer (losses n k (byte_of w) (peeled (lent 8 ws) (n + k) (m + k) (byte_of w)));
    after = list_from 0 (n + k) (peeled (lent 8 ws) (n + k) (m + k) (byte_of w));
  }
  unfolding peel_outcome peel_reply
  peel_answers T s =
      rw (passes ws n m k T.accepted, eq-eqb (length w) (n + k) T.word.size, word_right (n + k) 2 w T.word, agrees_peels (lent 8 ws) (n + k) (m + k) (byte_of w) s)

  pub peel_after : Taken ws n m k w → some_agrees (lent 8 ws) (n + k) (m + k) (byte_of w) ≡ true
      → (b : ℕ) → b < n + k → byte_of (peel_outcome ws n m k w).after b ≡ peeled (lent 8 ws) (n + k) (m + k) (byte_of w) b
  peel_after T s b l =
      ap (λ (o : Outcome). byte_of o.after b) (peel_answers T s) ∙ at_list_from 0 (n + k) (peeled (lent 8 ws) (n + k) (m + k) (byte_of w)) b l
      ∙ ap (peeled (lent 8 ws) (n + k) (m + k) (byte_of w)) (zero-add b)

  -- and a refusal 12 comes behind the causes before it
  pub peel_taken : (peel_outcome ws n m k w).reply ≡ refusal 12 [] → Taken ws n m k w
  unfolding peel_outcome peel_reply
  peel_taken e = taken_twelve ws n m k w _ e
