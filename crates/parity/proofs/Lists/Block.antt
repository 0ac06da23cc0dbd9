-- One door for sample blocks: whatever its stages come to, the word is M-105's, and it is refused as that one is (M-110). Assumes nothing.
use mathlib.Core.Path.{◌≡◌, refl, sym, ap, ◌∙◌}
use mathlib.Core.Bool.{false}
use mathlib.Core.List.{List, [], ◌∷◌, ◌++◌}
use Prim.Native.Nat.{ℕ, ◌+◌, ◌≤◌, ◌<◌}
use native.Mathlib.Omega.{arith}
use native.Mathlib.Decide.{ℕ_discrete}
use lib.Dec.{eqb}
use lib.ListN.{get_or, length, take, replicate}
use lib.Seq.{get_or-take}
use borrow.Author.Tests.{eq-eqb, ne_eqb, lt-ltb}
use Rattle.parity.specs.Matrix.{lent, cause}
use Rattle.parity.specs.Words.{erased, peeled, recovered}
use Rattle.parity.specs.Determining.{some_agrees}
use Rattle.parity.specs.Causes.{Reply, refusal, accepting, Outcome}
use Rattle.parity.specs.Calls.{byte_of, wrong_byte, orthogonalising, orthogonalised_reply, peel_reply, peel_outcome, determine_reply, determine_outcome}
use Rattle.parity.specs.Block.{bits_recovered, sent_remain, bits_remain, mended, eliminating, copy_made, copy_k, copy_peeled, peeling_copy, peeling_given, block_outcome}
use Rattle.parity.specs.Demand3.{orthogonalises, Stand, next, runs, start, Left, Keeps}
use Rattle.parity.specs.BlockPromises.{MendedAsDetermined, MendRefusedIfNone, MendRefusesAdded, Mended, MendAnswers, AddedWithSent}
use Rattle.parity.proofs.Finite.Sums.{is_true, is_false, is}
use Rattle.parity.proofs.Matrix.Accept.{Accepted, accepts, accepting_refuses}
use Rattle.parity.proofs.Causes.Admit.{accepted_number}
use Rattle.parity.proofs.Words.Bytes.{right_bytes}
use Rattle.parity.proofs.Words.Determine.{Taken, verify_taken, answered, determine_made, determine_refused}
use Rattle.parity.proofs.Words.Determining.{refused_if_none, refused_with_peeling}
use Rattle.parity.proofs.Splits.Splitting.{orthogonalises as orthogonalise-made}
use Rattle.parity.proofs.Lists.Chain.{reply_k}
use Rattle.parity.proofs.Lists.Demand3.{demand3}
use Rattle.parity.proofs.Lists.Determined.{taken_more, alike}
use Rattle.parity.proofs.Lists.Answered.{recovered_most, sent_known, all_known, added_left, whole_determined, whole_left, peel_refused}

-- What a stage, and what follows it, comes to: the word and the refusal of determining, and an answer as it is promised.
record Right (ws : List ℕ) (n m : ℕ) (w : List ℕ) (o : Outcome) : Type 0 where
  after : o.after ≡ (determine_outcome ws n m 0 w).after
  number : o.reply.number ≡ (determine_outcome ws n m 0 w).reply.number
  refused : ((determine_outcome ws n m 0 w).reply.number ≡ 0 → ⊥) → o.reply ≡ (determine_outcome ws n m 0 w).reply
  answered : o.reply.number ≡ 0 → Mended n o

module _ (ws : List ℕ) (n m : ℕ) (w : List ℕ) (T : Taken ws n m 0 w) where
  abbrev d : Outcome
  d = determine_outcome ws n m 0 w

  -- determining that is refused 12 leaves the word
  refused_twelve : d.reply.number ≡ 12 → d ≡ record { reply = refusal 12 []; after = w }
  refused_twelve e =
      elim (is (some_agrees (lent 8 ws) (n + 0) (m + 0) (byte_of w))) [
        | is_false q ↦ determine_refused ws n m 0 w T q
        | is_true q ↦ absurd (omega (arith, ap (λ (o : Outcome). o.reply.number) (determine_made ws n m 0 w T q)))
      ]

  right_twelve : (o : Outcome) → d.reply.number ≡ 12 → o ≡ record { reply = refusal 12 []; after = w } → Right ws n m w o
  right_twelve o e q =
      let f = q ∙ sym (refused_twelve e) in
      record {
        after = ap (λ (o : Outcome). o.after) f;
        number = ap (λ (o : Outcome). o.reply.number) f;
        refused = λ z. ap (λ (o : Outcome). o.reply) f;
        answered = λ z. absurd (omega (arith, ap (λ (o : Outcome). o.reply.number) q));
      }

  right_whole : (stage recovered : ℕ) (after : List ℕ) → 1 ≤ stage → stage ≤ 2 → recovered ≤ 632 → d.reply.number ≡ 0 → after ≡ d.after
      → ((b : ℕ) → b < n → Left after b → ⊥) → Right ws n m w (mended stage recovered after)
  right_whole stage recovered after i j l e q f = record {
    after = q;
    number = sym e;
    refused = λ z. absurd (z e);
    answered = λ z. record { stage = stage; bits = recovered; answers = refl; first = i; last = omega arith; most = l; whole = λ s. f };
  }

  -- Stage 3.
  right_eliminating : (recovered : ℕ) → recovered ≤ 632 → Right ws n m w (eliminating ws n m w recovered)
  unfolding eliminating
  right_eliminating recovered l =
      elim (ℕ_discrete d.reply.number 0) [
        | yes q ↦ rw (eq-eqb d.reply.number 0 q) record {
          after = refl;
          number = sym q;
          refused = λ z. absurd (z q);
          answered = λ z. record { stage = 3; bits = recovered; answers = refl; first = omega arith; last = omega arith; most = l; whole = λ s. absurd (omega arith) };
        }
        | no q ↦ rw (ne_eqb d.reply.number 0 q) record { after = refl; number = refl; refused = λ z. refl; answered = λ z. absurd (q z) }
      ]

  -- Stage 2: the copy is what stands after one orthogonalise, in demand 3's words.
  abbrev s : Stand
  s = runs n m (start ws) (orthogonalises ∷ [])

  K : Keeps ws n m s
  K = demand3 ws n m ((accepts ws n m 0).1 T.accepted) (orthogonalises ∷ [])

  copy_words : s.words ≡ (copy_made ws n m).after
  unfolding runs next
  copy_words = refl

  copy_k_lem : s.k ≡ copy_k ws n m
  unfolding runs next orthogonalised_reply
  copy_k_lem =
      let o = orthogonalising ws n m 0 in
      rw (orthogonalise-made ws n m 0 T.accepted, reply_k o 0) (elim (is o.finished) [ is_true q ↦ rw q | is_false q ↦ rw q ])

  abbrev more : List ℕ
  more = w ++ replicate (copy_k ws n m) 2

  abbrev by_copy : Outcome
  by_copy = determine_outcome (copy_made ws n m).after n m (copy_k ws n m) more

  size : length w ≡ n
  size = omega (arith, T.word.size)

  small : (b : ℕ) → b < n → byte_of w b ≤ 2
  small b l = T.word.bytes b (omega arith)

  copy_taken : Taken (copy_made ws n m).after n m (copy_k ws n m) more
  copy_taken = rw (copy_words, copy_k_lem) at (taken_more ws n m ((accepts ws n m 0).1 T.accepted) s K w size small)

  -- determining with the copy is determining with the given matrix
  copy_alike : (by_copy.reply.number ≡ d.reply.number) × (take n by_copy.after ≡ d.after)
  copy_alike = rw (copy_words, copy_k_lem) at (alike ws n m ((accepts ws n m 0).1 T.accepted) s K w size small)

  right_copy : (recovered : ℕ) → recovered ≤ 120 → Right ws n m w (peeling_copy ws n m w recovered)
  unfolding peeling_copy
  right_copy recovered l =
      let p = copy_peeled ws n m w in
      let S = copy_taken.accepted.sound in
      elim (is (eqb (copy_made ws n m).reply.number 9)) [
        | is_true q ↦ rw q (right_eliminating recovered (omega arith))
        | is_false q ↦ elim (ℕ_discrete p.reply.number 0) [
          | no z ↦
              let e = peel_refused (copy_made ws n m).after n m (copy_k ws n m) more copy_taken z in
              let f = refused_with_peeling (copy_made ws n m).after n m (copy_k ws n m) more (ap (λ (o : Outcome). o.reply) e) in
              rw (q, ne_eqb p.reply.number 0 z)
              (right_twelve _ (sym copy_alike.0 ∙ ap (λ (r : Reply). r.number) f) (rw (ap (λ (o : Outcome). o.reply) e)))
          | yes z ↦
              let most = recovered_most (copy_made ws n m).after n m (copy_k ws n m) more z in
              let both : recovered + bits_recovered p.reply ≤ 632 = omega (arith, S.n120, S.k392) in
              elim (is (bits_remain p.reply)) [
                | is_true r ↦ rw (q, eq-eqb p.reply.number 0 z, r) (right_eliminating _ both)
                | is_false r ↦
                    let f = all_known (copy_made ws n m).after n m (copy_k ws n m) more z r in
                    let (e, g) = whole_determined (copy_made ws n m).after n m (copy_k ws n m) more z f in
                    rw (q, eq-eqb p.reply.number 0 z, r)
                    (right_whole 2 _ (take n p.after) (omega arith) (omega arith) both (sym copy_alike.0 ∙ e) (ap (take n) (sym g) ∙ copy_alike.1)
                    (λ b i u. whole_left (copy_made ws n m).after n m (copy_k ws n m) more z f b (omega arith) (sym (get_or-take n p.after b 0 i) ∙ u)))
              ]
        ]
      ]

  -- Stage 1.
  right_given : Right ws n m w (peeling_given ws n m w)
  unfolding peeling_given
  right_given =
      let p = peel_outcome ws n m 0 w in
      elim (ℕ_discrete p.reply.number 0) [
        | no z ↦
            let e = peel_refused ws n m 0 w T z in
            rw (ne_eqb p.reply.number 0 z)
            (right_twelve _ (ap (λ (r : Reply). r.number) (refused_with_peeling ws n m 0 w (ap (λ (o : Outcome). o.reply) e))) e)
        | yes z ↦
            let most : bits_recovered p.reply ≤ 120 = omega (arith, recovered_most ws n m 0 w z, T.accepted.sound.n120) in
            elim (is (sent_remain p.reply)) [
              | is_true r ↦ rw (eq-eqb p.reply.number 0 z, r) (right_copy _ most)
              | is_false r ↦
                  let f : (b : ℕ) → b < n + 0 → erased (peeled (lent 8 ws) (n + 0) (m + 0) (byte_of w)) b ≡ false = λ b i. sent_known ws n m 0 w z r b (omega arith) in
                  let (e, g) = whole_determined ws n m 0 w z f in
                  rw (eq-eqb p.reply.number 0 z, r)
                  (right_whole 1 _ p.after (omega arith) (omega arith) (omega arith) e (sym g) (λ b i. whole_left ws n m 0 w z f b (omega arith)))
            ]
      ]

  -- The call, where no cause before 12 refuses.
  pub block_given : block_outcome ws n m 0 w ≡ peeling_given ws n m w
  unfolding accepting block_outcome
  block_given =
      let o = peeling_given ws n m w in
      elim (ℕ_discrete o.reply.number 0) [
        | yes z ↦ rw ((accepts ws n m 0).1 T.accepted, eq-eqb o.reply.number 0 z)
        | no z ↦ rw ((accepts ws n m 0).1 T.accepted, ne_eqb o.reply.number 0 z)
            (ap (λ (v : List ℕ). record { reply = o.reply; after = v }) (sym (right_given.after ∙ unchanged (λ q. z (right_given.number ∙ q)))))
      ]
    where
      unchanged : (d.reply.number ≡ 0 → ⊥) → d.after ≡ w
      unchanged z = unfold determine_outcome in rw (ne_eqb (determine_reply ws n m 0 w).number 0 z)

  block_right : Right ws n m w (block_outcome ws n m 0 w)
  block_right = rw block_given right_given

-- Causes 1 to 4, 10 and 11 are those of determining, and leave the word.
refused_alike : (ws : List ℕ) (n m : ℕ) (w : List ℕ) → (cause ws n m 0 ≡ 0 → ⊥) → block_outcome ws n m 0 w ≡ determine_outcome ws n m 0 w
refused_alike ws n m w d = block ∙ sym determine
  where
    block : block_outcome ws n m 0 w ≡ record { reply = refusal (cause ws n m 0) []; after = w }
    block = unfold block_outcome in rw (accepting_refuses ws n m 0 _ d, ne_eqb (cause ws n m 0) 0 d)

    determine : determine_outcome ws n m 0 w ≡ record { reply = refusal (cause ws n m 0) []; after = w }
    determine = unfold determine_outcome determine_reply in rw (accepting_refuses ws n m 0 _ d, ne_eqb (cause ws n m 0) 0 d)

pub mended_as_determined : MendedAsDetermined
unfolding accepting block_outcome peeling_given peel_outcome peel_reply determine_outcome determine_reply
mended_as_determined ws n m w =
    elim (ℕ_discrete (cause ws n m 0) 0) [
      | no d ↦
          let e = refused_alike ws n m w d in
          (ap (λ (o : Outcome). o.after) e, ap (λ (o : Outcome). o.reply.number) e, λ z. ap (λ (o : Outcome). o.reply) e)
      | yes q ↦ elim (ℕ_discrete (length w) (n + 0)) [
        | no d ↦ rw (q, ne_eqb (length w) (n + 0) d) (refl, refl, λ z. refl)
        | yes l ↦ elim (is (wrong_byte 2 w)) [
          | is_true r ↦ rw (q, eq-eqb (length w) (n + 0) l, r) (refl, refl, λ z. refl)
          | is_false r ↦
              let R = block_right ws n m w record { accepted = (accepts ws n m 0).0 q; word = record { size = l; bytes = λ b i. (right_bytes 2 w).0 r b (omega arith) } } in
              (R.after, R.number, R.refused)
        ]
      ]
    ]

pub mend_refused_if_none : MendRefusedIfNone
mend_refused_if_none ws n m w v =
    let T = verify_taken ws n m 0 w v in
    let R = block_right ws n m w T in
    let N = refused_if_none ws n m 0 w v in (
      λ e. N.0 (ap (λ (o : Outcome). o.reply) (refused_twelve ws n m w T (sym R.number ∙ ap (λ (r : Reply). r.number) e))),
      λ f. let e = N.1 f in R.refused (λ z. omega (arith, ap (λ (r : Reply). r.number) e)) ∙ e,
    )

pub mend_refuses_added : MendRefusesAdded
unfolding accepting block_outcome
mend_refuses_added ws n m k w q l = rw (q, lt-ltb 0 k l)

-- An answer has k = 0, and comes behind every cause.
pub mend_answers : MendAnswers
mend_answers ws n m k w e =
    let q = (accepts ws n m k).1 (block_accepted ws n m k w e) in
    elim (ℕ_discrete k 0) [
      | no d ↦ absurd (omega (arith, ap (λ (o : Outcome). o.reply.number) (mend_refuses_added ws n m k w q (omega arith))))
      | yes z ↦ rw z (zero (rw z at e))
    ]
  where
    block_accepted : (ws : List ℕ) (n m k : ℕ) (w : List ℕ) → (block_outcome ws n m k w).reply.number ≡ 0 → Accepted ws n m k
    block_accepted ws n m k w e = unfold block_outcome in accepted_number ws n m k _ e

    zero : (block_outcome ws n m 0 w).reply.number ≡ 0 → Mended n (block_outcome ws n m 0 w)
    zero e =
        (block_right ws n m w (answered ws n m 0 w (sym (mended_as_determined ws n m w).1 ∙ e)).0).answered e

pub added_with_sent : AddedWithSent
added_with_sent ws n m k w rs ra la e =
    let z = ap (λ (r : Reply). r.number) e in
    sym (ap (λ (r : Reply). get_or r.values 3 0) e) ∙ added_left ws n m k w z (rw e)
