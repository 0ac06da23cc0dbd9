-- What each stage of mending a block comes to, from what the calls below it come to. Assumes nothing.
use mathlib.Core.Path.{◌≡◌, sym, ap, ◌∙◌}
use mathlib.Core.Bool.{true, false}
use mathlib.Core.List.{List, [], ◌∷◌, ◌++◌}
use Prim.Native.Nat.{ℕ, ◌+◌, ◌-◌, ◌≤◌}
use native.Mathlib.Omega.{arith}
use native.Mathlib.Decide.{ℕ_discrete}
use lib.Dec.{eqb, ltb}
use lib.ListN.{get_or, length, take, replicate}
use lib.Seq.{take_at}
use borrow.Author.Tests.{eq-eqb, ne_eqb, le-ltb, lt-ltb}
use Rattle.std.specs.Prelude.{Option, Some, None}
use Rattle.parity.specs.Causes.{Reply, answer, refusal, refusal_of, refuse, Outcome}
use Rattle.parity.specs.Matrix.{lent}
use Rattle.parity.specs.Determining.{some_agrees, determined}
use Rattle.parity.specs.Calls.{byte_of, wrong_byte, accept_reply, peel_outcome, determine_reply, determine_outcome}
use Rattle.parity.specs.Block.{bits_recovered, bits_remain, mended, eliminating, copy_made, copy_k, copy_peeled, peeling_copy, peeling_given, block_outcome}
use Rattle.parity.specs.declared.Refusal.{Refusal}
use Rattle.parity.proofs.Causes.Refused.{refused_number, refused_same}
use Rattle.parity.proofs.Words.Peeling.{peel_answered}
use Rattle.parity.proofs.Lists.Block.{mended_as_determined}
use Rattle.parity.proofs.Lists.Answered.{recovered_most}
use Rattle.word.specs.Answers.{admit_reply}
use Rattle.extended.specs.Answers.{Longer, in_all, copy_reply, copy_word}
use Rattle.word.specs.Solved.{solved_reply}
use Rattle.word.proofs.Solved.{outcome_refused}
use Rattle.block.specs.Answers.{KeptFor, Ready}

-- a refusal's number, and an answer's
not_zero : (r : Refusal) (reply : Reply) → refusal_of r ≡ reply → reply.number ≡ 0 → ⊥
not_zero r reply e q = refused_number r (ap (λ (x : Reply). x.number) e ∙ q)

is_zero : (vs : List ℕ) (reply : Reply) → answer vs ≡ reply → reply.number ≡ 0
is_zero vs reply e = sym (ap (λ (x : Reply). x.number) e)

-- the received word with bytes of 2 behind it
module _ (n : ℕ) (w l : List ℕ) (size : length w ≡ n) (e : l ≡ w ++ replicate (512 - n) 2) where
  pub front_word : take n l ≡ w
  front_word = rw e (take_at w (replicate (512 - n) 2) n size)

  pub is_longer : wrong_byte 2 w ≡ false → Longer n l
  is_longer right = record { size = ap length front_word ∙ size; behind = e ∙ ap (λ (v : List ℕ). v ++ replicate (512 - n) 2) (sym front_word); bytes = rw front_word right }

module _ (ws : List ℕ) (n m : ℕ) (w : List ℕ) where
  -- Stage 3.
  pub eliminated : (numbers : List ℕ) (recovered : ℕ) → answer numbers ≡ (determine_outcome ws n m 0 w).reply
      → eliminating ws n m w recovered ≡ mended 3 recovered (determine_outcome ws n m 0 w).after
  unfolding eliminating
  eliminated numbers recovered e = rw (eq-eqb (determine_outcome ws n m 0 w).reply.number 0 (is_zero _ _ e))

  pub not_eliminated : (r : Refusal) (recovered : ℕ) → refusal_of r ≡ (determine_outcome ws n m 0 w).reply → eliminating ws n m w recovered ≡ determine_outcome ws n m 0 w
  unfolding eliminating
  not_eliminated r recovered e = rw (ne_eqb (determine_outcome ws n m 0 w).reply.number 0 (not_zero r _ e))

  -- Stage 2: no copy,
  pub no_copy : (recovered : ℕ) → true ≡ eqb (copy_made ws n m).reply.number 9 → peeling_copy ws n m w recovered ≡ eliminating ws n m w recovered
  unfolding peeling_copy
  no_copy recovered q = rw (← q)

  module _ (q : false ≡ eqb (copy_made ws n m).reply.number 9) where
    abbrev p : Outcome
    p = copy_peeled ws n m w

    told : copy_reply ws n m w ≡ in_all p.reply
    unfolding copy_reply
    told = rw (← q)

    pub told_word : copy_word ws n m w ≡ take n p.after
    unfolding copy_word
    told_word = rw (← q)

    -- a copy whose peeling is refused,
    plain : (p.reply.number ≡ 0 → ⊥) → in_all p.reply ≡ p.reply
    unfolding in_all
    plain z = rw (ne_eqb p.reply.number 0 z)

    pub copy_refused : (r : Refusal) (recovered : ℕ) → refusal_of r ≡ copy_reply ws n m w → peeling_copy ws n m w recovered ≡ record { reply = refusal_of r; after = w }
    unfolding peeling_copy in_all
    copy_refused r recovered e =
        let f = e ∙ told in
        elim (ℕ_discrete p.reply.number 0) [
          | yes z ↦ absurd (not_zero r _ f (rw (eq-eqb p.reply.number 0 z)))
          | no z ↦ rw (← q, ne_eqb p.reply.number 0 z) (ap (λ (x : Reply). record { reply = x; after = w }) (sym (f ∙ plain z)))
        ]

    -- and one whose peeling answers
    module _ (more left recovered : ℕ) (e : answer (more ∷ left ∷ []) ≡ copy_reply ws n m w) where
      answers : p.reply.number ≡ 0
      answers = elim (ℕ_discrete p.reply.number 0) [
        | yes z ↦ z
        | no z ↦ absurd (z (is_zero (more ∷ left ∷ []) p.reply (e ∙ told ∙ plain z)))
      ]

      numbers : answer (more ∷ left ∷ []) ≡ answer (bits_recovered p.reply ∷ (get_or p.reply.values 2 0 + get_or p.reply.values 3 0) ∷ [])
      unfolding in_all
      numbers = e ∙ told ∙ rw (eq-eqb p.reply.number 0 answers)

      more_is : more ≡ bits_recovered p.reply
      more_is = ap (λ (x : Reply). get_or x.values 0 0) numbers

      left_is : left ≡ get_or p.reply.values 2 0 + get_or p.reply.values 3 0
      left_is = ap (λ (x : Reply). get_or x.values 1 0) numbers

      pub more_small : more ≤ 512
      more_small =
          let S = (peel_answered (copy_made ws n m).after n m (copy_k ws n m) (w ++ replicate (copy_k ws n m) 2) answers).accepted.sound in
          omega (arith, more_is, recovered_most (copy_made ws n m).after n m (copy_k ws n m) (w ++ replicate (copy_k ws n m) 2) answers, S.n120, S.k392)

      pub bits_remain_lem : (left ≡ 0 → ⊥) → peeling_copy ws n m w recovered ≡ eliminating ws n m w (recovered + more)
      unfolding peeling_copy
      bits_remain_lem d =
          let r : bits_remain p.reply ≡ true = lt-ltb 0 (get_or p.reply.values 2 0 + get_or p.reply.values 3 0) (omega (arith, left_is)) in
          rw (← q, eq-eqb p.reply.number 0 answers, r, ← more_is)

      pub none_remains : left ≡ 0 → peeling_copy ws n m w recovered ≡ mended 2 (recovered + more) (take n p.after)
      unfolding peeling_copy
      none_remains z =
          let r : bits_remain p.reply ≡ false = le-ltb 0 (get_or p.reply.values 2 0 + get_or p.reply.values 3 0) (omega (arith, left_is)) in
          rw (← q, eq-eqb p.reply.number 0 answers, r, ← more_is)

  -- Stage 1: a peeling that is refused,
  abbrev g : Outcome
  g = peel_outcome ws n m 0 w

  pub given_refused : (r : Refusal) → refusal_of r ≡ g.reply → peeling_given ws n m w ≡ record { reply = refusal_of r; after = w }
  unfolding peeling_given
  given_refused r e =
      rw (ne_eqb g.reply.number 0 (not_zero r _ e)) (kept ∙ ap (λ (x : Reply). record { reply = x; after = w }) (sym e))
    where
      kept : g ≡ record { reply = g.reply; after = w }
      kept = unfold peel_outcome in rw (ne_eqb g.reply.number 0 (not_zero r _ e))

  -- and one that answers
  module _ (rs ra ls la : ℕ) (e : answer (rs ∷ ra ∷ ls ∷ la ∷ []) ≡ g.reply) where
    pub recovered_small : rs + ra ≤ n
    recovered_small = omega (arith, rw (← e) at (recovered_most ws n m 0 w (is_zero _ _ e)))

    pub sent_remain_lem : (ls ≡ 0 → ⊥) → peeling_given ws n m w ≡ peeling_copy ws n m w (rs + ra)
    unfolding peeling_given
    sent_remain_lem d = rw (← e, lt-ltb 0 ls (omega arith))

    pub none_sent : ls ≡ 0 → peeling_given ws n m w ≡ mended 1 (rs + ra) g.after
    unfolding peeling_given
    none_sent z = rw (← e, le-ltb 0 ls (omega arith))

-- Causes before the stages: 1 to 4 where k is above 0,
pub matrix_refused : (ws : List ℕ) (n m k : ℕ) (r : Refusal) → refusal_of r ≡ accept_reply ws n m k
    → (w : List ℕ) → block_outcome ws n m k w ≡ record { reply = refusal_of r; after = w }
unfolding block_outcome
matrix_refused ws n m k r e w =
    let f = refused_same ws n m k r (refuse (ltb 0 k) (refusal 13 []) (peeling_given ws n m w).reply) e in
    rw (← f, ne_eqb (refusal_of r).number 0 (refused_number r))

-- and 1 to 4, 10 and 11 where it is 0, as those of determining
pub word_refused : (ws : List ℕ) (n m : ℕ) (w : List ℕ) (r : Refusal) → refusal_of r ≡ admit_reply ws n m 0 w 2
    → (refusal_of r ≡ (block_outcome ws n m 0 w).reply) × (w ≡ (block_outcome ws n m 0 w).after)
unfolding determine_outcome determine_reply solved_reply
word_refused ws n m w r e =
    let h = lent 8 ws in
    let (f, l) = outcome_refused n 0 w (some_agrees h (n + 0) (m + 0) (byte_of w)) (determined h (n + 0) (m + 0) (byte_of w)) ws m r e in
    let (a, b, s) = mended_as_determined ws n m w in
    (f ∙ sym (s (not_zero r _ f)), l ∙ sym a)

-- what elimination needs
pub ready : (stage : Option ℕ) (n : ℕ) (w v : List ℕ) → length w ≡ n → wrong_byte 2 w ≡ false → KeptFor stage w v → Ready stage n v
ready (Some stage) n w v l e k = tt
ready None n w v l e k = (ap length k ∙ l, ap (wrong_byte 2) k ∙ e)
