-- What the causes before an answer leave of mending packets. Assumes nothing.
use mathlib.Core.Path.{◌≡◌, sym, ap, ◌∙◌}
use mathlib.Core.Bool.{false, not, ◌||◌, true≢false}
use mathlib.Core.List.{List, []}
use Prim.Native.Nat.{ℕ, ◌+◌, ◌*◌, ◌^◌, ◌≤◌}
use native.Mathlib.Omega.{arith}
use native.Mathlib.Decide.{dec_lt}
use lib.Dec.{eqb, ltb}
use lib.ListN.{length}
use borrow.Author.Tests.{ne_eqb, eqb-true, lt-ltb, not-false}
use Rattle.parity.specs.Matrix.{cause}
use Rattle.parity.specs.Causes.{Reply, answer, refusal_of}
use Rattle.parity.specs.Calls.{wrong_byte}
use Rattle.parity.specs.Packets.{wrong_lengths, packets_reply, packets_outcome}
use Rattle.parity.specs.declared.Refusal.{Refusal}
use Rattle.parity.proofs.Finite.Bools.{or_false_both}
use Rattle.parity.proofs.Finite.Sums.{is_true, is_false, is}
use Rattle.parity.proofs.Causes.Refused.{refused_number}
use Rattle.parity.proofs.Matrix.Accept.{accepting_answers}
use Rattle.packets.specs.Answers.{lists_reply}

-- lists that are taken
pub lists_taken : (N L : ℕ) (lost packets : List ℕ) → answer [] ≡ lists_reply N lost packets L (answer [])
    → (length lost ≡ N) × (length packets ≡ N * L) × (L ≤ 2 ^ 57) × (wrong_byte 1 lost ≡ false)
unfolding lists_reply
lists_taken N L lost packets e =
    elim (is (wrong_lengths N L lost packets)) [
      | is_true p ↦ absurd (omega (arith, ap (λ (r : Reply). r.number) (rw p at e)))
      | is_false p ↦
          let (a, q) = or_false_both (not (eqb (length lost) N)) (not (eqb (length packets) (N * L)) || ltb (2 ^ 57) L) (unfold wrong_lengths in p) in
          let (b, c) = or_false_both (not (eqb (length packets) (N * L))) (ltb (2 ^ 57) L) q in
          elim (is (wrong_byte 1 lost)) [
            | is_true w ↦ absurd (omega (arith, ap (λ (r : Reply). r.number) (rw (p, w) at e)))
            | is_false w ↦ (eqb-true (length lost) N (not-false (eqb (length lost) N) a), eqb-true (length packets) (N * L) (not-false (eqb (length packets) (N * L)) b), few L c, w)
          ]
    ]
  where
    few : (L : ℕ) → ltb (2 ^ 57) L ≡ false → L ≤ 2 ^ 57
    few L c = elim (dec_lt (2 ^ 57) L) [ yes k ↦ absurd (true≢false (sym (lt-ltb (2 ^ 57) L k) ∙ c)) | no k ↦ omega arith ]

-- a refusal comes whatever is behind it
lists_first : (N L : ℕ) (lost packets : List ℕ) (r : Refusal) → refusal_of r ≡ lists_reply N lost packets L (answer []) → (after : Reply) → refusal_of r ≡ lists_reply N lost packets L after
unfolding lists_reply
lists_first N L lost packets r e after =
    elim (is (wrong_lengths N L lost packets)) [
      | is_true p ↦ rw p (rw p at e)
      | is_false p ↦ elim (is (wrong_byte 1 lost)) [
        | is_true w ↦ rw (p, w) (rw (p, w) at e)
        | is_false w ↦ absurd (refused_number r (ap (λ (r : Reply). r.number) (rw (p, w) at e)))
      ]
    ]

module _ (ws : List ℕ) (n m k : ℕ) (lost packets odd : List ℕ) (r : Refusal) where
  -- a refusal leaves all lists
  pub outcome_refused : refusal_of r ≡ packets_reply ws n m k lost packets (length odd)
      → (refusal_of r ≡ (packets_outcome ws n m k lost packets odd).reply)
      × ((lost ≡ (packets_outcome ws n m k lost packets odd).lost) × ((packets ≡ (packets_outcome ws n m k lost packets odd).packets) × (odd ≡ (packets_outcome ws n m k lost packets odd).odd)))
  unfolding packets_outcome
  outcome_refused e =
      let f = ne_eqb (refusal_of r).number 0 (refused_number r) in
      (e, (rw (← e, f), (rw (← e, f), rw (← e, f))))

  pub lists_refused : cause ws n m k ≡ 0 → refusal_of r ≡ lists_reply (n + k) lost packets (length odd) (answer []) → refusal_of r ≡ packets_reply ws n m k lost packets (length odd)
  unfolding packets_reply
  lists_refused a e = rw (accepting_answers ws n m k _ a) (unfold lists_reply in (lists_first (n + k) (length odd) lost packets r e _))
