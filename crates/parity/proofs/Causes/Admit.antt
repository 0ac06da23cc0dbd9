-- A refusal by causes 1 to 4, 10 and 11 is the same whatever would come after it; without one, the matrix and the bytes are right. Assumes nothing.
use mathlib.Core.Path.{◌≡◌, sym, ap, ◌∙◌}
use mathlib.Core.List.{List, []}
use Prim.Native.Nat.{ℕ}
use native.Mathlib.Decide.{ℕ_discrete}
use lib.Dec.{eqb}
use lib.ListN.{length}
use Rattle.parity.specs.Matrix.{cause}
use Rattle.parity.specs.Causes.{Reply, answer, refusal_of, accepting}
use Rattle.parity.specs.Calls.{wrong_byte, checking_bytes}
use Rattle.parity.specs.declared.Refusal.{Refusal}
use Rattle.parity.proofs.Finite.Sums.{is_true, is_false, is}
use Rattle.parity.proofs.Matrix.Accept.{Accepted, accepts, accepting_answers, passes, accepting_refuses}
use Rattle.parity.proofs.Causes.Refused.{refused_number}
use Rattle.parity.proofs.Words.Bytes.{Word, read_word}

module _ (ws : List ℕ) (n m k : ℕ) where
  -- an answer behind causes 1 to 4
  pub accepted_number : (after : Reply) → (accepting ws n m k after).number ≡ 0 → Accepted ws n m k
  accepted_number after e =
      elim (ℕ_discrete (cause ws n m k) 0) [
        | yes q ↦ (accepts ws n m k).0 q
        | no d ↦ absurd (d (sym (ap (λ r. r.number) (accepting_refuses ws n m k after d)) ∙ e))
      ]

  module _ (N top : ℕ) (w : List ℕ) where
    -- an answer behind causes 10 and 11 too
    pub admitted : answer [] ≡ accepting ws n m k (checking_bytes N top w (answer [])) → Accepted ws n m k × Word N top w
    admitted e =
        let A = accepted_number (checking_bytes N top w (answer [])) (ap (λ r. r.number) (sym e)) in
        let f = e ∙ passes ws n m k A (checking_bytes N top w (answer [])) in
        (A, (read_word N top w (answer []) (ap (λ r. r.number) (sym f))).0)

    -- a refusal by one of them
    bytes_first : (r : Refusal) → refusal_of r ≡ checking_bytes N top w (answer []) → (after : Reply) → refusal_of r ≡ checking_bytes N top w after
    bytes_first r e after =
        elim (is (eqb (length w) N)) [
          | is_false p ↦ rw p (rw p at e)
          | is_true p ↦ elim (is (wrong_byte top w)) [
            | is_true q ↦ rw (p, q) (rw (p, q) at e)
            | is_false q ↦ absurd (refused_number r (ap (λ r. r.number) (rw (p, q) at e)))
          ]
        ]

    pub admit_first : (r : Refusal) → refusal_of r ≡ accepting ws n m k (checking_bytes N top w (answer []))
        → (after : Reply) → refusal_of r ≡ accepting ws n m k (checking_bytes N top w after)
    admit_first r e after =
        elim (ℕ_discrete (cause ws n m k) 0) [
          | yes q ↦
              bytes_first r (e ∙ accepting_answers ws n m k (checking_bytes N top w (answer [])) q) after
              ∙ sym (accepting_answers ws n m k (checking_bytes N top w after) q)
          | no d ↦
              e ∙ accepting_refuses ws n m k (checking_bytes N top w (answer [])) d
              ∙ sym (accepting_refuses ws n m k (checking_bytes N top w after) d)
        ]
