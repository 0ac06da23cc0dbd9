-- What a word comes to, by the cause that refuses, from whether it is solved and what results. Assumes nothing.
use mathlib.Core.Path.{◌≡◌}
use mathlib.Core.Bool.{Bool, true, false}
use mathlib.Core.List.{List, []}
use Prim.Native.Nat.{ℕ, ◌+◌}
use lib.ListN.{length}
use borrow.Author.Tests.{eq-eqb, ne_eqb}
use Rattle.parity.specs.Finite.{list_from}
use Rattle.parity.specs.Matrix.{cause}
use Rattle.parity.specs.Words.{losses}
use Rattle.parity.specs.Causes.{answer, refusal, refusal_of}
use Rattle.parity.specs.Calls.{byte_of, wrong_byte}
use Rattle.parity.specs.declared.Refusal.{Refusal}
use Rattle.parity.proofs.Causes.Refused.{refused_number}
use Rattle.parity.proofs.Matrix.Accept.{accepting_answers}
use Rattle.word.specs.Answers.{admit_reply}
use Rattle.word.specs.Solved.{solved_reply, solved_outcome, solving_outcome}
use Rattle.word.proofs.Told.{refused}

module _ (n k : ℕ) (w : List ℕ) (solves : Bool) (result : ℕ → ℕ) where
  pub solved_refused : solves ≡ false → solved_outcome n k w solves result ≡ record { reply = refusal 12 []; after = w }
  unfolding solved_outcome solved_reply
  solved_refused f = rw f

  pub solved_made : (values bytes : List ℕ) → solves ≡ true → losses n k (byte_of w) result ≡ values → list_from 0 (n + k) result ≡ bytes
      → solved_outcome n k w solves result ≡ record { reply = answer values; after = bytes }
  unfolding solved_outcome solved_reply
  solved_made values bytes t e f = rw (t, e, f)

  module _ (ws : List ℕ) (m : ℕ) where
    pub outcome_refused : (r : Refusal) → refusal_of r ≡ admit_reply ws n m k w 2
        → (refusal_of r ≡ (solving_outcome ws n m k w solves result).reply) × (w ≡ (solving_outcome ws n m k w solves result).after)
    outcome_refused r e =
        let f = refused ws n m k w 2 r e (solved_reply n k w solves result) in
        (f, rw (← f, ne_eqb (refusal_of r).number 0 (refused_number r)))

    pub outcome_word : cause ws n m k ≡ 0 → length w ≡ n + k → wrong_byte 2 w ≡ false → solving_outcome ws n m k w solves result ≡ solved_outcome n k w solves result
    unfolding solved_outcome
    outcome_word a l e = rw (accepting_answers ws n m k _ a, eq-eqb (length w) (n + k) l, e)
