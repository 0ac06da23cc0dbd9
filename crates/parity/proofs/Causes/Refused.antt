-- A call that first asks for acceptance: what it may answer after either answer. Assumes nothing.
use mathlib.Core.Path.{◌≡◌, sym, ap, ◌∙◌}
use mathlib.Core.List.{List, []}
use Prim.Native.Nat.{ℕ}
use native.Mathlib.Omega.{arith}
use native.Mathlib.Decide.{ℕ_discrete}
use Rattle.parity.specs.Matrix.{cause}
use Rattle.parity.specs.Causes.{Reply, answer, refusal_of, accepting}
use Rattle.parity.specs.Calls.{accept_reply}
use Rattle.parity.specs.declared.Refusal.{Refusal}
use Rattle.parity.specs.declared.Refusal.TheVariants.{MatrixLength, OutOfRange, OneOutside, RuleABroken, FaultyWord, RecordTooShort, NotAPair, ShareBelowTwo, NoRoomToSplit, NoRoomLeft, WrongLength, WrongByte, Contradiction, AddedBits, ProgramInput, NothingToTakeBack, CannotTakeBack, UnknownName, WrongSize, SetsTooShort, DifferentLengths, TooManyChecks, WrongRounds, WrongFloat, LowAboveHigh}
use Rattle.parity.proofs.Matrix.Accept.{Accepted, accepts, accepting_answers, accepting_refuses, accept_answers}

-- no refusal has number 0
pub refused_number : (r : Refusal) → (refusal_of r).number ≡ 0 → ⊥
refused_number MatrixLength e = omega arith
refused_number OutOfRange e = omega arith
refused_number OneOutside e = omega arith
refused_number RuleABroken e = omega arith
refused_number (FaultyWord place) e = omega arith
refused_number (RecordTooShort needed) e = omega arith
refused_number NotAPair e = omega arith
refused_number (ShareBelowTwo s) e = omega arith
refused_number NoRoomToSplit e = omega arith
refused_number (NoRoomLeft splits total k held) e = omega arith
refused_number WrongLength e = omega arith
refused_number (WrongByte place) e = omega arith
refused_number Contradiction e = omega arith
refused_number AddedBits e = omega arith
refused_number ProgramInput e = omega arith
refused_number NothingToTakeBack e = omega arith
refused_number CannotTakeBack e = omega arith
refused_number UnknownName e = omega arith
refused_number WrongSize e = omega arith
refused_number (SetsTooShort needed) e = omega arith
refused_number DifferentLengths e = omega arith
refused_number TooManyChecks e = omega arith
refused_number WrongRounds e = omega arith
refused_number (WrongFloat place) e = omega arith
refused_number (LowAboveHigh place) e = omega arith

module _ (ws : List ℕ) (n m k : ℕ) where
  -- A matrix that acceptance refuses is refused in the same way by every call behind it.
  pub refused_same : (r : Refusal) (after : Reply) → refusal_of r ≡ accept_reply ws n m k → refusal_of r ≡ accepting ws n m k after
  unfolding accept_reply
  refused_same r after e =
      elim (ℕ_discrete (cause ws n m k) 0) [
        | yes q ↦ absurd (refused_number r (ap (λ (x : Reply). x.number) (e ∙ accept_answers ws n m k q)))
        | no q ↦ e ∙ accepting_refuses ws n m k (answer []) q ∙ sym (accepting_refuses ws n m k after q)
      ]

  -- One that it does not refuse is accepted, and causes 1 to 4 are passed.
  pub accepted_cause : answer [] ≡ accept_reply ws n m k → cause ws n m k ≡ 0
  unfolding accept_reply
  accepted_cause e =
      elim (ℕ_discrete (cause ws n m k) 0) [
        | yes q ↦ q
        | no q ↦ sym (ap (λ (x : Reply). x.number) (e ∙ accepting_refuses ws n m k (answer []) q))
      ]

  pub accepted_words : answer [] ≡ accept_reply ws n m k → Accepted ws n m k
  accepted_words e = (accepts ws n m k).0 (accepted_cause e)

  pub accepted_passes : answer [] ≡ accept_reply ws n m k → (after : Reply) → accepting ws n m k after ≡ after
  accepted_passes e after = accepting_answers ws n m k after (accepted_cause e)
