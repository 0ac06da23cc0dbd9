-- `refused` meets its contract. Assumes nothing.
use mathlib.Core.Path.{sym, ap, ◌∙◌}
use Rattle.parity.specs.Causes.{refusal_of}
use Rattle.refusals.proofs.refused.Goals as goal

pub returns-in-MatrixLength : goal.returns-in-MatrixLength
returns-in-MatrixLength c = sym (ap refusal_of c.in-MatrixLength.is)

pub returns-in-OutOfRange : goal.returns-in-OutOfRange
returns-in-OutOfRange c = sym (ap refusal_of c.in-OutOfRange.is)

pub returns-in-OneOutside : goal.returns-in-OneOutside
returns-in-OneOutside c = sym (ap refusal_of c.in-OneOutside.is)

pub returns-in-RuleABroken : goal.returns-in-RuleABroken
returns-in-RuleABroken c = sym (ap refusal_of c.in-RuleABroken.is)

pub returns-in-FaultyWord : goal.returns-in-FaultyWord
returns-in-FaultyWord c = sym (ap refusal_of c.in-FaultyWord.is)

pub returns-in-RecordTooShort : goal.returns-in-RecordTooShort
returns-in-RecordTooShort c = sym (ap refusal_of c.in-RecordTooShort.is)

pub returns-in-NotAPair : goal.returns-in-NotAPair
returns-in-NotAPair c = sym (ap refusal_of c.in-NotAPair.is)

pub returns-in-ShareBelowTwo : goal.returns-in-ShareBelowTwo
returns-in-ShareBelowTwo c = sym (ap refusal_of c.in-ShareBelowTwo.is)

pub returns-in-NoRoomToSplit : goal.returns-in-NoRoomToSplit
returns-in-NoRoomToSplit c = sym (ap refusal_of c.in-NoRoomToSplit.is)

pub returns-in-NoRoomLeft : goal.returns-in-NoRoomLeft
returns-in-NoRoomLeft c = c.three_held.ensures ∙ sym (ap refusal_of c.in-NoRoomLeft.is)

pub returns-in-WrongLength : goal.returns-in-WrongLength
returns-in-WrongLength c = sym (ap refusal_of c.in-WrongLength.is)

pub returns-in-WrongByte : goal.returns-in-WrongByte
returns-in-WrongByte c = sym (ap refusal_of c.in-WrongByte.is)

pub returns-in-Contradiction : goal.returns-in-Contradiction
returns-in-Contradiction c = sym (ap refusal_of c.in-Contradiction.is)

pub returns-in-AddedBits : goal.returns-in-AddedBits
returns-in-AddedBits c = sym (ap refusal_of c.in-AddedBits.is)

pub returns-in-ProgramInput : goal.returns-in-ProgramInput
returns-in-ProgramInput c = sym (ap refusal_of c.in-ProgramInput.is)

pub returns-in-NothingToTakeBack : goal.returns-in-NothingToTakeBack
returns-in-NothingToTakeBack c = sym (ap refusal_of c.in-NothingToTakeBack.is)

pub returns-in-CannotTakeBack : goal.returns-in-CannotTakeBack
returns-in-CannotTakeBack c = sym (ap refusal_of c.in-CannotTakeBack.is)

pub returns-in-UnknownName : goal.returns-in-UnknownName
returns-in-UnknownName c = sym (ap refusal_of c.in-UnknownName.is)

pub returns-in-WrongSize : goal.returns-in-WrongSize
returns-in-WrongSize c = sym (ap refusal_of c.in-WrongSize.is)

pub returns-in-SetsTooShort : goal.returns-in-SetsTooShort
returns-in-SetsTooShort c = sym (ap refusal_of c.in-SetsTooShort.is)

pub returns-in-DifferentLengths : goal.returns-in-DifferentLengths
returns-in-DifferentLengths c = sym (ap refusal_of c.in-DifferentLengths.is)

pub returns-in-TooManyChecks : goal.returns-in-TooManyChecks
returns-in-TooManyChecks c = sym (ap refusal_of c.in-TooManyChecks.is)

pub returns-in-WrongRounds : goal.returns-in-WrongRounds
returns-in-WrongRounds c = sym (ap refusal_of c.in-WrongRounds.is)

pub returns-in-WrongFloat : goal.returns-in-WrongFloat
returns-in-WrongFloat c = sym (ap refusal_of c.in-WrongFloat.is)

pub returns-in-LowAboveHigh : goal.returns-in-LowAboveHigh
returns-in-LowAboveHigh c = sym (ap refusal_of c.in-LowAboveHigh.is)
