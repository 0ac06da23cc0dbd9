-- Document 01, 'Causes and numbers': replies, and the number and values of each refusal, those that document 02 adds among them. Assumes nothing.
use Rattle.std.specs.Prelude.{ℕ, Bool, cond, List, [], ◌∷◌, eqb, ⊤, Option, Some, None, Result, Ok, Err}
use Rattle.parity.specs.Finite.{one}
use Rattle.parity.specs.Matrix.{cause}
use Rattle.parity.specs.declared.Holders.{Holders}
use Rattle.parity.specs.declared.Losses.{Losses}
use Rattle.parity.specs.declared.Numbered.{Numbered}
use Rattle.parity.specs.declared.Numbered.TheVariants.{Alone, One, Two, Three, Four, Five}
use Rattle.parity.specs.declared.Refusal.{Refusal}
use Rattle.parity.specs.declared.Refusal.TheVariants.{MatrixLength, OutOfRange, OneOutside, RuleABroken, FaultyWord, RecordTooShort, NotAPair, ShareBelowTwo, NoRoomToSplit, NoRoomLeft, WrongLength, WrongByte, Contradiction, AddedBits, ProgramInput, NothingToTakeBack, CannotTakeBack, UnknownName, WrongSize, SetsTooShort, DifferentLengths, TooManyChecks, WrongRounds, WrongFloat, LowAboveHigh}

-- What a call returns: 0 for an answer, or the cause's number; and the values that it carries, in document 01's order. Yes is 1, no is 0.
pub record Reply : Type 0 where
  pub number : ℕ
  pub values : List ℕ

abbrev pub answer : List ℕ → Reply
answer vs = record { number = 0; values = vs }

abbrev pub refusal : ℕ → List ℕ → Reply
refusal c vs = record { number = c; values = vs }

-- the checks that hold a pair, as the values carried: none of either, or the lowest and the highest (M-106)
abbrev pub held_values : Option Holders → List ℕ
held_values None = []
held_values (Some h) = h.low.0 ∷ h.high.0 ∷ []

-- what was recovered and what is left, as the values carried (M-100)
abbrev pub loss_values : Losses → List ℕ
loss_values l = l.recovered_sent ∷ l.recovered_added ∷ l.left_sent ∷ l.left_added ∷ []

-- the table: the number and the values of each cause
abbrev pub refusal_of : Refusal → Reply
refusal_of MatrixLength = refusal 1 []
refusal_of OutOfRange = refusal 2 []
refusal_of OneOutside = refusal 3 []
refusal_of RuleABroken = refusal 4 []
refusal_of (FaultyWord place) = refusal 5 (place ∷ [])
refusal_of (RecordTooShort needed) = refusal 6 (needed ∷ [])
refusal_of NotAPair = refusal 7 []
refusal_of (ShareBelowTwo s) = refusal 8 (s ∷ [])
refusal_of NoRoomToSplit = refusal 9 []
refusal_of (NoRoomLeft splits total k held) = refusal 9 (splits ∷ total ∷ k ∷ held_values held)
refusal_of WrongLength = refusal 10 []
refusal_of (WrongByte place) = refusal 11 (place ∷ [])
refusal_of Contradiction = refusal 12 []
refusal_of AddedBits = refusal 13 []
refusal_of ProgramInput = refusal 14 []
refusal_of NothingToTakeBack = refusal 15 []
refusal_of CannotTakeBack = refusal 16 []
refusal_of UnknownName = refusal 17 []
refusal_of WrongSize = refusal 18 []
refusal_of (SetsTooShort needed) = refusal 19 (needed ∷ [])
refusal_of DifferentLengths = refusal 20 []
refusal_of TooManyChecks = refusal 21 []
refusal_of WrongRounds = refusal 22 []
refusal_of (WrongFloat place) = refusal 23 (place ∷ [])
refusal_of (LowAboveHigh place) = refusal 24 (place ∷ [])

-- The answer of a call, with the values that it carries, or its refusal, as a reply.
abbrev pub result_reply : {A : Type 0} → (A → List ℕ) → Result A Refusal → Reply
result_reply values (Ok x) = answer (values x)
result_reply values (Err r) = refusal_of r

-- an answer that carries nothing
abbrev pub no_values : ⊤ → List ℕ
no_values _ = []

-- an answer that is one number
abbrev pub number_values : ℕ → List ℕ
number_values x = x ∷ []

-- yes is 1, no is 0
abbrev pub yes_values : Bool → List ℕ
yes_values is = one is ∷ []

-- a reply as the calls for C pass it: its number with up to five values
abbrev pub numbered_reply : Numbered → Reply
numbered_reply (Alone number) = refusal number []
numbered_reply (One number a) = refusal number (a ∷ [])
numbered_reply (Two number a b) = refusal number (a ∷ b ∷ [])
numbered_reply (Three number a b c) = refusal number (a ∷ b ∷ c ∷ [])
numbered_reply (Four number a b c d) = refusal number (a ∷ b ∷ c ∷ d ∷ [])
numbered_reply (Five number a b c d e) = refusal number (a ∷ b ∷ c ∷ d ∷ e ∷ [])

-- The refusal where its cause holds, and else what comes after it in the order of the checks.
abbrev pub refuse : Bool → Reply → Reply → Reply
refuse holds r after = cond holds r after

-- Causes 1 to 4 come first.
unfoldable pub accepting : List ℕ → ℕ → ℕ → ℕ → Reply → Reply
accepting ws n m k after = cond (eqb (cause ws n m k) 0) after (refusal (cause ws n m k) [])

-- What a call does: its reply, and the list that it was lent to change, afterwards.
pub record Outcome : Type 0 where
  pub reply : Reply
  pub after : List ℕ

-- A refusal leaves the list as it was.
abbrev pub leaving : List ℕ → Reply → List ℕ → Outcome
leaving old r new = record { reply = r; after = cond (eqb r.number 0) new old }
