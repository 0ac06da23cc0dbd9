-- The lower of two causes. Assumes nothing.
use Rattle.std.specs.Prelude.{⊤, Result, Ok, Err, cond, ltb}
use Rattle.parity.specs.Causes.{refusal_of}
use Rattle.parity.specs.declared.Refusal.{Refusal}

-- Two answers of acceptance as one: the refusal of the lower cause, if either is one.
abbrev pub lower : Result ⊤ Refusal → Result ⊤ Refusal → Result ⊤ Refusal
lower (Ok x) second = second
lower (Err a) (Ok y) = Err a
lower (Err a) (Err b) = cond (ltb (refusal_of b).number (refusal_of a).number) (Err b) (Err a)
