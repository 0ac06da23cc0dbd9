-- What the call on ranges answers, as document 02's number and values, and the ends that it gives. Assumes nothing.
use Rattle.std.specs.Prelude.{[], ◌∷◌, Option, Some, None, Result, Ok, Err}
use Rattle.parity.specs.Causes.{answer, refusal_of}
use Rattle.parity.specs.SoftRange.{RangeOutcome}
use Rattle.parity.specs.declared.Ends.{Ends}
use Rattle.parity.specs.declared.Refusal.{Refusal}

-- sure 0 with no other bits in the check, or the two ends of the range
abbrev pub ranging_outcome : Result (Option Ends) Refusal → RangeOutcome
ranging_outcome (Ok None) = record { reply = answer (0 ∷ []); ends = [] }
ranging_outcome (Ok (Some e)) = record { reply = answer (3 ∷ []); ends = e.low ∷ e.high ∷ [] }
ranging_outcome (Err r) = record { reply = refusal_of r; ends = [] }
