-- `two_held` meets its contract. Assumes nothing.
use Rattle.std.specs.Prelude.{Option}
use mathlib.Core.Path.{sym, ap}
use mathlib.Core.List.{◌∷◌}
use Rattle.parity.specs.Causes.{refusal, held_values}
use Rattle.parity.specs.declared.Holders.{Holders}
use Rattle.refusals.proofs.two_held.Goals as goal

pub returns-in-None : goal.returns-in-None
returns-in-None c = let s = c.args in sym (ap (λ (x : Option Holders). refusal s.number (s.first ∷ s.second ∷ held_values x)) c.in-None.is)

pub returns-in-Some : goal.returns-in-Some
returns-in-Some c = let s = c.args in sym (ap (λ (x : Option Holders). refusal s.number (s.first ∷ s.second ∷ held_values x)) c.in-Some.is)
