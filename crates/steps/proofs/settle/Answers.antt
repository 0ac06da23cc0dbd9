-- `settle` meets its contract. Assumes nothing.
use mathlib.Core.Path.{sym, ◌∙◌}
use borrow.Author.Tests.{eqb-true, not-false}
use Rattle.steps.specs.Steps.{start}
use Rattle.steps.proofs.Held.{none_erased}
use Rattle.steps.proofs.settle.Goals as goal

pub returns-else-touches : goal.returns-else-touches
returns-else-touches c = record { reached = start; over = none_erased _ _ _ _ (eqb-true _ 0 (not-false _ (sym c.touches.ensures ∙ c.if-touches.false))) }
