-- `bytes::first_above` meets its contract. Assumes nothing.
use mathlib.Core.Path.{sym, ◌∙◌}
use Rattle.sets.proofs.Above.{position_wrong, none_wrong}
use Rattle.sets.proofs.bytes.first_above.Goals as goal

pub returns-then-any_above : goal.returns-then-any_above
returns-then-any_above c = c.lowest_above.ensures ∙ position_wrong _ _

pub returns : goal.returns
returns c = none_wrong _ _ (sym c.any_above.ensures ∙ c.if-any_above.false)
