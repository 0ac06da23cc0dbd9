-- `pivots::write_pivots` meets its contract. Assumes nothing.
use mathlib.Core.Path.{◌∙◌}
use Rattle.pivots.proofs.Writing.{pivots_none, pivots_more}
use Rattle.pivots.proofs.write_pivots.Goals as goal

pub loop-c-init : goal.loop-c-init
loop-c-init c = (c.requires.4, c.requires.5, pivots_none _ _ _ _ _ _ _)

pub loop-c-preserved : goal.loop-c-preserved
loop-c-preserved c = let l = c.loop-c in
    (c.write_pivot.auto.left ∙ l.invariant.0, c.write_pivot.auto.values ∙ l.invariant.1, pivots_more _ _ _ _ _ _ _ _ _ _ _ _ l.invariant.2 c.write_pivot.ensures)
