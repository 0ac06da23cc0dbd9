-- `order::join_touched` meets its contract. Assumes nothing.
use mathlib.Core.Path.{sym, ◌∙◌}
use Rattle.plan.proofs.Ordering.{joined_next, joined_past}
use native.Mathlib.Omega.{arith}
use Rattle.plan.proofs.order.join_touched.Goals as goal
use Rattle.plan.proofs.order.join_touched.Goals.{then-touches, else-touches}

pub loop-c-preserved : goal.loop-c-preserved
loop-c-preserved c = let t = c.touches in
    elim c.if-touches.branch [
      | then-touches w ↦ rw w.done-is (omega arith, w.raise.auto.rows ∙ c.loop-c.invariant.1, joined_next _ _ _ _ _ _ _ c.loop-c.invariant.2 (sym t.ensures ∙ w.if-touches.true) w.raise.ensures)
      | else-touches w ↦ rw w.done-is (omega arith, c.loop-c.invariant.1, joined_past _ _ _ _ _ _ c.loop-c.invariant.2 (sym t.ensures ∙ w.if-touches.false))
    ]
