-- `reduce_in` meets its contract. Assumes nothing.
use Rattle.elimination.proofs.Turns.{reduction_over}
use native.Mathlib.Omega.{arith}
use mathlib.Core.Path.{refl, ◌∙◌}
use Rattle.elimination.proofs.reduce_in.Goals as goal

pub loop-b-preserved : goal.loop-b-preserved
loop-b-preserved c = let F = c.next_one-b-in-loop-b.ensures in
    let l = c.loop-b in (
      F.top,
      F.found,
      c.turn-r.auto.rows ∙ l.invariant.2,
      c.turn-r.auto.pivots ∙ l.invariant.3,
      reduction_over _ _ _ _ _ _ _ _ _ F.least F.none (c.turn-r.ensures.whole refl _ _ _ (l.invariant.1 (omega arith)) l.invariant.4),
    )
