-- `alone::list_alone` meets its contract. Assumes nothing.
use mathlib.Core.Path.{◌∙◌}
use Rattle.plan.proofs.Aloning.{listed_none, listed_past, listed_noted}
use native.Mathlib.Omega.{arith}
use Rattle.plan.proofs.alone.list_alone.Goals as goal
use Rattle.plan.proofs.alone.list_alone.Goals.{then-common-eq1, else-common-eq1}

pub loop-c-init : goal.loop-c-init
loop-c-init c = (omega arith, c.requires.width_in_bounds.4, c.requires.width_in_bounds.6, listed_none _ _ _ _ _ _ _)

pub loop-c-preserved : goal.loop-c-preserved
loop-c-preserved c = let l = c.loop-c in
    let m = c.common in
    elim c.if-common-eq1.branch [
      | then-common-eq1 w ↦ let n = w.note in
          rw (w.left-is, w.steps-is, w.s-is) (
            omega arith,
            n.auto.left ∙ l.invariant.1,
            n.auto.steps ∙ l.invariant.2,
            listed_noted _ _ _ _ _ _ (omega arith) c.requires.low.1 _ _ _ _ _ _ l.invariant.3 _ m.ensures w.if-common-eq1.true n.ensures.left_after n.ensures.steps_after (omega (arith, l.invariant.2, l.invariant.3.few)),
          )
      | else-common-eq1 w ↦ rw (w.left-is, w.steps-is, w.s-is) (
        omega arith,
        l.invariant.1,
        l.invariant.2,
        listed_past _ _ _ _ _ _ (omega arith) c.requires.low.1 _ _ _ _ _ l.invariant.3 _ m.ensures w.if-common-eq1.false,
      )
    ]
