-- `agree_in` meets its contract. Assumes nothing.
use mathlib.Core.Path.{sym, ◌∙◌}
use native.Mathlib.Omega.{arith}
use Rattle.result.proofs.Agreeing.{agreeing_none, agreeing_not, agreeing_even, agreeing_erased}
use Rattle.result.proofs.agree_in.Goals as goal
use Rattle.result.proofs.agree_in.Goals.{then-is_odd+else-not-touches, else-is_odd}

pub loop-c-init : goal.loop-c-init
loop-c-init c = (omega arith, agreeing_none _ _ _ _)

pub returns-then-not-touches : goal.returns-then-not-touches
returns-then-not-touches c = let l = c.loop-c in
    sym (agreeing_not _ _ _ _ c.args.checks l.c (omega arith) (sym c.is_odd.ensures ∙ c.if-is_odd.true) (sym c.touches.ensures ∙ c.if-not-touches.true))

pub loop-c-preserved : goal.loop-c-preserved
loop-c-preserved c = let l = c.loop-c in (
  omega arith,
  (elim c.if-is_odd.branch [ then-is_odd+else-not-touches w ↦ agreeing_erased _ _ _ _ l.c l.invariant.1 (sym w.touches.ensures ∙ w.if-not-touches.false) | else-is_odd w ↦ agreeing_even _ _ _ _ l.c l.invariant.1 (sym c.is_odd.ensures ∙ w.if-is_odd.false) ]),
)
