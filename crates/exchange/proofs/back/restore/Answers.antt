-- `restore` meets its contract. Assumes nothing.
use mathlib.Core.Path.{sym, ◌∙◌}
use native.Mathlib.Omega.{arith}
use Rattle.exchange.proofs.Restoring.{restored_none, still, restored_next, restored_skip, restored_few}
use Rattle.exchange.proofs.back.restore.Goals as goal
use Rattle.exchange.proofs.back.restore.Goals.{then-has, else-has}

pub loop-d-init : goal.loop-d-init
loop-d-init c = (restored_none _ _ _ _, c.requires.0, omega arith)

pub overflow_add-s : goal.overflow_add-s
overflow_add-s c = omega (arith, restored_few _ _ _ _ _ _ _ c.loop-d.invariant.0)

pub loop-d-preserved : goal.loop-d-preserved
loop-d-preserved c = let l = c.loop-d in
    let same = still _ _ _ _ _ _ _ l.invariant.0 c.args.z.0 in (
      elim c.if-has.branch [
        | then-has w ↦ rw (w.words-is, w.s-is, w.restore_check.ensures) (restored_next _ _ _ _ _ _ _ l.invariant.0 (sym same ∙ sym c.has.ensures ∙ w.if-has.true))
        | else-has w ↦ rw (w.words-is, w.s-is) (restored_skip _ _ _ _ _ _ _ l.invariant.0 (sym same ∙ sym c.has.ensures ∙ w.if-has.false))
      ],
      c.if-has.auto.words ∙ l.invariant.1,
      omega arith,
    )
