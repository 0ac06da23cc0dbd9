-- `pivots::write_pivot` meets its contract. Assumes nothing.
use mathlib.Core.Path.{sym, ◌∙◌}
use Rattle.parity.specs.Matrix.{lent}
use Rattle.pivots.proofs.Writing.{pivot_stays, pivot_one, pivot_zero}
use Rattle.pivots.proofs.write_pivot.Goals as goal

pub returns-then-common-ne1 : goal.returns-then-common-ne1
returns-then-common-ne1 c = pivot_stays _ _ _ _ _ _ _ c.common.ensures (lent 8 c.args.left.now) (lent 8 c.args.values.now) c.if-common-ne1.true

pub returns-then-odd : goal.returns-then-odd
returns-then-odd c = pivot_one _ _ _ _ _ _ _ c.common.ensures (lent 8 c.args.left.now) (lent 8 c.args.values.now) c.if-common-ne1.false _ c.lower.ensures (sym c.is_odd-odd.ensures ∙ c.if-odd.true) _ c.raise.ensures

pub returns-else-odd : goal.returns-else-odd
returns-else-odd c = pivot_zero _ _ _ _ _ _ _ c.common.ensures (lent 8 c.args.left.now) (lent 8 c.args.values.now) c.if-common-ne1.false _ c.lower.ensures (sym c.is_odd-odd.ensures ∙ c.if-odd.false)
