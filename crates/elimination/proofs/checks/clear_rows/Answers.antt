-- `checks::clear_rows` meets its contract. Assumes nothing.
use Rattle.elimination.proofs.Clearing.{cleared_none, cleared_more}
use Rattle.rows.specs.Whole.{plus}
use Rattle.elimination.specs.Reduction.{when}
use Rattle.parity.specs.Matrix.{Matrix, lent}
use native.Mathlib.Omega.{arith}
use mathlib.Core.Path.{refl, ap, ◌∙◌}
use Rattle.elimination.proofs.checks.clear_rows.Goals as goal

pub loop-c-init : goal.loop-c-init
loop-c-init c = (omega arith, omega arith, refl, cleared_none _ _ _ _ _ (omega arith))

pub loop-c-preserved : goal.loop-c-preserved
loop-c-preserved c = let l = c.loop-c in
    let E = c.clear_check in
    let W = c.args.width in (
      omega arith,
      omega arith,
      E.auto.rows ∙ l.invariant.2,
      E.ensures ∙ ap (λ (g : Matrix). plus l.c (when (g l.c c.args.b) (lent W c.args.row.now 1)) g) l.invariant.3 ∙ cleared_more _ _ _ _ _ l.invariant.0,
    )
