-- `outside::or_rows` meets its contract. Assumes nothing.
use mathlib.Core.Path.{◌∙◌}
use native.Mathlib.Omega.{arith}
use Rattle.matrix.proofs.Masks.{ored_more}
use Rattle.matrix.proofs.outside.or_rows.Goals as goal

pub loop-c-preserved : goal.loop-c-preserved
loop-c-preserved c = let l = c.loop-c in
    let E = c.or_row in
    (omega arith, omega arith, E.auto.all ∙ l.invariant.2, ored_more _ _ _ _ _ _ l.invariant.0 (λ i. omega (arith, c.type_inv.rows i)) l.invariant.3 E.ensures)
