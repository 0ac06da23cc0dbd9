-- `three::apart` meets its contract. Assumes nothing.
use mathlib.Core.Path.{◌≡◌}
use native.Mathlib.Omega.{arith}
use Rattle.rows.proofs.Zeros.{zeros_more}
use Rattle.columns.proofs.Apart.{apart_law}
use Rattle.columns.proofs.three.apart.Goals as goal

pub loop-i-preserved : goal.loop-i-preserved
loop-i-preserved c = (omega arith, zeros_more _ _ _ _ _ (omega arith) c.loop-i.invariant.1 c.two_in-acc.ensures)

pub returns : goal.returns
returns c = let e : c.loop-i.i ≡ c.args.width = omega arith in
    apart_law c.args.width c.args.cols.now c.args.x c.args.y c.args.z (λ i. omega (arith, c.type_inv.cols i))
    _ (rw e at c.loop-i.invariant.1)
