-- `once_with` meets its contract. Assumes nothing.
use mathlib.Core.Path.{◌≡◌, refl}
use native.Mathlib.Omega.{arith}
use Rattle.enumeration.proofs.Storing.{filled_none, filled_more}
use Rattle.enumeration.proofs.Lone.{once_law}
use Rattle.enumeration.proofs.checks.once_with.Goals as goal

pub loop-i-init : goal.loop-i-init
loop-i-init c = (omega arith, filled_none _ _ _ refl)

pub lone_at-requires : goal.lone_at-requires
lone_at-requires c = (c.requires.0, c.requires.1, c.requires.2, c.requires.3, omega arith)

pub loop-i-preserved : goal.loop-i-preserved
loop-i-preserved c = let l = c.loop-i in
    (omega arith, filled_more _ _ _ _ _ (omega arith) l.invariant.1 c.lone_at.ensures)

pub returns : goal.returns
returns c = let l = c.loop-i in
    let e : l.i ≡ 8 = omega arith in
    once_law c.args.cols.now c.args.once.now c.args.some.now c.args.d (λ i. omega (arith, c.type_inv.some i)) (λ i. omega (arith, c.type_inv.cols i)) _ (rw e at l.invariant.1)
