-- `longer` meets its contract. Assumes nothing.
use mathlib.Core.Path.{◌≡◌, refl}
use native.Mathlib.Omega.{arith}
use Rattle.enumeration.proofs.Storing.{filled_none, filled_more, longer_law}
use Rattle.enumeration.proofs.members.longer.Goals as goal

pub loop-i-init : goal.loop-i-init
loop-i-init c = (omega arith, filled_none _ _ _ refl)

pub loop-i-preserved : goal.loop-i-preserved
loop-i-preserved c = let l = c.loop-i in
    (omega arith, filled_more _ _ _ _ _ (omega arith) l.invariant.1 c.member_at.ensures)

pub returns : goal.returns
returns c = let l = c.loop-i in
    let e : l.i ≡ 4 = omega arith in
    longer_law c.args.first.now c.args.d _ (omega arith) (rw e at l.invariant.1)
