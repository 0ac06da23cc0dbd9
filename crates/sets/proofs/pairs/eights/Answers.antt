-- `pairs::eights` meets its contract. Assumes nothing.
use mathlib.Core.Path.{refl}
use Prim.Native.Nat.{◌*◌, ◌<◌}
use native.Mathlib.Nat.{add-zero}
use native.Mathlib.Omega.{arith}
use Rattle.sets.proofs.Making.{upto_none, upto_eight}
use Rattle.sets.proofs.pairs.eights.Goals as goal

pub loop-q-init : goal.loop-q-init
loop-q-init c = let e = add-zero (c.args.i * 64) in
    (omega arith, rw e (upto_none _ _ _), rw e (upto_none _ _ _))

pub loop-q-preserved : goal.loop-q-preserved
loop-q-preserved c = let l = c.loop-q in
    let k : l.q < 8 = omega (arith, c.requires.1) in
    let E = c.eight-pair.ensures in
    (omega arith, upto_eight _ _ _ _ _ l.invariant.1 _ _ refl k E.0, upto_eight _ _ _ _ _ l.invariant.2 _ _ refl k E.1)
