-- `offsets` meets its contract. Assumes nothing.
use native.Mathlib.Omega.{arith}
use Rattle.search.proofs.Offset.{offsets_none, offsets_more}
use Rattle.search.proofs.offsets.Goals as goal

pub loop-i-init : goal.loop-i-init
loop-i-init c = (omega arith, offsets_none _ _ _ _)

pub loop-i-preserved : goal.loop-i-preserved
loop-i-preserved c = let l = c.loop-i in
    (omega arith, offsets_more _ _ _ _ _ _ (omega arith) (c.type_inv.words _).fits l.invariant.1)
