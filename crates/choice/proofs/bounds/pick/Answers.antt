-- `pick` meets its contract. Assumes nothing.
use native.Mathlib.Omega.{arith}
use Rattle.choice.proofs.RowBounds.{pick_falls}
use Rattle.choice.proofs.bounds.pick.Goals as goal

pub loop-low-smaller : goal.loop-low-smaller
loop-low-smaller c = let L = c.top_row-share.ensures in
    let l = (L.found (omega arith)).0 in
    pick_falls _ _ _ c.loop-low.invariant.1 _ _ L (omega arith) _ (rw c.in-Err.is at c.scan.ensures) (omega arith)
