-- `mend::mend` meets its contract. Assumes nothing.
use mathlib.Core.Path.{refl, ◌∙◌}
use Rattle.lanes.proofs.Mending.{empty_tile, mended_none, mended_next}
use native.Mathlib.Omega.{arith}
use Rattle.lanes.proofs.mend.mend.Goals as goal

pub loop-from-init : goal.loop-from-init
loop-from-init c = (omega arith, refl, refl, refl, empty_tile _ _ _ refl, mended_none _ _ _ _ _ _ _ _ _ _)

pub loop-from-preserved : goal.loop-from-preserved
loop-from-preserved c = let l = c.loop-from in
    let m = c.mend_tile-from in
    (omega (arith, m.ensures.1, l.invariant.2), m.auto.packets ∙ l.invariant.1, m.auto.odd ∙ l.invariant.2, m.auto.tile ∙ l.invariant.3, m.ensures.2, mended_next _ _ _ _ _ _ _ _ _ _ _ _ _ _ _ l.invariant.5 (rw l.invariant.2 at m.ensures.3))
