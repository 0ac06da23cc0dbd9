-- `fill::gather` meets its contract. Assumes nothing.
use mathlib.Core.Path.{refl}
use Rattle.record.specs.Fill.{gathered}
use Rattle.record.proofs.Filling.{gathered_next}
use Rattle.record.proofs.fill.gather.Goals as goal

pub loop-w-init : goal.loop-w-init
unfolding gathered
loop-w-init c = refl

pub loop-w-preserved : goal.loop-w-preserved
loop-w-preserved c = gathered_next _ _ _ _ _ c.loop-w.invariant c.payload.ensures
