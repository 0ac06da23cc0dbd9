-- `fill::fill_few` meets its contract. Assumes nothing.
use mathlib.Core.Path.{refl, ◌∙◌}
use Rattle.reading.specs.Read.{puts}
use Rattle.record.proofs.Filling.{puts_next}
use Rattle.record.proofs.fill.fill_few.Goals as goal

pub loop-w-init : goal.loop-w-init
unfolding puts
loop-w-init c = (refl, refl)

pub loop-w-preserved : goal.loop-w-preserved
loop-w-preserved c = let r = c.raise in
    let l = c.loop-w in
    (r.auto.rows ∙ l.invariant.0, puts_next _ _ _ _ _ _ _ l.invariant.1 c.payload.ensures r.ensures)
