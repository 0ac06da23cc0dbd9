-- `sums::add_check` meets its contract. Assumes nothing.
use mathlib.Core.Path.{refl, ◌∙◌}
use Rattle.lanes.proofs.Adding.{sum_none, sum_next}
use native.Mathlib.Omega.{arith}
use Rattle.lanes.proofs.sums.add_check.Goals as goal

pub loop-i-init : goal.loop-i-init
loop-i-init c = (omega arith, refl, sum_none _ _ _ _ _ c.requires.1)

pub loop-i-preserved : goal.loop-i-preserved
loop-i-preserved c = (omega arith, c.add_word.auto.acc ∙ c.loop-i.invariant.1, sum_next _ _ _ _ _ _ _ (omega arith) c.loop-i.invariant.2 c.add_word.ensures)
