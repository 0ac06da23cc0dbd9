-- What the loops of `gather` keep.
use mathlib.Core.Path.{◌≡◌}
use Rattle.record.specs.Fill.{gathered}
use Rattle.record.proofs.fill.gather.Given as goal

abbrev pub invariant-loop-w : goal.invariant-loop-w
invariant-loop-w l = l.y ≡ gathered l.ones l.w-index l.x
