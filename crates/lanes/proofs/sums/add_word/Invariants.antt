-- What the loops of `add_word` keep.
use mathlib.Core.Path.{◌≡◌}
use lib.ListN.{length}
use Rattle.parity.specs.Matrix.{lent}
use Rattle.lanes.proofs.Adding.{Rest}
use Rattle.lanes.proofs.sums.add_word.Given as goal

abbrev pub invariant-loop-rest : goal.invariant-loop-rest
invariant-loop-rest l = (length l.acc ≡ length l.initial.acc) × Rest (lent l.lanes l.tile) l.i l.x l.rest (lent l.lanes l.initial.acc 0) (lent l.lanes l.acc 0)

abbrev pub decreases-loop-rest : goal.decreases-loop-rest
decreases-loop-rest l = l.rest
