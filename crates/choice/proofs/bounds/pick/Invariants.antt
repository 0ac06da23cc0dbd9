-- What the loops of `pick` keep.
use mathlib.Core.Path.{◌≡◌}
use lib.ListN.{length, get_or}
use Rattle.parity.specs.Finite.{sum}
use Rattle.columns.specs.Columns.{shares}
use Rattle.choice.specs.Bounds.{Bounded, Head}
use Rattle.choice.proofs.bounds.pick.Given as goal

abbrev pub invariant-loop-low : goal.invariant-loop-low
invariant-loop-low l = (length l.bound ≡ length l.initial.bound) × Bounded (shares l.cols) l.bits l.bound × Head l.bound l.bits l.from.0 l.cap

abbrev pub decreases-loop-low : goal.decreases-loop-low
decreases-loop-low l = sum l.bits (λ x. get_or l.bound x 0)
