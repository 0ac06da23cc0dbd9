-- What the loops of `repeat` keep.
use mathlib.Core.Path.{◌≡◌}
use Prim.Native.Nat.{◌+◌, ◌-◌}
use lib.ListN.{length}
use Rattle.parity.specs.Matrix.{lent}
use Rattle.parity.specs.Causes.{held_values}
use Rattle.choice.specs.Bounds.{Head}
use Rattle.orthogonalise.proofs.Turns.{Stands}
use Rattle.orthogonalise.proofs.course.repeat.Given as goal

abbrev pub invariant-loop-low : goal.invariant-loop-low
invariant-loop-low l = (length l.words ≡ length l.initial.words) × (length l.cols ≡ 1024) × (length l.bound ≡ 512)
    × Stands (lent 8 l.initial.words) l.n l.m l.k (lent 8 l.words) (lent 2 l.cols) l.bound l.at.k l.at.splits l.at.sum (held_values l.at.held) × Head l.bound (l.n + l.at.k) l.first.0 l.cap

abbrev pub decreases-loop-low : goal.decreases-loop-low
decreases-loop-low l = 392 - l.at.k
