-- What the loops of `reduce_in` keep.
use Rattle.elimination.specs.Reduction.{Reduction}
use Rattle.parity.specs.Matrix.{lent}
use lib.ListN.{length}
use mathlib.Core.Bool.{true}
use mathlib.Core.Path.{◌≡◌}
use Prim.Native.Nat.{◌*◌, ◌≤◌, ◌<◌, ◌-◌}
use Rattle.elimination.proofs.reduce_in.Given as goal

abbrev pub invariant-loop-b : goal.invariant-loop-b
invariant-loop-b l = (l.b ≤ l.end) × (l.b < l.end → lent l.width l.set 0 l.b ≡ true) × (length l.rows ≡ length l.initial.rows) × (length l.pivots ≡ length l.initial.pivots)
    × Reduction (lent l.width l.initial.rows) (lent l.width l.rows) (l.width * 64) l.checks (lent l.width l.set 0) l.b l.r l.pivots

abbrev pub decreases-loop-b : goal.decreases-loop-b
decreases-loop-b l = l.end - l.b
