-- What the loops of `add_check` keep.
use mathlib.Core.Path.{◌≡◌}
use Prim.Native.Nat.{◌≤◌, ◌*◌}
use lib.ListN.{length}
use Rattle.parity.specs.Matrix.{lent}
use Rattle.lanes.specs.Lanes.{SumOf}
use Rattle.lanes.proofs.sums.add_check.Given as goal

abbrev pub invariant-loop-i : goal.invariant-loop-i
invariant-loop-i l = (l.i ≤ l.used) × (length l.acc ≡ length l.initial.acc) × SumOf (lent l.width l.rows) (l.i * 64) l.c (lent l.lanes l.tile) (lent l.lanes l.acc 0)
