-- What the loops of `join` keep.
use mathlib.Core.Path.{◌≡◌}
use Prim.Native.Nat.{◌*◌, ◌≤◌}
use lib.ListN.{length}
use Rattle.parity.specs.Matrix.{lent}
use Rattle.columns.specs.Splits.{joined, InWords}
use Rattle.columns.proofs.splits.join.Given as goal

abbrev pub invariant-loop-i : goal.invariant-loop-i
invariant-loop-i l = (l.i ≤ l.width) × (length l.cols ≡ 512 * l.width) × InWords (joined l.u.0 l.v.0 l.z.0) (lent l.width l.initial.cols) (lent l.width l.cols) l.i
