-- What the loops of `highest` keep.
use Prim.Native.Nat.{◌*◌, ◌≤◌}
use Rattle.pairs.specs.Rows.{in_both}
use Rattle.rows.proofs.Next.{Clear}
use Rattle.pairs.proofs.held.highest.Given as goal

abbrev pub invariant-loop-p : goal.invariant-loop-p
invariant-loop-p l = (l.p ≤ l.width) × Clear (in_both l.width l.a l.i l.b l.j) (l.p * 64) (l.width * 64)

abbrev pub decreases-loop-p : goal.decreases-loop-p
decreases-loop-p l = l.p
