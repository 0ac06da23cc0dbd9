-- What the loops of `lowest` keep.
use Prim.Native.Nat.{◌*◌, ◌≤◌}
use Rattle.pairs.specs.Rows.{in_both}
use Rattle.rows.proofs.Next.{Clear}
use Rattle.pairs.proofs.held.lowest.Given as goal

abbrev pub invariant-loop-p : goal.invariant-loop-p
invariant-loop-p l = (l.p ≤ l.width) × Clear (in_both l.width l.a l.i l.b l.j) 0 (l.p * 64)
