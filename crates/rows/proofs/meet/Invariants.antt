-- What the loops of `meet` keep.
use Prim.Native.Nat.{◌≤◌}
use Rattle.rows.specs.Zeros.{Zeros, both}
use Rattle.rows.proofs.meet.Given as goal

abbrev pub invariant-loop-p : goal.invariant-loop-p
invariant-loop-p l = Zeros 0 l.p (both l.width l.a l.i l.b l.j) l.acc × (l.p ≤ l.used)
