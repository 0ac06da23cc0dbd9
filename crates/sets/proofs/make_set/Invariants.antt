-- What the loops of `make_set` keep.
use Prim.Native.Nat.{◌≤◌}
use Rattle.sets.proofs.Making.{Words}
use Rattle.sets.proofs.make_set.Given as goal

abbrev pub invariant-loop-i : goal.invariant-loop-i
invariant-loop-i l = (l.i ≤ l.width) × Words l.width l.bytes l.value l.i l.set
