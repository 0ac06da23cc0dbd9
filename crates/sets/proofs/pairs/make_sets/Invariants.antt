-- What the loops of `make_sets` keep.
use Prim.Native.Nat.{◌≤◌}
use Rattle.sets.proofs.Making.{Words}
use Rattle.sets.proofs.pairs.make_sets.Given as goal

abbrev pub invariant-loop-i : goal.invariant-loop-i
invariant-loop-i l = (l.i ≤ 8) × Words 8 l.bytes 2 l.i l.erased × Words 8 l.bytes 1 l.i l.ones
