-- What the loops of `offsets` keep.
use Prim.Native.Nat.{◌≤◌}
use Rattle.search.specs.Live.{Offsets}
use Rattle.search.proofs.offsets.Given as goal

abbrev pub invariant-loop-i : goal.invariant-loop-i
invariant-loop-i l = (l.i ≤ l.used) × Offsets 8 l.i l.words l.erased l.c l.x
