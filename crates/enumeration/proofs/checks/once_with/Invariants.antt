-- What the loops of `once_with` keep.
use Prim.Native.Nat.{◌≤◌}
use Rattle.enumeration.proofs.Storing.{Filled}
use Rattle.enumeration.proofs.Lone.{lone_at}
use Rattle.enumeration.proofs.checks.once_with.Given as goal

abbrev pub invariant-loop-i : goal.invariant-loop-i
invariant-loop-i l = (l.i ≤ 8) × Filled 8 (lone_at 8 l.cols l.once l.some l.d) l.i l.all
