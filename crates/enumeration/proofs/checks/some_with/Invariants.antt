-- What the loops of `some_with` keep.
use Prim.Native.Nat.{◌≤◌}
use Rattle.enumeration.proofs.Storing.{Filled}
use Rattle.enumeration.proofs.Lone.{some_at}
use Rattle.enumeration.proofs.checks.some_with.Given as goal

abbrev pub invariant-loop-i : goal.invariant-loop-i
invariant-loop-i l = (l.i ≤ 8) × Filled 8 (some_at 8 l.cols l.some l.d) l.i l.all
