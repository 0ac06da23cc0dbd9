-- What the loops of `longer` keep.
use Prim.Native.Nat.{◌≤◌}
use Rattle.enumeration.proofs.Storing.{Filled, member_at}
use Rattle.enumeration.proofs.members.longer.Given as goal

abbrev pub invariant-loop-i : goal.invariant-loop-i
invariant-loop-i l = (l.i ≤ 4) × Filled 4 (member_at l.first l.d) l.i l.all
