-- What the loops of `keep` keep.
use Prim.Native.Nat.{◌≤◌}
use Rattle.exchange.proofs.Common.{Keeping}
use Rattle.exchange.proofs.merge.keep.Given as goal

abbrev pub invariant-loop-i : goal.invariant-loop-i
invariant-loop-i l = (l.i ≤ l.width) × Keeping l.initial.col l.other l.col l.i
