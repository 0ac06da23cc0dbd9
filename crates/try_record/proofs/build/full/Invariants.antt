-- What the loops of `full` keep.
use Prim.Native.Nat.{◌≤◌}
use Rattle.try_record.proofs.build.full.Given as goal

abbrev pub invariant-loop-c : goal.invariant-loop-c
invariant-loop-c l = l.c ≤ 120
