-- What the loops of `digest` keep.
use Prim.Native.Nat.{◌<◌}
use Rattle.try_join.proofs.digest.Given as goal

abbrev pub invariant-loop-x : goal.invariant-loop-x
invariant-loop-x l = (l.acc < 1000003)
