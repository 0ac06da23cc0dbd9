-- What the loops of `ones` keep.
use Prim.Native.Nat.{◌≤◌}
use Rattle.try_split.proofs.ones.Given as goal

abbrev pub invariant-loop-c : goal.invariant-loop-c
invariant-loop-c l = (l.c ≤ l.m) × (l.n ≤ 131072)
