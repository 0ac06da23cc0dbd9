-- What the loops of `checks` keep.
use Prim.Native.Nat.{◌≤◌}
use Rattle.reading.specs.Judge.{Reached}
use Rattle.reading.proofs.judge.checks.Given as goal

abbrev pub invariant-loop-c : goal.invariant-loop-c
invariant-loop-c l = (l.c ≤ l.head.m) × Reached l.head.form l.head.n l.head.m l.source l.place l.c
