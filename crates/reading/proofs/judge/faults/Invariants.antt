-- What the loops of `faults` keep.
use Prim.Native.Nat.{◌≤◌}
use Rattle.reading.specs.Read.{Rises}
use Rattle.reading.proofs.judge.faults.Given as goal

abbrev pub invariant-loop-i : goal.invariant-loop-i
invariant-loop-i l = (l.i ≤ l.count) × (l.wrong ≤ l.i) × Rises l.source l.from l.i l.wrong
