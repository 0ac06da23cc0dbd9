-- What the loops of `bits_singly` keep.
use Prim.Native.Nat.{◌≤◌}
use Rattle.reading.specs.Read.{Rising}
use Rattle.reading.proofs.judge.bits_singly.Given as goal

abbrev pub invariant-loop-i : goal.invariant-loop-i
invariant-loop-i l = (l.i ≤ l.count) × Rising l.n l.source l.from l.i l.low
