-- What the loops of `write` keep.
use Prim.Native.Nat.{◌≤◌}
use Rattle.parity.specs.Matrix.{lent}
use Rattle.result.proofs.Writing.{Filling}
use Rattle.result.proofs.write.Given as goal

abbrev pub invariant-loop-i : goal.invariant-loop-i
invariant-loop-i l = (l.i ≤ l.width) × Filling (lent l.width l.lost 0) (lent l.width l.erased 0) (lent l.width l.ones 0) l.i l.initial.word l.word
