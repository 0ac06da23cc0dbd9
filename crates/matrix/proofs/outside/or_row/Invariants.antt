-- What the loops of `or_row` keep.
use Prim.Native.Nat.{◌≤◌}
use Rattle.matrix.specs.Masks.{RowIn}
use Rattle.matrix.proofs.outside.or_row.Given as goal

abbrev pub invariant-loop-p : goal.invariant-loop-p
invariant-loop-p l = (l.p ≤ l.width) × RowIn l.width l.p l.rows l.c l.initial.all l.all
