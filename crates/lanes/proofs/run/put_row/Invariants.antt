-- What the loops of `put_row` keep.
use Prim.Native.Nat.{◌*◌, ◌≤◌}
use lib.Bits.{bit_or}
use Rattle.rows.specs.Whole.{Written, word_from}
use Rattle.rows.proofs.Writing.{onto}
use Rattle.lanes.proofs.run.put_row.Given as goal

abbrev pub invariant-loop-i : goal.invariant-loop-i
invariant-loop-i l = (l.i ≤ l.width) × Written l.initial.rows l.rows (l.c * l.width) (onto bit_or l.initial.rows (l.c * l.width) (word_from l.row (0 * l.width))) l.i
