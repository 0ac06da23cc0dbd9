-- What the loops of `add_row` keep.
use Prim.Native.Nat.{◌*◌, ◌≤◌}
use lib.Bits.{bit_xor}
use Rattle.rows.specs.Whole.{Written, word_from}
use Rattle.rows.proofs.Writing.{onto}
use Rattle.rows.proofs.whole.add_row.Given as goal

abbrev pub invariant-loop-i : goal.invariant-loop-i
invariant-loop-i l = (l.i ≤ l.width) × Written l.initial.rows l.rows (l.c * l.width) (onto bit_xor l.initial.rows (l.c * l.width) (word_from l.row (l.q * l.width))) l.i
