-- What the loops of `put_row` keep.
use Prim.Native.Nat.{◌*◌, ◌≤◌}
use Rattle.parity.specs.Matrix.{lent}
use Rattle.parity.specs.Record.{bit_words}
use Rattle.writing.specs.Write.{Wrote}
use Rattle.writing.proofs.emit.Rows.put_row.Given as goal

abbrev pub invariant-loop-i : goal.invariant-loop-i
invariant-loop-i l = (l.i ≤ l.self.used) × Wrote l.initial.target l.target l.p (bit_words (lent l.self.width l.self.words.now l.c) (l.i * 64)) l.at
