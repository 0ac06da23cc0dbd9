-- What the loops of `next_in_words` keep.
use Prim.Native.Nat.{◌*◌, ◌≤◌}
use Rattle.parity.specs.Matrix.{lent}
use Rattle.rows.proofs.Next.{Clear}
use Rattle.rows.proofs.next_in_words.Given as goal

abbrev pub invariant-loop-i : goal.invariant-loop-i
invariant-loop-i l = (l.from ≤ l.i) × (l.i ≤ l.width) × Clear (lent l.width l.rows l.c) (l.from * 64) (l.i * 64)
