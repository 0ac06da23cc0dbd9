-- What the loops of `is_single` keep.
use Prim.Native.Nat.{◌*◌, ◌≤◌}
use Rattle.parity.specs.Matrix.{lent}
use Rattle.parity.specs.Words.{inside}
use Rattle.sets.proofs.Single.{Seen}
use Rattle.sets.proofs.is_single.Given as goal

abbrev pub invariant-loop-i : goal.invariant-loop-i
invariant-loop-i l = (l.i ≤ l.used) × Seen (inside (lent 8 l.words) (l.i * 64) l.d (lent 8 l.set 0)) l.taken l.twice
