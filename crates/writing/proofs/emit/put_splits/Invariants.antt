-- What the loops of `put_splits` keep.
use Prim.Native.Nat.{◌+◌, ◌≤◌}
use Rattle.parity.specs.Finite.{list_from}
use Rattle.parity.specs.Matrix.{lent}
use Rattle.writing.specs.Write.{split_of_check, Wrote}
use Rattle.writing.proofs.emit.put_splits.Given as goal

abbrev pub invariant-loop-j : goal.invariant-loop-j
invariant-loop-j l = (l.j ≤ l.k) × Wrote l.initial.target l.target l.p (list_from 0 l.j (split_of_check (lent 8 l.words) l.n l.m)) (l.p + l.j)
