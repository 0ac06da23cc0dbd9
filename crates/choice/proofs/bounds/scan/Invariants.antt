-- What the loops of `scan` keep.
use Prim.Native.Nat.{◌+◌, ◌*◌, ◌<◌, max}
use Rattle.columns.specs.Columns.{shares}
use Rattle.columns.specs.Planes.{From}
use Rattle.choice.proofs.RowBounds.{RowTo}
use Rattle.choice.proofs.bounds.scan.Given as goal

abbrev pub invariant-loop-i : goal.invariant-loop-i
invariant-loop-i l = (l.u.0 + 1 < l.i * 64 + 64) × From l.mask l.i (l.u.0 + 1) × RowTo (shares l.cols) l.u.0 l.s (max (l.u.0 + 1) (l.i * 64)) l.most
