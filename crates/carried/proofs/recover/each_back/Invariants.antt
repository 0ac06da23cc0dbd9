-- What the loops of `each_back` keep.
use mathlib.Core.Path.{◌≡◌}
use lib.ListN.{length}
use Rattle.parity.specs.Matrix.{lent}
use Rattle.columns.specs.Columns.{Columns}
use Rattle.carried.specs.Recover.{standing}
use Rattle.carried.proofs.Recovering.{Taking}
use Rattle.carried.proofs.recover.each_back.Given as goal

abbrev pub invariant-loop-j : goal.invariant-loop-j
invariant-loop-j l = (length l.cols ≡ 1024) × Taking (lent 8 l.words) (standing (lent 8 l.words) (lent 2 l.cols) l.m l.j) l.n l.m l.k l.j × Columns l.m (standing (lent 8 l.words) (lent 2 l.cols) l.m l.j) (lent 2 l.cols)
