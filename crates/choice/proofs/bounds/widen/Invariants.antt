-- What the loops of `widen` keep.
use mathlib.Core.Path.{◌≡◌}
use lib.ListN.{length}
use Rattle.columns.specs.Columns.{shares}
use Rattle.choice.proofs.RowBounds.{Raising}
use Rattle.choice.proofs.bounds.widen.Given as goal

abbrev pub invariant-loop-i : goal.invariant-loop-i
invariant-loop-i l = (length l.bound ≡ 512) × Raising (shares l.cols) l.new l.initial.bound l.bound l.i
