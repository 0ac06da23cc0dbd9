-- What the loops of `fill_few` keep.
use mathlib.Core.Path.{◌≡◌}
use lib.ListN.{length}
use Rattle.parity.specs.Matrix.{lent}
use Rattle.reading.specs.Read.{puts}
use Rattle.record.proofs.fill.fill_few.Given as goal

abbrev pub invariant-loop-w : goal.invariant-loop-w
invariant-loop-w l = (length l.words ≡ length l.initial.words) × (lent 8 l.words ≡ puts l.ones l.c 0 l.w-index (lent 8 l.initial.words))
