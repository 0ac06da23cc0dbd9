-- What the loops of `perform` keep.
use mathlib.Core.Path.{◌≡◌}
use lib.ListN.{length}
use Rattle.parity.specs.Matrix.{lent}
use Rattle.carried.proofs.Performing.{Going}
use Rattle.carried.proofs.perform.perform.Given as goal

abbrev pub invariant-loop-k : goal.invariant-loop-k
invariant-loop-k l = (length l.words ≡ length l.initial.words) × (length l.cols ≡ 1024) × Going l.source l.n l.m l.p (lent 8 l.initial.words) (lent 8 l.words) (lent 2 l.cols) l.k
