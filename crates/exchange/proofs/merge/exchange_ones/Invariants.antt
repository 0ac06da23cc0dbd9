-- What the loops of `exchange_ones` keep.
use mathlib.Core.Path.{◌≡◌}
use lib.ListN.{length}
use Rattle.parity.specs.Matrix.{lent}
use Rattle.exchange.proofs.Exchange.{Exchanging}
use Rattle.exchange.proofs.merge.exchange_ones.Given as goal

abbrev pub invariant-loop-rest : goal.invariant-loop-rest
invariant-loop-rest l = (length l.words ≡ 4096) × Exchanging (lent 8 l.initial.words) (lent 8 l.words) l.i l.x l.rest l.u.0 l.v.0 l.z.0

abbrev pub decreases-loop-rest : goal.decreases-loop-rest
decreases-loop-rest l = l.rest
