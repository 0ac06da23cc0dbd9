-- What the loops of `exchange_all` keep.
use mathlib.Core.Path.{◌≡◌}
use Prim.Native.Nat.{◌≤◌}
use lib.ListN.{length}
use Rattle.parity.specs.Matrix.{lent}
use Rattle.exchange.specs.Merge.{ExchangedTo}
use Rattle.exchange.proofs.merge.exchange_all.Given as goal

abbrev pub invariant-loop-i : goal.invariant-loop-i
invariant-loop-i l = (l.i ≤ l.width) × (length l.words ≡ 4096) × ExchangedTo (lent 8 l.initial.words) (lent 8 l.words) l.i (lent l.width l.cols l.row) l.u.0 l.v.0 l.z.0
