-- What the loops of `settle_listed` keep.
use mathlib.Core.Path.{◌≡◌}
use Prim.Native.Nat.{◌+◌, ◌*◌, ◌≤◌}
use lib.Dec.{ltb}
use lib.ListN.{length}
use Rattle.parity.specs.Finite.{one, count as count_of}
use Rattle.parity.specs.Matrix.{lent}
use Rattle.sets.specs.Sets.{Short}
use Rattle.search.specs.Live.{Live}
use Rattle.lanes.specs.Lanes.{checks_of, bits_of}
use Rattle.plan.specs.Order.{Ordered}
use Rattle.plan.proofs.order.settle_listed.Given as goal

abbrev pub invariant-loop-alone : goal.invariant-loop-alone
invariant-loop-alone l = (length l.live ≡ 512) × (length l.erased ≡ 8) × (length l.done ≡ 8) × (length l.steps ≡ 512) × Ordered (lent 8 l.words) (l.used * 64) l.checks (lent 8 l.initial.erased 0) (lent 8 l.erased 0) (checks_of l.steps) (bits_of l.steps) l.s (lent 8 l.done 0) × Short (l.used * 64) (lent 8 l.erased 0) × (l.count ≤ 512) × (l.kept ≤ l.from) × (l.from ≤ l.count) × Live (lent 8 l.words) 512 l.checks (lent 8 l.erased 0) l.live l.kept l.from l.count

abbrev pub decreases-loop-alone : goal.decreases-loop-alone
decreases-loop-alone l = 2 * count_of (l.used * 64) (lent 8 l.erased 0) + one (ltb 0 l.from)
