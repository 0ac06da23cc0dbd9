-- What the loops of `solve_all` keep.
use mathlib.Core.Path.{◌≡◌}
use Prim.Native.Nat.{◌+◌, ◌*◌, ◌≤◌}
use lib.Dec.{ltb}
use lib.ListN.{length}
use Rattle.parity.specs.Finite.{one, count as count_of}
use Rattle.parity.specs.Matrix.{lent}
use Rattle.sets.specs.Sets.{Short}
use Rattle.search.specs.Live.{Live}
use Rattle.steps.specs.Steps.{Reached}
use Rattle.steps.proofs.solve_all.Given as goal

abbrev pub invariant-loop-alone : goal.invariant-loop-alone
invariant-loop-alone l = (length l.live ≡ 512) × (length l.erased ≡ 8) × (length l.ones ≡ 8) × Reached (lent 8 l.words) 512 l.checks (lent 8 l.initial.erased 0) (lent 8 l.initial.ones 0) (lent 8 l.erased 0) (lent 8 l.ones 0) × Short (l.used * 64) (lent 8 l.erased 0) × Short (l.used * 64) (lent 8 l.ones 0) × (l.count ≤ 512) × (l.kept ≤ l.from) × (l.from ≤ l.count) × Live (lent 8 l.words) 512 l.checks (lent 8 l.erased 0) l.live l.kept l.from l.count

abbrev pub decreases-loop-alone : goal.decreases-loop-alone
decreases-loop-alone l = 2 * count_of 512 (lent 8 l.erased 0) + one (ltb 0 l.from)
