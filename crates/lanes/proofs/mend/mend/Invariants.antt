-- What the loops of `mend` keep.
use mathlib.Core.Path.{◌≡◌}
use Prim.Native.Nat.{◌*◌, ◌-◌, ◌≤◌}
use lib.ListN.{length}
use Rattle.parity.specs.Matrix.{lent}
use Rattle.lanes.specs.Tiles.{plan_lists, Mended, Empty}
use Rattle.lanes.proofs.mend.mend.Given as goal

abbrev pub invariant-loop-from : goal.invariant-loop-from
invariant-loop-from l = (l.from ≤ length l.initial.odd) × (length l.packets ≡ length l.initial.packets) × (length l.odd ≡ length l.initial.odd) × (length l.tile ≡ 2048) × Empty l.p.bits (lent l.p.lanes l.tile)
    × Mended (lent 8 l.words) (lent l.p.used l.reduced) (l.p.used * 64) l.p.checks (plan_lists l.p (lent 8 l.skip 0) l.steps l.more) (lent 8 l.lost 0) (lent 8 l.left 0) l.p.bits (l.from * 64) (lent (length l.initial.odd) l.initial.packets) (lent (length l.initial.odd) l.packets) (lent (length l.initial.odd) l.odd 0)

abbrev pub decreases-loop-from : goal.decreases-loop-from
decreases-loop-from l = length l.initial.odd - l.from
