-- What the loops of `store` keep.
use Rattle.lanes.specs.Tiles.{Stored}
use mathlib.Core.Path.{◌≡◌}
use Prim.Native.Nat.{◌≤◌}
use lib.ListN.{length}
use Rattle.parity.specs.Matrix.{lent}
use Rattle.lanes.proofs.tiles.store.Given as goal

abbrev pub invariant-loop-b : goal.invariant-loop-b
invariant-loop-b l = (l.b ≤ l.bits) × (length l.packets ≡ length l.initial.packets) × Stored (lent 8 l.lost 0) (lent 8 l.left 0) l.t.from l.t.count l.b (lent l.t.lanes l.tile) (lent l.t.lanes l.flags 0) (lent l.t.len l.initial.packets) (lent l.t.len l.packets)
