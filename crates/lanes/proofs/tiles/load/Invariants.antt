-- What the loops of `load` keep.
use Rattle.lanes.specs.Tiles.{Loaded}
use mathlib.Core.Path.{◌≡◌}
use Prim.Native.Nat.{◌≤◌}
use lib.ListN.{length}
use Rattle.parity.specs.Matrix.{lent}
use Rattle.lanes.proofs.tiles.load.Given as goal

abbrev pub invariant-loop-b : goal.invariant-loop-b
invariant-loop-b l = (l.b ≤ l.bits) × (length l.tile ≡ length l.initial.tile) × Loaded (lent l.t.len l.packets) (lent 8 l.lost 0) l.t.from l.t.count l.b (lent l.t.lanes l.initial.tile) (lent l.t.lanes l.tile)
