-- What the loops of `return_row` keep.
use Prim.Native.Nat.{ℕ, ◌^◌, ◌<◌}
use Rattle.rows.specs.Whole.{Written}
use Rattle.lanes.proofs.Writing.{merged}
use Prim.Native.Nat.{◌≤◌, ◌+◌}
use lib.ListN.{get_or}
use Rattle.lanes.proofs.tiles.return_row.Given as goal

abbrev pub invariant-loop-i : goal.invariant-loop-i
invariant-loop-i l = (l.i ≤ l.count) × Written l.initial.packets l.packets l.first (λ a. merged (get_or l.initial.packets (l.first + a) 0) (get_or l.tile (l.row + a) 0) (get_or l.flags a 0)) l.i × ((a : ℕ) → a < l.i → get_or l.flags a 0 < 2 ^ 64)
