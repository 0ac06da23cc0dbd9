-- What the loops of `solve_in` keep.
use mathlib.Core.Path.{◌≡◌}
use Prim.Native.Nat.{◌≤◌, ◌*◌}
use lib.ListN.{length}
use Rattle.parity.specs.Matrix.{lent}
use Rattle.lanes.specs.Lanes.{Ran, checks_of, bits_of}
use Rattle.lanes.proofs.run.solve_in.Given as goal

abbrev pub invariant-loop-step : goal.invariant-loop-step
invariant-loop-step l = (l.step-index ≤ length l.steps) × (length l.tile ≡ length l.initial.tile) × Ran (lent l.width l.rows) (l.p.used * 64) (checks_of l.steps) (bits_of l.steps) l.step-index (lent l.p.lanes l.initial.tile) (lent l.p.lanes l.tile)
