-- What the loops of `test_in` keep.
use mathlib.Core.Path.{◌≡◌}
use Prim.Native.Nat.{◌≤◌, ◌*◌}
use lib.ListN.{length}
use Rattle.parity.specs.Matrix.{lent}
use Rattle.lanes.specs.Lanes.{Tested}
use Rattle.lanes.proofs.run.test_in.Given as goal

abbrev pub invariant-loop-c : goal.invariant-loop-c
invariant-loop-c l = (l.first ≤ l.c) × (l.c ≤ l.end) × (length l.flags ≡ length l.initial.flags) × Tested (lent l.width l.rows) (l.p.used * 64) l.first l.c (lent 8 l.skip 0) (lent l.p.lanes l.tile) (lent l.p.lanes l.initial.flags 0) (lent l.p.lanes l.flags 0)
