-- What the loops of `list_alone` keep.
use mathlib.Core.Path.{◌≡◌}
use Prim.Native.Nat.{◌≤◌, ◌*◌}
use lib.ListN.{length}
use Rattle.parity.specs.Matrix.{lent}
use Rattle.lanes.specs.Lanes.{checks_of, bits_of}
use Rattle.plan.specs.Order.{Listed}
use Rattle.plan.proofs.alone.list_alone.Given as goal

abbrev pub invariant-loop-c : goal.invariant-loop-c
invariant-loop-c l = (l.c ≤ l.r) × (length l.left ≡ 8) × (length l.steps ≡ 512) × Listed (lent l.width l.rows) (l.width * 64) (lent l.width l.residue 0) l.pivots l.c (lent 8 l.initial.left 0) (lent 8 l.left 0) (checks_of l.steps) (bits_of l.steps) l.s
