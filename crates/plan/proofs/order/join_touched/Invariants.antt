-- What the loops of `join_touched` keep.
use mathlib.Core.Path.{◌≡◌}
use Prim.Native.Nat.{◌≤◌, ◌*◌}
use lib.ListN.{length}
use Rattle.parity.specs.Matrix.{lent}
use Rattle.plan.specs.Order.{Joined}
use Rattle.plan.proofs.order.join_touched.Given as goal

abbrev pub invariant-loop-c : goal.invariant-loop-c
invariant-loop-c l = (l.c ≤ l.checks) × (length l.done ≡ 8) × Joined (lent 8 l.words) (l.used * 64) l.c (lent 8 l.erased 0) (lent 8 l.initial.done 0) (lent 8 l.done 0)
