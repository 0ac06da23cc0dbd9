-- What the loops of `is_odd` keep.
use Rattle.parity.specs.Words.{inside}
use Rattle.parity.specs.Matrix.{lent}
use lib.Count.{ones as onesOf}
use Prim.Native.Nat.{◌*◌, ◌%◌, ◌^◌, ◌≤◌, ◌<◌}
use mathlib.Core.Path.{◌≡◌}
use Rattle.rows.proofs.is_odd.Given as goal

abbrev pub invariant-loop-i : goal.invariant-loop-i
invariant-loop-i l = (l.i ≤ l.used) × (l.acc < 2 ^ 64) × (onesOf l.acc % 2 ≡ inside (lent l.width l.rows) (l.i * 64) l.c (lent l.width l.set 0) % 2)
