-- What the loops of `to_echelon` keep.
use Rattle.elimination.specs.Reduction.{Echelon}
use Rattle.parity.specs.Matrix.{lent}
use lib.ListN.{length}
use mathlib.Core.Path.{◌≡◌}
use Prim.Native.Nat.{◌≤◌}
use Rattle.elimination.proofs.to_echelon.Given as goal

abbrev pub invariant-loop-b : goal.invariant-loop-b
invariant-loop-b l = (l.b ≤ l.bits) × (length l.rows ≡ length l.initial.rows) × (length l.pivots ≡ length l.initial.pivots) × Echelon (lent 2 l.initial.rows) (lent 2 l.rows) l.bits l.checks l.b l.r l.pivots
