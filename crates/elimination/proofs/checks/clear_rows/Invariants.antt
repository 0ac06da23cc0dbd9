-- What the loops of `clear_rows` keep.
use Rattle.elimination.specs.Reduction.{cleared}
use Rattle.parity.specs.Matrix.{lent}
use lib.ListN.{length}
use mathlib.Core.Path.{◌≡◌}
use Prim.Native.Nat.{◌≤◌}
use Rattle.elimination.proofs.checks.clear_rows.Given as goal

abbrev pub invariant-loop-c : goal.invariant-loop-c
invariant-loop-c l = (l.first ≤ l.c) × (l.c ≤ l.end) × (length l.rows ≡ length l.initial.rows) × (lent l.width l.rows ≡ cleared (lent l.width l.row 1) l.b l.first l.c (lent l.width l.initial.rows))
