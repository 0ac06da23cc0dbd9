-- What the loops of `copy_rows` keep.
use Rattle.rows.specs.Whole.{RowsCopied}
use lib.ListN.{length}
use mathlib.Core.Path.{◌≡◌}
use Prim.Native.Nat.{◌≤◌}
use Rattle.rows.proofs.whole.copy_rows.Given as goal

abbrev pub invariant-loop-c : goal.invariant-loop-c
invariant-loop-c l = (l.c ≤ l.checks) × (length l.rows ≡ length l.initial.rows) × RowsCopied l.wide l.width l.from l.rows l.c
