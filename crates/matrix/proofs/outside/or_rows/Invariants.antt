-- What the loops of `or_rows` keep.
use mathlib.Core.Path.{◌≡◌}
use Prim.Native.Nat.{◌≤◌}
use lib.ListN.{length}
use Rattle.matrix.specs.Masks.{Ored}
use Rattle.matrix.proofs.outside.or_rows.Given as goal

abbrev pub invariant-loop-c : goal.invariant-loop-c
invariant-loop-c l = (l.first ≤ l.c) × (l.c ≤ l.end) × (length l.all ≡ length l.initial.all) × Ored l.width l.first l.c l.rows l.all
