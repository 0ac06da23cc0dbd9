-- What the loops of `gather_in` keep.
use Prim.Native.Nat.{◌*◌, ◌≤◌}
use mathlib.Core.Path.{◌≡◌}
use lib.ListN.{length}
use Rattle.parity.specs.Matrix.{lent}
use Rattle.residue.specs.Rows.{Gathered}
use Rattle.residue.proofs.gather.gather_in.Given as goal

abbrev pub invariant-loop-c : goal.invariant-loop-c
invariant-loop-c l = (l.c ≤ l.checks) × (length l.rows ≡ length l.initial.rows) × Gathered (lent 8 l.words) (lent l.width l.rows) (l.width * 64) l.c (lent 8 l.set 0) l.count
