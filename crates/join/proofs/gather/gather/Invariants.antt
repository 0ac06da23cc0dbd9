-- What the loops of `gather` keep.
use mathlib.Core.Path.{◌≡◌}
use Prim.Native.Nat.{◌≤◌}
use lib.ListN.{length}
use Rattle.parity.specs.Matrix.{lent}
use Rattle.parity.specs.Joining.{joined}
use Rattle.join.specs.Rows.{HasRows}
use Rattle.join.proofs.gather.gather.Given as goal

abbrev pub invariant-loop-c : goal.invariant-loop-c
invariant-loop-c l = (l.c ≤ l.m2) × (l.at ≤ 120) × (length l.rows ≡ 240) × (l.at ≡ (joined 128 (lent 8 l.words1) l.m1 (lent 8 l.words2) l.c).checks)
    × HasRows 2 8 (joined 128 (lent 8 l.words1) l.m1 (lent 8 l.words2) l.c).matrix l.at l.rows
