-- What the loops of `write_pivots` keep.
use Prim.Native.Nat.{◌*◌}
use mathlib.Core.Path.{◌≡◌}
use lib.ListN.{length}
use Rattle.parity.specs.Matrix.{lent}
use Rattle.pivots.specs.Pivots.{PivotsWritten}
use Rattle.pivots.proofs.write_pivots.Given as goal

abbrev pub invariant-loop-c : goal.invariant-loop-c
invariant-loop-c l = (length l.left ≡ 8) × (length l.values ≡ 8)
    × PivotsWritten (lent l.width l.rows) (l.width * 64) (lent l.width l.residue 0) (lent l.width l.known 0) l.pivots l.c (lent 8 l.initial.left 0) (lent 8 l.initial.values 0) (lent 8 l.left 0) (lent 8 l.values 0)
