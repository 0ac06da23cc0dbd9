-- What the loops of `fill_down` keep.
use Rattle.encode.specs.Filling.{Filled}
use Rattle.sets.specs.Sets.{SetOf}
use Rattle.parity.specs.Calls.{byte_of}
use Rattle.parity.specs.Matrix.{lent}
use lib.ListN.{length}
use mathlib.Core.Path.{◌≡◌}
use Prim.Native.Nat.{◌≤◌}
use Rattle.encode.proofs.fill.fill_down.Given as goal

abbrev pub invariant-loop-c : goal.invariant-loop-c
invariant-loop-c l = (l.c ≤ length l.pivots) × (length l.word ≡ length l.initial.word) × SetOf 2 l.word 1 l.ones × Filled (lent 2 l.rows) (length l.initial.word) (length l.pivots) l.pivots l.c (byte_of l.initial.word) (byte_of l.word)

abbrev pub decreases-loop-c : goal.decreases-loop-c
decreases-loop-c l = l.c
