-- What the loops of `rest` keep.
use mathlib.Core.Path.{◌≡◌}
use Prim.Native.Nat.{◌+◌, ◌*◌, ◌≤◌, min}
use lib.ListN.{length}
use Rattle.sets.specs.Sets.{Upto}
use Rattle.sets.proofs.pairs.rest.Given as goal

abbrev pub invariant-loop-b : goal.invariant-loop-b
invariant-loop-b l = (l.first ≡ l.i * 64) × (l.end ≡ min (length l.bytes) (l.first + 64)) × (l.first ≤ l.b) × (l.b ≤ l.end) × Upto l.bytes 2 l.i l.erased l.b × Upto l.bytes 1 l.i l.ones l.b
