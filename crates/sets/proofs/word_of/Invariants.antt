-- What the loops of `word_of` keep.
use Prim.Native.Nat.{◌+◌, ◌*◌, ◌≤◌, min, max}
use mathlib.Core.Path.{◌≡◌}
use lib.ListN.{length}
use Rattle.sets.specs.Sets.{Upto}
use Rattle.sets.proofs.word_of.Given as goal

abbrev pub invariant-loop-b : goal.invariant-loop-b
invariant-loop-b l = (l.first ≡ l.i * 64) × (l.end ≡ min (length l.bytes) (l.first + 64)) × (l.first ≤ l.b) × (l.b ≤ max l.first l.end) × Upto l.bytes l.value l.i l.x l.b
