-- What the loops of `words_of` keep.
use Prim.Native.Nat.{◌+◌, ◌*◌, ◌-◌, ◌<◌}
use Rattle.rows.proofs.words_of.Given as goal

abbrev pub invariant-loop-used : goal.invariant-loop-used
invariant-loop-used l = l.used * 64 < l.bits + 64

abbrev pub decreases-loop-used : goal.decreases-loop-used
decreases-loop-used l = l.bits + 64 - l.used * 64
