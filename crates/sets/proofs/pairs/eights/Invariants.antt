-- What the loops of `eights` keep.
use Prim.Native.Nat.{◌+◌, ◌*◌, ◌≤◌}
use Rattle.sets.specs.Sets.{Upto}
use Rattle.sets.proofs.pairs.eights.Given as goal

abbrev pub invariant-loop-q : goal.invariant-loop-q
invariant-loop-q l = (l.q ≤ l.full) × Upto l.bytes 2 l.i l.erased (l.i * 64 + l.q * 8) × Upto l.bytes 1 l.i l.ones (l.i * 64 + l.q * 8)
