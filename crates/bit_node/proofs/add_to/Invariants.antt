-- What the loops of `add_to` keep.
use Prim.Native.Nat.{◌≤◌}
use Rattle.bit_node.specs.Sums.{AddedTo}
use Rattle.bit_node.proofs.add_to.Given as goal

abbrev pub invariant-loop-t : goal.invariant-loop-t
invariant-loop-t l = (l.t ≤ l.j) × AddedTo l.initial.floats l.x l.t l.floats
