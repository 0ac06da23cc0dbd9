-- What the loops of `join_all` keep.
use Rattle.bit_node.specs.Sums.{joined_with}
use Rattle.soft.specs.Store.{Partly}
use Rattle.parity.specs.Soft.{message_at}
use lib.ListN.{length}
use Prim.Native.Nat.{◌≤◌}
use Rattle.bit_node.proofs.join_all.Given as goal

abbrev pub invariant-loop-t : goal.invariant-loop-t
invariant-loop-t l = (l.t ≤ l.j) × Partly (length l.initial.tags) l.t (joined_with (message_at l.initial.tags l.initial.values) l.v) (message_at l.initial.tags l.initial.values) l.tags l.values
