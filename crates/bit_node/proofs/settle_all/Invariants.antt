-- What the loops of `settle_all` keep.
use Rattle.bit_node.specs.Sums.{settled_of}
use Rattle.soft.specs.Store.{Partly}
use Rattle.parity.specs.Soft.{message_at}
use lib.ListN.{length}
use Prim.Native.Nat.{◌≤◌}
use mathlib.Core.Path.{◌≡◌}
use Rattle.bit_node.proofs.settle_all.Given as goal

abbrev pub invariant-loop-t : goal.invariant-loop-t
invariant-loop-t l = (l.d ≡ length l.initial.tags) × (l.t ≤ l.d) × Partly (length l.initial.tags) l.t (settled_of (message_at l.initial.tags l.initial.values)) (message_at l.initial.tags l.initial.values) l.tags l.values
