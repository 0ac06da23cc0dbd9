-- What the loops of `mixed_sums` keep.
use Rattle.bit_node.specs.Sums.{part_sum}
use Rattle.soft.specs.Store.{Partly}
use Rattle.parity.specs.Soft.{message_at}
use lib.ListN.{length}
use Prim.Native.Nat.{◌≤◌}
use mathlib.Core.Path.{◌≡◌}
use Rattle.bit_node.proofs.mixed_sums.Given as goal

abbrev pub invariant-loop-j : goal.invariant-loop-j
invariant-loop-j l = (l.d ≡ length l.initial.tags) × (l.j ≤ l.d) × (l.all ≡ part_sum l.initial.all (message_at l.initial.tags l.initial.values) l.j l.j)
    × Partly (length l.initial.tags) l.j (part_sum l.initial.all (message_at l.initial.tags l.initial.values) l.j) (message_at l.initial.tags l.initial.values) l.tags l.values
