-- What the loops of `look` keep.
use Rattle.check_node.specs.Pass.{seen}
use Rattle.parity.specs.Soft.{message_at}
use lib.ListN.{length}
use Prim.Native.Nat.{◌≤◌}
use mathlib.Core.Path.{◌≡◌}
use Rattle.check_node.proofs.look.Given as goal

abbrev pub invariant-loop-i : goal.invariant-loop-i
invariant-loop-i l = (l.d ≡ length l.tags) × (l.i ≤ l.d) × (l.s ≡ seen l.d (message_at l.tags l.values) l.i)
