-- What the loops of `soft_sums` keep.
use mathlib.Core.Path.{◌≡◌}
use Prim.Native.Nat.{◌≤◌}
use lib.ListN.{length}
use Rattle.bit_node.specs.Sums.{SoftSums}
use Rattle.bit_node.proofs.soft_sums.Given as goal

abbrev pub invariant-loop-j : goal.invariant-loop-j
invariant-loop-j l = (l.d ≡ length l.initial.floats) × (l.j ≤ l.d) × SoftSums l.initial.all l.initial.floats l.j l.floats l.all
