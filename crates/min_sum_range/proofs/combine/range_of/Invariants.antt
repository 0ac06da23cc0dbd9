-- What the loops of `range_of` keep.
use Rattle.parity.specs.SoftRange.{range_to}
use lib.ListN.{length}
use Prim.Native.Nat.{◌≤◌, ◌-◌}
use mathlib.Core.Path.{◌≡◌}
use Rattle.min_sum_range.proofs.combine.range_of.Given as goal

abbrev pub invariant-loop-i : goal.invariant-loop-i
invariant-loop-i l = (l.n ≡ length l.lows) × (1 ≤ l.i) × (l.i ≤ l.n) × (l.e ≡ range_to l.lows l.highs (l.i - 1))
