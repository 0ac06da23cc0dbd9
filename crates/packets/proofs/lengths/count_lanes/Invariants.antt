-- What the loops of `count_lanes` keep.
use mathlib.Core.Path.{◌≡◌}
use Prim.Native.Nat.{◌+◌, ◌*◌, ◌≤◌}
use lib.Count.{ones as onesOf}
use lib.ListN.{get_or, length}
use Rattle.parity.specs.Finite.{sum}
use Rattle.packets.proofs.lengths.count_lanes.Given as goal

abbrev pub invariant-loop-x : goal.invariant-loop-x
invariant-loop-x l = (l.x-index ≤ length l.odd) × (l.n ≤ 64 * l.x-index) × (l.n ≡ sum l.x-index (λ j. onesOf (get_or l.odd (0 * length l.odd + j) 0)))
