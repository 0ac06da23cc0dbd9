-- What the loops of `largest` keep.
use Prim.Native.Nat.{◌≤◌}
use Rattle.choice.specs.Bounds.{Largest}
use Rattle.choice.proofs.bounds.largest.Given as goal

abbrev pub invariant-loop-x : goal.invariant-loop-x
invariant-loop-x l = (l.x ≤ l.bits) × Largest l.bound l.x l.low l.times
