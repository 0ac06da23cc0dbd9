-- What the loops of `keep` keep.
use Rattle.standing.specs.Standing.{Kept}
use Prim.Native.Nat.{◌≤◌}
use Rattle.standing.proofs.keep.Given as goal

abbrev pub invariant-loop-i : goal.invariant-loop-i
invariant-loop-i l = (l.i ≤ l.w) × (l.w ≤ 32512) × Kept l.w l.i l.initial.tags l.initial.values l.tags l.values
