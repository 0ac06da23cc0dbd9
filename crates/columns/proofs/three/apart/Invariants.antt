-- What the loops of `apart` keep.
use Prim.Native.Nat.{◌≤◌}
use Rattle.rows.specs.Zeros.{Zeros}
use Rattle.columns.specs.Three.{two_in}
use Rattle.columns.proofs.three.apart.Given as goal

abbrev pub invariant-loop-i : goal.invariant-loop-i
invariant-loop-i l = (l.i ≤ l.width) × Zeros 0 l.i (two_in l.width l.cols l.x l.y l.z) l.acc
