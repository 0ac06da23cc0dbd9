-- What the loops of `weights` keep.
use mathlib.Core.Path.{◌≡◌}
use Prim.Native.Nat.{◌≤◌}
use lib.ListN.{length}
use Rattle.columns.specs.Columns.{shares}
use Rattle.choice.specs.Bounds.{Weights}
use Rattle.choice.proofs.bounds.weights.Given as goal

abbrev pub invariant-loop-x : goal.invariant-loop-x
invariant-loop-x l = (l.x ≤ l.bits) × (length l.bound ≡ 512) × Weights (shares l.cols) l.bound l.x
