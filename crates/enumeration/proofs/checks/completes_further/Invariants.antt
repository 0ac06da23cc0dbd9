-- What the loops of `completes_further` keep.
use mathlib.Core.Path.{◌≡◌}
use mathlib.Core.Bool.{true}
use Prim.Native.Nat.{◌*◌, ◌≤◌}
use Rattle.enumeration.proofs.Lone.{no_lone}
use Rattle.enumeration.proofs.checks.completes_further.Given as goal

abbrev pub invariant-loop-i : goal.invariant-loop-i
invariant-loop-i l = (1 ≤ l.i) × (l.i ≤ l.used) × (no_lone 8 l.cols l.once l.some (l.i * 64) l.d ≡ true)
