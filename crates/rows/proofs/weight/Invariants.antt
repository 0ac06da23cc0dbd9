-- What the loops of `weight` keep.
use mathlib.Core.Path.{◌≡◌}
use Prim.Native.Nat.{◌+◌, ◌*◌, ◌≤◌}
use lib.Count.{ones as onesOf}
use lib.ListN.{get_or}
use Rattle.parity.specs.Finite.{sum}
use Rattle.rows.proofs.weight.Given as goal

abbrev pub invariant-loop-i : goal.invariant-loop-i
invariant-loop-i l = (l.i ≤ l.width) × (l.n ≤ 64 * l.i) × (l.n ≡ sum l.i (λ j. onesOf (get_or l.rows (l.c * l.width + j) 0)))
