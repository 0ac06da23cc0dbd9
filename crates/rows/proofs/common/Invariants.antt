-- What the loops of `common` keep.
use mathlib.Core.Path.{◌≡◌}
use Prim.Native.Nat.{◌+◌, ◌*◌, ◌≤◌}
use lib.Bits.{bit_and}
use lib.Count.{ones as onesOf}
use lib.ListN.{get_or}
use Rattle.parity.specs.Finite.{sum}
use Rattle.rows.proofs.common.Given as goal

abbrev pub invariant-loop-p : goal.invariant-loop-p
invariant-loop-p l = (l.p ≤ l.used) × (l.n ≤ 64 * l.p) × (l.n ≡ sum l.p (λ t. onesOf (bit_and (get_or l.a (l.i * l.width + t) 0) (get_or l.b (l.j * l.width + t) 0))))
