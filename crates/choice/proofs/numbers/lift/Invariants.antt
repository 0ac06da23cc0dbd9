-- What the loops of `lift` keep.
use mathlib.Core.Path.{◌≡◌}
use Prim.Native.Nat.{◌^◌, ◌<◌}
use lib.ListN.{length}
use Rattle.choice.specs.Numbers.{Lifted}
use Rattle.choice.proofs.numbers.lift.Given as goal

abbrev pub invariant-loop-rest : goal.invariant-loop-rest
invariant-loop-rest l = (length l.bound ≡ 512) × (l.rest < 2 ^ 64) × Lifted l.p l.i l.initial.bound l.bound l.rest

abbrev pub decreases-loop-rest : goal.decreases-loop-rest
decreases-loop-rest l = l.rest
