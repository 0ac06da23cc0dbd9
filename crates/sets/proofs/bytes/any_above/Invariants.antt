-- What the loops of `any_above` keep.
use mathlib.Core.Path.{◌≡◌}
use Prim.Native.Nat.{◌≤◌}
use lib.Dec.{ltb}
use lib.ListN.{length}
use Rattle.parity.specs.Finite.{any}
use Rattle.parity.specs.Calls.{byte_of}
use Rattle.sets.proofs.bytes.any_above.Given as goal

abbrev pub invariant-loop-b : goal.invariant-loop-b
invariant-loop-b l = (l.b-index ≤ length l.bytes) × (l.over ≡ any l.b-index (λ b. ltb l.top (byte_of l.bytes b)))
