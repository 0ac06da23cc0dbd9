-- What the loops of `place` keep.
use Rattle.message_bits.specs.Placing.{Placing}
use Rattle.parity.specs.Calls.{byte_of}
use lib.ListN.{length}
use mathlib.Core.Path.{◌≡◌}
use Prim.Native.Nat.{◌≤◌}
use Rattle.message_bits.proofs.message.place.Given as goal

abbrev pub invariant-loop-b : goal.invariant-loop-b
invariant-loop-b l = (l.b-end ≡ length l.initial.word) × (l.b ≤ l.b-end) × Placing (length l.initial.word) (length l.pivots) l.pivots (byte_of l.message) l.word l.b l.p l.q
