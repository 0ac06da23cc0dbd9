-- What the loops of `fill_check` keep.
use Rattle.messages.specs.Memory.{place, Filling}
use Rattle.parity.specs.Matrix.{lent}
use Rattle.parity.specs.Soft.{message_at}
use Prim.Native.Nat.{◌*◌, ◌≤◌}
use mathlib.Core.Path.{◌≡◌}
use Rattle.messages.proofs.filling.fill_check.Given as goal

abbrev pub invariant-loop-i : goal.invariant-loop-i
invariant-loop-i l = (l.i ≤ 8) × (l.a ≡ place (lent 8 l.words) 512 l.c (l.i * 64)) × Filling (lent 8 l.words) 512 l.c (l.i * 64) (message_at l.word l.floats) l.tags l.values
