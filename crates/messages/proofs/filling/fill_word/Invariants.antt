-- What the loops of `fill_word` keep.
use Rattle.messages.proofs.Word.{Left}
use Rattle.messages.specs.Memory.{place, Filling}
use Rattle.parity.specs.Matrix.{lent}
use Rattle.parity.specs.Soft.{message_at}
use Prim.Native.Nat.{ℕ}
use mathlib.Core.Path.{◌≡◌}
use Rattle.messages.proofs.filling.fill_word.Given as goal

abbrev pub invariant-loop-rest : goal.invariant-loop-rest
invariant-loop-rest l = (b : ℕ) × Left (lent 8 l.words l.c) l.i b l.rest × (l.a ≡ place (lent 8 l.words) 512 l.c b) × Filling (lent 8 l.words) 512 l.c b (message_at l.word l.floats) l.tags l.values

abbrev pub decreases-loop-rest : goal.decreases-loop-rest
decreases-loop-rest l = l.rest
