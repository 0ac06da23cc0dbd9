-- What the loops of `fill_all` keep.
use Rattle.messages.specs.Memory.{start, Filling}
use Rattle.parity.specs.Matrix.{lent}
use Rattle.parity.specs.Soft.{message_at}
use Prim.Native.Nat.{◌≤◌}
use mathlib.Core.Path.{◌≡◌}
use Rattle.messages.proofs.filling.fill_all.Given as goal

abbrev pub invariant-loop-c : goal.invariant-loop-c
invariant-loop-c l = (l.c ≤ l.checks) × (l.a ≡ start (lent 8 l.words) 512 l.c) × Filling (lent 8 l.words) 512 l.c 0 (message_at l.word l.floats) l.tags l.values
