-- What the loops of `checks_send` keep.
use Rattle.phases.proofs.Answering.{Begun}
use Rattle.messages.specs.Memory.{start, held, Sized, Above}
use Rattle.phases.specs.Phases.{Answering}
use Rattle.parity.specs.Matrix.{lent}
use Prim.Native.Nat.{◌≤◌}
use mathlib.Core.Path.{◌≡◌}
use Rattle.phases.proofs.checks.checks_send.Given as goal

abbrev pub invariant-loop-c : goal.invariant-loop-c
invariant-loop-c l = (l.c ≤ l.checks) × (l.a ≡ start (lent 8 l.words) 512 l.c) × Sized l.tags l.values × Begun (lent 8 l.words) 512 l.c l.at
    × Answering (lent 8 l.words) 512 l.checks l.c (held (lent 8 l.words) 512 l.initial.tags l.initial.values) l.tags l.values × Above (lent 8 l.words) 512 l.initial.tags l.initial.values l.tags l.values
