-- What the loops of `send_all` keep.
use Rattle.messages.specs.Memory.{across, held, Cursors, Above}
use Rattle.phases.specs.Loops.{SentAll}
use Rattle.parity.specs.Soft.{message_at}
use Rattle.parity.specs.Matrix.{lent}
use Prim.Native.Nat.{◌≤◌}
use lib.ListN.{length}
use Rattle.phases.proofs.bits.send_all.Given as goal

abbrev pub invariant-loop-b : goal.invariant-loop-b
invariant-loop-b l = (l.b ≤ length l.word) × Cursors (across (lent 8 l.cols)) 512 l.b l.at
    × SentAll (across (lent 8 l.cols)) l.checks l.b (message_at l.word l.floats) (held (across (lent 8 l.cols)) 512 l.initial.tags l.initial.values) l.tags l.values × Above (across (lent 8 l.cols)) 512 l.initial.tags l.initial.values l.tags l.values
