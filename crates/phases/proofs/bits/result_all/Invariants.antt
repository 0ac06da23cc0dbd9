-- What the loops of `result_all` keep.
use Rattle.soft.specs.Store.{Partly}
use Rattle.messages.specs.Memory.{across, Cursors}
use Rattle.phases.specs.Phases.{result_of}
use Rattle.bit_row.specs.Row.{Low}
use Rattle.parity.specs.Soft.{message_at}
use Rattle.parity.specs.Matrix.{lent}
use Prim.Native.Nat.{◌≤◌}
use lib.ListN.{length}
use Rattle.phases.proofs.bits.result_all.Given as goal

abbrev pub invariant-loop-b : goal.invariant-loop-b
invariant-loop-b l = (l.b ≤ length l.initial.word) × Cursors (across (lent 8 l.cols)) 512 l.b l.at × Low l.initial.tags l.initial.values l.tags l.values
    × Partly (length l.initial.word) l.b (result_of (across (lent 8 l.cols)) 512 l.checks (message_at l.initial.word l.initial.floats) l.initial.tags l.initial.values) (message_at l.initial.word l.initial.floats) l.word l.floats
