-- What the loops of `gather` keep.
use Rattle.messages.specs.Memory.{across}
use Rattle.bit_row.specs.Row.{Gathering}
use Rattle.parity.specs.Matrix.{lent}
use Prim.Native.Nat.{◌*◌, ◌≤◌}
use Rattle.bit_row.proofs.gather.Given as goal

abbrev pub invariant-loop-i : goal.invariant-loop-i
invariant-loop-i l = (l.i ≤ l.used) × Gathering (across (lent 8 l.cols)) 512 l.b (l.i * 64) l.initial.tags l.initial.values l.d l.at l.tags l.values
