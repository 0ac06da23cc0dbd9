-- What the loops of `gather_word` keep.
use Rattle.messages.proofs.Word.{Left}
use Rattle.messages.specs.Memory.{across, column}
use Rattle.bit_row.specs.Row.{Gathering}
use Rattle.parity.specs.Matrix.{lent}
use Prim.Native.Nat.{ℕ}
use Rattle.bit_row.proofs.gather_word.Given as goal

abbrev pub invariant-loop-rest : goal.invariant-loop-rest
invariant-loop-rest l = (c : ℕ) × Left (column (across (lent 8 l.cols)) l.b) l.i c l.rest × Gathering (across (lent 8 l.cols)) 512 l.b c l.initial.tags l.initial.values l.d l.at l.tags l.values

abbrev pub decreases-loop-rest : goal.decreases-loop-rest
decreases-loop-rest l = l.rest
