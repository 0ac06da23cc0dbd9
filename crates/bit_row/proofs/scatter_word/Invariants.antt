-- What the loops of `scatter_word` keep.
use Rattle.messages.proofs.Word.{Left}
use Rattle.messages.specs.Memory.{across, column}
use Rattle.bit_row.specs.Row.{Spread}
use Rattle.parity.specs.Finite.{count}
use Rattle.parity.specs.Matrix.{lent}
use Prim.Native.Nat.{ℕ, ◌*◌}
use mathlib.Core.Path.{◌≡◌}
use Rattle.bit_row.proofs.scatter_word.Given as goal

abbrev pub invariant-loop-rest : goal.invariant-loop-rest
invariant-loop-rest l = (c : ℕ) × Left (column (across (lent 8 l.cols)) l.b) l.i c l.rest × (l.d ≡ count c (column (across (lent 8 l.cols)) l.b))
    × Spread (across (lent 8 l.cols)) 512 l.b (l.i * 64) c l.initial.tags l.initial.values l.tags l.values

abbrev pub decreases-loop-rest : goal.decreases-loop-rest
decreases-loop-rest l = l.rest
