-- What the loops of `scatter` keep.
use Rattle.messages.specs.Memory.{across, column}
use Rattle.bit_row.specs.Row.{Spread}
use Rattle.parity.specs.Finite.{count}
use Rattle.parity.specs.Matrix.{lent}
use Prim.Native.Nat.{◌*◌, ◌≤◌}
use mathlib.Core.Path.{◌≡◌}
use Rattle.bit_row.proofs.scatter.Given as goal

abbrev pub invariant-loop-i : goal.invariant-loop-i
invariant-loop-i l = (l.i ≤ l.used) × (l.d ≡ count (l.i * 64) (column (across (lent 8 l.cols)) l.b)) × Spread (across (lent 8 l.cols)) 512 l.b 0 (l.i * 64) l.initial.tags l.initial.values l.tags l.values
