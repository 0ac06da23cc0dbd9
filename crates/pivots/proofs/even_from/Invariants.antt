-- What the loops of `even_from` keep.
use Prim.Native.Nat.{ℕ, ◌*◌, ◌%◌, ◌≤◌, ◌<◌}
use mathlib.Core.Path.{◌≡◌}
use Rattle.parity.specs.Matrix.{lent}
use Rattle.parity.specs.Words.{inside}
use Rattle.pivots.proofs.even_from.Given as goal

abbrev pub invariant-loop-c : goal.invariant-loop-c
invariant-loop-c l = (l.first ≤ l.c) × ((i : ℕ) → l.first ≤ i → i < l.c → inside (lent l.width l.rows) (l.width * 64) i (lent l.width l.set 0) % 2 ≡ 0)
