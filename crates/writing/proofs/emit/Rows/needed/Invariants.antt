-- What the loops of `needed` keep.
use mathlib.Core.Path.{◌≡◌}
use Prim.Native.Nat.{◌+◌, ◌*◌, ◌≤◌}
use Rattle.parity.specs.Matrix.{lent}
use Rattle.parity.specs.Finite.{sum, count}
use Rattle.writing.proofs.emit.Rows.needed.Given as goal

abbrev pub invariant-loop-c : goal.invariant-loop-c
invariant-loop-c l = (l.c ≤ l.m) × (l.total ≤ 2 + 513 * l.c) × (l.total ≡ sum l.c (λ d. 1 + count (l.self.used * 64) (lent l.self.width l.self.words.now d)) + 2)
