-- What the loops of `all_rules` keep.
use mathlib.Core.Path.{◌≡◌}
use Prim.Native.Nat.{◌≤◌}
use lib.ListN.{length}
use Rattle.parity.specs.Matrix.{lent}
use Rattle.matrix.specs.Three.{Passing}
use Rattle.matrix.proofs.rule.all_rules.Given as goal

abbrev pub invariant-loop-j : goal.invariant-loop-j
invariant-loop-j l = (l.j ≤ l.k) × (length l.pairs ≡ length l.initial.pairs) × Passing l.width (lent 8 l.words) l.n l.m l.j l.pairs
