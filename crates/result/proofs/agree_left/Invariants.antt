-- What the loops of `agree_left` keep.
use mathlib.Core.Path.{◌≡◌}
use mathlib.Core.Bool.{true}
use Prim.Native.Nat.{◌*◌, ◌≤◌}
use Rattle.parity.specs.Matrix.{lent}
use Rattle.result.specs.Result.{agreeing}
use Rattle.result.proofs.agree_left.Given as goal

abbrev pub invariant-loop-c : goal.invariant-loop-c
invariant-loop-c l = (l.c ≤ l.checks) × (agreeing (lent 8 l.words) (l.used * 64) l.c (lent 8 l.erased 0) (lent 8 l.ones 0) ≡ true)
