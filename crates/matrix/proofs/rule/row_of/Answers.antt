-- `rule::row_of` meets its contract. Assumes nothing.
use Prim.Native.Nat.{◌*◌}
use native.Mathlib.Omega.{arith}
use native.Mathlib.Decide.{dec_lt}
use borrow.Author.Tests.{lt-ltb, le-ltb}
use Rattle.matrix.specs.Three.{row_of}
use Rattle.matrix.proofs.rule.row_of.Goals as goal

pub returns : goal.returns
unfolding row_of
returns c = let a = c.args in
    elim (dec_lt a.b (32 * a.width)) [
      | yes k ↦ rw (lt-ltb a.b (32 * a.width) k) (omega (arith, c.abs_diff.ensures), omega (arith, c.abs_diff.ensures))
      | no k ↦ rw (le-ltb a.b (32 * a.width) (omega arith)) (omega (arith, c.abs_diff.ensures), omega (arith, c.abs_diff.ensures))
    ]
