-- `contains` meets its contract. Assumes nothing.
use Prim.Native.Nat.{◌*◌, ◌%◌}
use borrow.Author.Tests.{lt-ltb}
use Rattle.parity.specs.Matrix.{lent}
use Rattle.parity.proofs.Matrix.Digits.{one_shl, bit_test}
use native.Mathlib.Omega.{arith}
use Rattle.rows.proofs.contains.Goals as goal

pub returns : goal.returns
unfolding lent
returns c = let b = c.args.b in
    rw (lt-ltb b (c.args.width * 64) (omega arith), one_shl (b % 64) (omega arith)) (bit_test _ (b % 64))
