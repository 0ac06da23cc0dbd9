-- `raise` meets its contract. Assumes nothing.
use Prim.Native.Nat.{◌%◌}
use native.Mathlib.Omega.{arith}
use Rattle.parity.proofs.Matrix.Digits.{one_shl}
use Rattle.parity.proofs.Matrix.Lent.{raised_put}
use Rattle.rows.proofs.raise.Goals as goal

pub returns : goal.returns
returns c = rw (one_shl (c.args.b % 64) (omega arith))
    (raised_put c.args.width c.args.rows.now c.args.c c.args.b (omega arith) (omega arith))
