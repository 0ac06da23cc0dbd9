-- `weight_below` meets its contract. Assumes nothing.
use mathlib.Core.Bool.{◌&&◌, and_self}
use Prim.Native.Nat.{◌*◌, ◌/◌, ◌%◌}
use native.Mathlib.Omega.{arith}
use Rattle.parity.specs.Matrix.{lent}
use Rattle.parity.proofs.Finite.Sums.{count_cong, count_bound}
use Rattle.parity.proofs.Matrix.Digits.{one_shl}
use Rattle.parity.proofs.Matrix.Lent.{weight_below}
use Rattle.rows.proofs.weight_below.Goals as goal

pub overflow_add-result : goal.overflow_add-result
overflow_add-result c = let b = c.args.bits in
    let row = lent c.args.width c.args.rows.now c.args.c in
    omega (arith, c.common.ensures, count_bound (b / 64 * 64) (λ t. row t && row t), c.ones_of.ensures.1)

pub returns : goal.returns
returns c = let b = c.args.bits in
    let row = lent c.args.width c.args.rows.now c.args.c in
    let e = count_cong (b / 64 * 64) {p = λ t. row t && row t} {q = row} (λ t l. and_self (row t)) in
    let o = rw (one_shl (b % 64) (omega arith)) at c.ones_of.ensures.0 in
    omega (arith, c.common.ensures, weight_below c.args.width c.args.rows.now c.args.c b c.requires.1)
