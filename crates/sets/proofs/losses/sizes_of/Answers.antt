-- `losses::sizes_of` meets its contract. Assumes nothing.
use mathlib.Core.Path.{◌≡◌}
use Prim.Native.Nat.{◌+◌, ◌-◌}
use native.Mathlib.Omega.{arith}
use Rattle.parity.specs.Matrix.{lent}
use Rattle.parity.proofs.Matrix.Lent.{count_add}
use Rattle.sets.proofs.losses.sizes_of.Goals as goal

pub overflow_sub-result : goal.overflow_sub-result
overflow_sub-result c = let s = c.args in
    let e : s.n + (512 - s.n) ≡ 512 = omega arith in
    omega (arith, c.size_below-sent.ensures, c.size-all.ensures, rw e at (count_add s.n (512 - s.n) (lent 8 s.set.now 0)))

pub returns : goal.returns
returns c = let s = c.args in
    let e : s.n + (512 - s.n) ≡ 512 = omega arith in
    (c.size_below-sent.ensures, omega (arith, c.size_below-sent.ensures, c.size-all.ensures, rw e at (count_add s.n (512 - s.n) (lent 8 s.set.now 0))))
