-- `keep` meets its contract. Assumes nothing.
use mathlib.Core.Path.{◌≡◌}
use native.Mathlib.Omega.{arith}
use Rattle.exchange.proofs.Common.{keeping_all}
use Rattle.exchange.proofs.merge.keep.Goals as goal

pub returns : goal.returns
returns c = let s = c.args in
    let e : c.loop-i.i ≡ s.width = omega arith in
    keeping_all s.width _ _ _ (rw e at c.loop-i.invariant.1)
