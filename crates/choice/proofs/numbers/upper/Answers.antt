-- `upper` meets its contract. Assumes nothing.
use mathlib.Core.Path.{sym}
use native.Mathlib.Omega.{arith}
use Rattle.choice.specs.Numbers.{high}
use Rattle.choice.proofs.Lifting.{high_zero}
use Rattle.choice.proofs.numbers.upper.Goals as goal

pub returns-then-p-eq0 : goal.returns-then-p-eq0
returns-then-p-eq0 c = (sym (high_zero _ _ c.if-p-eq0.true), omega arith)

pub returns : goal.returns
unfolding high
returns c = let a = c.with_digit-n6.ensures in
    let b = c.with_digit-n5.ensures in
    let d = c.with_digit.ensures in
    (omega (arith, a.0, b.0, d.0), omega (arith, a.1, b.1, d.1))
