-- `number_at` meets its contract. Assumes nothing.
use native.Mathlib.Omega.{arith}
use Rattle.columns.specs.Planes.{number}
use Rattle.choice.specs.Numbers.{high}
use Rattle.choice.proofs.numbers.number_at.Goals as goal

pub returns : goal.returns
unfolding number high
returns c = omega (arith, c.upper-n4.ensures.0, c.with_digit-n3.ensures.0, c.with_digit-n2.ensures.0, c.with_digit-n1.ensures.0, c.with_digit.ensures.0)
