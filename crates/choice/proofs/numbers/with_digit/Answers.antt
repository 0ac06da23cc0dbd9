-- `with_digit` meets its contract. Assumes nothing.
use native.Mathlib.Omega.{arith}
use Rattle.choice.proofs.Lifting.{digit_none, digit_some}
use Rattle.choice.proofs.numbers.with_digit.Goals as goal

pub returns-then-bit-eq0 : goal.returns-then-bit-eq0
returns-then-bit-eq0 c = (omega (arith, digit_none c.args.x c.args.t c.requires.1 c.if-bit-eq0.true), omega arith)

pub returns : goal.returns
returns c = (omega (arith, digit_some c.args.x c.args.t c.requires.1 c.if-bit-eq0.false), omega arith)
