-- `receiver::input::size` meets its contract. Assumes nothing.
use native.Mathlib.Omega.{arith}
use Rattle.receiver.proofs.Whole.{right_size}
use Rattle.receiver.proofs.input.size.Goals as goal

pub number_at-requires : goal.number_at-requires
number_at-requires c = omega (arith, (right_size c.args.input.now c.requires).held)

pub returns : goal.returns
returns c = rw c.number_at.ensures (right_size c.args.input.now c.requires)
