-- `is_size` meets its contract. Assumes nothing.
use Rattle.std.proofs.Common.{rules}
use Rattle.parity.specs.Calls.{wrong_size}
use Rattle.stopping_sets.proofs.is_size.Goals as goal

pub returns : goal.returns
unfolding wrong_size
returns c = search rules
