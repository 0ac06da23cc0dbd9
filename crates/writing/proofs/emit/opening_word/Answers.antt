-- `emit::opening_word` meets its contract. Assumes nothing.
use Rattle.parity.specs.Record.{opening}
use Rattle.writing.proofs.emit.opening_word.Goals as goal

pub returns : goal.returns
unfolding opening
returns c = rw c.number_in.ensures
