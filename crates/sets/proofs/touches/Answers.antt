-- `touches` meets its contract. Assumes nothing.
use Rattle.parity.specs.Words.{inside}
use Rattle.sets.proofs.touches.Goals as goal

pub returns : goal.returns
unfolding inside
returns c = c.touches.ensures
