-- `pair` meets its contract. Assumes nothing.
use Rattle.min_sum_range.proofs.combine.pair.Goals as goal

pub returns : goal.returns
returns c = rw (c.turn.ensures, c.lesser_of.ensures, c.magnitude_of-2.ensures, c.magnitude_of.ensures, c.flipped-odd.ensures)
