-- `combine_ends` meets its contract. Assumes nothing.
use Rattle.min_sum_range.proofs.combine.combine_ends.Goals as goal

pub returns : goal.returns
returns c = rw (c.greater_of-high.ensures, c.greater_of-2.ensures, c.greater_of.ensures, c.lesser_of-low.ensures, c.lesser_of-2.ensures, c.lesser_of.ensures, c.pair-s.ensures, c.pair-r.ensures, c.pair-q.ensures, c.pair-p.ensures)
