-- `lesser_of` meets its contract. Assumes nothing.
use Rattle.min_sum_range.proofs.combine.lesser_of.Goals as goal

pub returns-then-x-a : goal.returns-then-x-a
returns-then-x-a c = rw c.if-x-a.true

pub returns : goal.returns
returns c = rw c.if-x-a.false
