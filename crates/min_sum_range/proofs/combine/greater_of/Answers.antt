-- `greater_of` meets its contract. Assumes nothing.
use Rattle.min_sum_range.proofs.combine.greater_of.Goals as goal

pub returns-then-a-x : goal.returns-then-a-x
returns-then-a-x c = rw c.if-a-x.true

pub returns : goal.returns
returns c = rw c.if-a-x.false
