-- `gather::is_row` meets its contract. Assumes nothing.
use borrow.Author.Tests.{eq-eqb, ne_eqb}
use Rattle.join.specs.Rows.{is_row}
use Rattle.join.proofs.gather.is_row.Goals as goal

pub returns-then-rows-d : goal.returns-then-rows-d
unfolding is_row
returns-then-rows-d c = rw (eq-eqb _ c.args.x c.if-rows-d.true)

pub returns-else-rows-d : goal.returns-else-rows-d
unfolding is_row
returns-else-rows-d c = rw (ne_eqb _ c.args.x c.if-rows-d.false)
