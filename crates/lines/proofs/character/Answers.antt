-- `lines::character` meets its contract. Assumes nothing.
use borrow.Author.Tests.{eq-eqb, ne_eqb}
use Rattle.lines.proofs.character.Goals as goal

pub returns-then-x-eq2 : goal.returns-then-x-eq2
returns-then-x-eq2 c = rw (eq-eqb c.args.x 2 c.if-x-eq2.true)

pub returns-else-x-eq2 : goal.returns-else-x-eq2
returns-else-x-eq2 c = rw (ne_eqb c.args.x 2 c.if-x-eq2.false)
