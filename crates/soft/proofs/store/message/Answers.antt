-- `message` meets its contract. Assumes nothing.
use Rattle.parity.specs.Soft.{message_at}
use borrow.Author.Tests.{eq-eqb, ne_eqb}
use Rattle.soft.proofs.store.message.Goals as goal

pub returns-then-tag-eq3 : goal.returns-then-tag-eq3
unfolding message_at
returns-then-tag-eq3 c = rw (eq-eqb _ _ c.if-tag-eq3.true)

pub returns-then-tag-eq2 : goal.returns-then-tag-eq2
unfolding message_at
returns-then-tag-eq2 c = rw (ne_eqb _ _ c.if-tag-eq3.false, eq-eqb _ _ c.if-tag-eq2.true)

pub returns : goal.returns
unfolding message_at
returns c = rw (ne_eqb _ _ c.if-tag-eq3.false, ne_eqb _ _ c.if-tag-eq2.false)
