-- `answer` meets its contract. Assumes nothing.
use mathlib.Core.Path.{◌∙◌}
use borrow.Author.Tests.{eq-eqb, ne_eqb, lt-ltb, le-ltb}
use Rattle.check_node.proofs.answer.Goals as goal

pub returns-then-erased_of-s : goal.returns-then-erased_of-s
returns-then-erased_of-s c = rw (lt-ltb _ _ (rw c.erased_of.ensures at c.if-erased_of-s.true))

pub returns-then-s-soft_of : goal.returns-then-s-soft_of
returns-then-s-soft_of c = rw (le-ltb _ _ (rw c.erased_of.ensures at c.if-erased_of-s.false), eq-eqb _ _ (c.if-s-soft_of.true ∙ c.soft_of.ensures), c.flipped-odd.ensures, c.does_turn.ensures)

pub returns-then-s-t : goal.returns-then-s-t
returns-then-s-t c = rw (le-ltb _ _ (rw c.erased_of.ensures at c.if-erased_of-s.false), ne_eqb _ _ (rw c.soft_of.ensures at c.if-s-soft_of.false), eq-eqb _ _ c.if-s-t.true, c.turn.ensures, c.flipped-odd.ensures, c.does_turn.ensures)

pub returns : goal.returns
returns c = rw (le-ltb _ _ (rw c.erased_of.ensures at c.if-erased_of-s.false), ne_eqb _ _ (rw c.soft_of.ensures at c.if-s-soft_of.false), ne_eqb _ _ c.if-s-t.false, c.turn-2.ensures, c.flipped-odd.ensures, c.does_turn.ensures)
