-- `see_one` meets its contract. Assumes nothing.
use Rattle.check_node.proofs.see_one.Goals as goal

pub returns-in-Sure : goal.returns-in-Sure
returns-in-Sure c = let e = c.in-Sure.is in rw (c.flipped-odd.ensures, c.does_turn.ensures, e)

pub returns-in-Soft : goal.returns-in-Soft
returns-in-Soft c = let e = c.in-Soft.is in
    rw (c.see_size.ensures, c.magnitude_of.ensures, c.flipped-odd.ensures, c.does_turn.ensures, e)

pub returns-in-Erased : goal.returns-in-Erased
returns-in-Erased c = rw c.in-Erased.is
