-- `does_turn` meets its contract. Assumes nothing.
use Rattle.check_node.proofs.does_turn.Goals as goal

pub returns-in-Soft : goal.returns-in-Soft
returns-in-Soft c = rw c.in-Soft.is
