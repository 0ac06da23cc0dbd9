-- `settle` meets its contract. Assumes nothing.
use Rattle.bit_node.proofs.settle.Goals as goal

pub returns-in-Soft : goal.returns-in-Soft
returns-in-Soft c = rw (c.plus_zero.ensures, c.cut_off.ensures, c.in-Soft.is)
