-- `join` meets its contract. Assumes nothing.
use Rattle.bit_node.proofs.join.Goals as goal

pub returns-in-Erased-w : goal.returns-in-Erased-w
returns-in-Erased-w c = rw (c.in-Soft.is, c.in-Erased-w.is)

pub returns-in-Soft-w : goal.returns-in-Soft-w
returns-in-Soft-w c = rw (c.in-Soft.is, c.in-Soft-w.is)
