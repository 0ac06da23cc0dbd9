-- `holders` meets its contract. Assumes nothing.
use Rattle.pairs.proofs.Words.{none_held, both_held}
use Rattle.pairs.proofs.held.holders.Goals as goal

pub returns-in_err-lowest : goal.returns-in_err-lowest
returns-in_err-lowest c = rw c.from_residual.ensures (none_held _ _ c.in_err-lowest.ensures)

pub returns : goal.returns
returns c = both_held _ _ _ _ c.in_ok-lowest.ensures c.in_ok-highest.ensures
