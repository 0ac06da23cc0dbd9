-- `clear_around` meets its contract. Assumes nothing.
use Rattle.elimination.proofs.Picking.{row_back}
use Rattle.elimination.proofs.clear_around.Goals as goal

pub returns : goal.returns
returns c = row_back _ _ _ _ _ _ _ _ _ c.row_of-row.ensures c.clear.ensures c.copy_words.ensures
