-- `checks::row_of` meets its contract. Assumes nothing.
use Rattle.elimination.proofs.Picking.{row_written}
use Rattle.elimination.proofs.checks.row_of.Goals as goal

pub returns : goal.returns
returns c = row_written _ _ _ _ c.copy_words.ensures
