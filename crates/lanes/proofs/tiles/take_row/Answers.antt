-- `tiles::take_row` meets its contract. Assumes nothing.
use Rattle.lanes.proofs.Writing.{taken_all}
use Rattle.lanes.proofs.tiles.take_row.Goals as goal

pub returns : goal.returns
returns c = taken_all _ _ _ _ _ _ _ _ c.requires.part c.requires.few c.copy_eights.ensures
