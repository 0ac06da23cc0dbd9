-- `tiles::return_whole` meets its contract. Assumes nothing.
use Rattle.lanes.proofs.Writing.{returned_whole}
use Rattle.lanes.proofs.tiles.return_whole.Goals as goal

pub returns : goal.returns
returns c = returned_whole _ _ _ _ _ _ _ _ c.requires.part c.requires.few c.copy_eights.ensures
