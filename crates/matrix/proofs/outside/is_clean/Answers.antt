-- `outside::is_clean` meets its contract. Assumes nothing.
use lib.Dec.{lit<}
use Rattle.matrix.proofs.Masks.{decides}
use Rattle.matrix.proofs.outside.is_clean.Goals as goal

pub returns : goal.returns
returns c = decides 8 c.args.bits c.args.checks 512 c.args.words.now _ _ _ (lit< tt) c.requires.0 c.masks.ensures c.or_rows.ensures c.or_rows-2.ensures _ _ c.meet.ensures c.meet-2.ensures
