-- `back_pair` meets its contract. Assumes nothing.
use Rattle.exchange.proofs.Restoring.{restored_back, restored_others}
use Rattle.exchange.proofs.back.back_pair.Goals as goal

pub returns : goal.returns
returns c = let R = c.restore-s.ensures in
    (restored_back _ _ _ _ _ _ _ _ R c.requires.newer _ c.remove_check.ensures, restored_others _ _ _ _ _ _ _ _ R c.requires.newer)
