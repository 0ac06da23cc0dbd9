-- `rank_of` meets its contract. Assumes nothing.
use Rattle.rank.proofs.Told.{is_rank}
use Rattle.rank.proofs.rank_of.Goals as goal

pub returns : goal.returns
returns c = is_rank _ _ _ _ _ _ c.eliminate-r.ensures
