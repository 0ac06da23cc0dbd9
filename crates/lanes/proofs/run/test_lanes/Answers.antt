-- `run::test_lanes` meets its contract. Assumes nothing.
use Rattle.lanes.proofs.Running.{checked_by}
use Rattle.lanes.proofs.run.test_lanes.Goals as goal

pub returns : goal.returns
returns c = checked_by _ _ _ _ _ _ _ c.sum_of-sum.ensures.1 c.put_row.ensures
