-- `ranging` meets its contract. Assumes nothing.
use Rattle.passing.proofs.Passing.{fill_none}
use Rattle.reply.proofs.ranging.Goals as goal

pub returns-in-None-clause-ends_after : goal.returns-in-None-clause-ends_after
returns-in-None-clause-ends_after c = rw (c.in-Ok.is, c.in-None.is) (fill_none c.args.ends.now)

pub returns-in-Err-clause-ends_after : goal.returns-in-Err-clause-ends_after
returns-in-Err-clause-ends_after c = rw c.in-Err.is (fill_none c.args.ends.now)
