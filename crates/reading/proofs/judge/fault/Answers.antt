-- `judge::fault` meets its contract. Assumes nothing.
use Rattle.reading.proofs.AllBits.{fault_in}
use Rattle.reading.proofs.judge.fault.Goals as goal

pub returns-in-3 : goal.returns-in-3
returns-in-3 c = fault_in _ _ c.in-3.is
