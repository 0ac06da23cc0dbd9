-- `meet` meets its contract. Assumes nothing.
use mathlib.Core.Path.{refl}
use native.Mathlib.Omega.{arith}
use Rattle.rows.specs.Zeros.{both}
use Rattle.rows.proofs.Zeros.{zeros_more}
use Rattle.rows.proofs.meet.Goals as goal

pub loop-p-preserved : goal.loop-p-preserved
loop-p-preserved c = (zeros_more _ _ _ _ _ (omega arith) c.loop-p.invariant.0 (unfold both in refl), omega arith)
