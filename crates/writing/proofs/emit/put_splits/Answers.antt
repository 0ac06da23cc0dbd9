-- `emit::put_splits` meets its contract. Assumes nothing.
use native.Mathlib.Omega.{arith}
use Rattle.writing.proofs.Emitting.{splits_none, splits_next}
use Rattle.writing.proofs.emit.put_splits.Goals as goal

pub loop-j-init : goal.loop-j-init
loop-j-init c = (omega arith, splits_none _ _ _)

pub loop-j-preserved : goal.loop-j-preserved
loop-j-preserved c = (omega arith, splits_next _ _ _ _ _ _ c.loop-j.invariant.1 c.split_word.ensures)
