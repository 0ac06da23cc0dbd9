-- `make_set` meets its contract. Assumes nothing.
use native.Mathlib.Omega.{arith}
use Rattle.sets.proofs.Making.{words_all}
use Rattle.sets.proofs.make_set.Goals as goal

pub returns : goal.returns
returns c = words_all _ _ _ _ _ c.loop-i.invariant.1 (omega arith) (omega arith)
