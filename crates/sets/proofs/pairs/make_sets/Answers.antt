-- `pairs::make_sets` meets its contract. Assumes nothing.
use native.Mathlib.Omega.{arith}
use Rattle.sets.proofs.Making.{words_all}
use Rattle.sets.proofs.pairs.make_sets.Goals as goal

pub returns : goal.returns
returns c = let l = c.loop-i in
    (words_all _ _ _ _ _ l.invariant.1 (omega arith) (omega arith), words_all _ _ _ _ _ l.invariant.2 (omega arith) (omega arith))
