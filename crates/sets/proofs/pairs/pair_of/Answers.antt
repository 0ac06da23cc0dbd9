-- `pairs::pair_of` meets its contract. Assumes nothing.
use native.Mathlib.Omega.{arith}
use Rattle.sets.proofs.Making.{word_none}
use Rattle.sets.proofs.pairs.pair_of.Goals as goal

pub returns-then-bytes-first : goal.returns-then-bytes-first
returns-then-bytes-first c = (word_none _ _ _ (omega arith), word_none _ _ _ (omega arith))
