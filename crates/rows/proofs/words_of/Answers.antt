-- `words_of` meets its contract. Assumes nothing.
use native.Mathlib.Omega.{arith}
use Rattle.rows.proofs.words_of.Goals as goal

pub returns : goal.returns
returns c = (omega arith, omega arith)
