-- `eliminate` meets its contract. Assumes nothing.
use native.Mathlib.Omega.{arith}
use Rattle.rank.proofs.Told.{eliminated}
use Rattle.rank.proofs.eliminate.Goals as goal

pub returns : goal.returns
returns c = eliminated 8 2 (omega arith) _ _ _ _ _ _ _ (omega (arith, c.requires.1)) c.copy_rows.ensures c.to_echelon.ensures
