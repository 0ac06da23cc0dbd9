-- `mend::run` meets its contract. Assumes nothing.
use mathlib.Core.Path.{refl, ◌∙◌}
use Rattle.parity.proofs.Matrix.Lent.{lent_empty}
use Rattle.lanes.proofs.Mending.{mends_all}
use Rattle.lanes.proofs.mend.run.Goals as goal

pub returns : goal.returns
returns c = (c.test_in-2.auto.flags ∙ c.test_in.auto.flags, mends_all _ _ _ _ _ _ _ _ _ _ _ _ _ _ _ _ _ _ _ _ (λ j. lent_empty c.args.p.lanes 16 _ refl 0 j) c.solve_in.ensures c.test_in.ensures refl c.test_in-2.ensures c.solve_in-2.ensures)
