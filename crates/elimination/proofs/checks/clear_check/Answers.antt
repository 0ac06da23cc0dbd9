-- `checks::clear_check` meets its contract. Assumes nothing.
use mathlib.Core.Path.{ap, ◌∙◌}
use native.Mathlib.Omega.{arith}
use Rattle.parity.specs.Matrix.{lent, bit_of}
use Rattle.parity.proofs.Matrix.Lent.{lent_in}
use Rattle.rows.specs.Whole.{plus}
use Rattle.elimination.proofs.Picking.{picked}
use Rattle.elimination.proofs.checks.clear_check.Goals as goal

pub returns : goal.returns
unfolding bit_of
returns c = c.add_row.ensures
    ∙ ap (λ row. plus c.args.c row (lent c.args.width c.args.rows.now))
    (picked _ _ c.requires.3 _ (omega arith) _ (lent_in _ _ _ _ c.requires.2))
