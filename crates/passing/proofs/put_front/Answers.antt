-- `put_front` meets its contract. Assumes nothing.
use mathlib.Core.Path.{◌∙◌}
use native.Mathlib.Omega.{arith}
use Rattle.passing.proofs.Passing.{fill_all, fill_part}
use Rattle.passing.proofs.put_front.Goals as goal

pub returns-then-front-values : goal.returns-then-front-values
returns-then-front-values g c = rw c.copy_from_slice.ensures.after (fill_all c.args.front.now c.args.values.now c.if-front-values.true)

pub returns-else-front-values : goal.returns-else-front-values
returns-else-front-values g c = c.copy_from_slice-else-front-values.ensures.after ∙ fill_part c.args.front.now c.args.values.now (omega (arith, c.if-front-values.false))
