-- `solve` meets its contract. Assumes nothing.
use mathlib.Core.Path.{refl, sym, ◌∙◌}
use Rattle.parity.specs.Matrix.{lent}
use Rattle.steps.proofs.Held.{solved_odd, solved_even}
use Rattle.steps.proofs.solve.Goals as goal

pub returns-then-odd : goal.returns-then-odd
returns-then-odd c = solved_odd _ _ _ _ (lent 8 c.args.erased.now) (lent 8 c.args.ones.now) (lent 8 c.lower.new.rows) (lent 8 c.raise.new.rows) c.lower.ensures (sym c.odd_in-odd.ensures ∙ c.if-odd.true) c.raise.ensures

pub returns-else-odd : goal.returns-else-odd
returns-else-odd c = solved_even _ _ _ _ (lent 8 c.args.erased.now) (lent 8 c.args.ones.now) (lent 8 c.lower.new.rows) (lent 8 c.args.ones.now) c.lower.ensures (sym c.odd_in-odd.ensures ∙ c.if-odd.false) refl
