-- `weight` meets its contract. Assumes nothing.
use mathlib.Core.Path.{◌≡◌, sym, ◌∙◌}
use native.Mathlib.Numerals.{add-one}
use native.Mathlib.Omega.{arith}
use borrow.Author.Rules.{rules}
use Rattle.parity.specs.Finite.{sum}
use Rattle.parity.proofs.Matrix.Lent.{weight}
use Rattle.rows.proofs.weight.Goals as goal

pub loop-i-init : goal.loop-i-init
unfolding sum
loop-i-init c = search rules

pub loop-i-preserved : goal.loop-i-preserved
unfolding sum
loop-i-preserved c = let l = c.loop-i in
    (omega arith, omega (arith, c.ones_of-n.ensures), rw (add-one l.i) (omega (arith, c.ones_of-n.ensures)))

pub returns : goal.returns
returns c = let e : c.loop-i.i ≡ c.args.width = omega arith in
    (rw e at c.loop-i.invariant.2) ∙ sym (weight c.args.width c.args.rows.now (λ i. (c.type_inv.rows i).fits) c.args.c)
