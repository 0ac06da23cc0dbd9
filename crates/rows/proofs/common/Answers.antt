-- `common` meets its contract. Assumes nothing.
use mathlib.Core.Path.{◌≡◌, sym, ◌∙◌}
use native.Mathlib.Numerals.{add-one}
use native.Mathlib.Omega.{arith}
use borrow.Author.Rules.{rules}
use Rattle.parity.specs.Finite.{sum}
use Rattle.parity.proofs.Splits.Common.{common_words}
use Rattle.rows.proofs.common.Goals as goal

pub loop-p-init : goal.loop-p-init
unfolding sum
loop-p-init c = search rules

pub loop-p-preserved : goal.loop-p-preserved
unfolding sum
loop-p-preserved c = let l = c.loop-p in
    (omega arith, omega (arith, c.ones_of-n.ensures), rw (add-one l.p) (omega (arith, c.ones_of-n.ensures)))

pub returns : goal.returns
returns c = let e : c.loop-p.p ≡ c.args.used = omega arith in
    (rw e at c.loop-p.invariant.2)
    ∙ sym (common_words c.args.width c.args.a.now c.args.b.now c.args.i c.args.j c.args.used (omega arith) (λ p. (c.type_inv.a p).fits))
