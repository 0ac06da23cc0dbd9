-- `agree_left` meets its contract. Assumes nothing.
use mathlib.Core.Path.{sym, ◌∙◌}
use mathlib.Core.Bool.{not, and-eq-true_iff}
use native.Mathlib.Omega.{arith}
use borrow.Author.Tests.{not-true, not-false}
use Rattle.parity.proofs.Finite.Sums.{is, is_true, is_false}
use Rattle.result.proofs.Agreeing.{agreeing_none, agreeing_not, agreeing_even, agreeing_erased}
use Rattle.result.proofs.agree_left.Goals as goal

pub loop-c-init : goal.loop-c-init
loop-c-init c = (omega arith, agreeing_none _ _ _ _)

pub returns-then-odd-touched : goal.returns-then-odd-touched
returns-then-odd-touched c = let l = c.loop-c in
    let (p, q) = (and-eq-true_iff c.is_odd-odd.result (not c.touches-touched.result)).0 c.if-odd-touched.true in
    sym (agreeing_not _ _ _ _ c.args.checks l.c (omega arith) (sym c.is_odd-odd.ensures ∙ p) (sym c.touches-touched.ensures ∙ not-true c.touches-touched.result q))

pub loop-c-preserved : goal.loop-c-preserved
loop-c-preserved c = let l = c.loop-c in (
  omega arith,
  elim (is c.is_odd-odd.result) [
    | is_true p ↦ agreeing_erased _ _ _ _ l.c l.invariant.1 (sym c.touches-touched.ensures ∙ not-false c.touches-touched.result (rw p at c.if-odd-touched.false))
    | is_false p ↦ agreeing_even _ _ _ _ l.c l.invariant.1 (sym c.is_odd-odd.ensures ∙ p)
  ],
)
