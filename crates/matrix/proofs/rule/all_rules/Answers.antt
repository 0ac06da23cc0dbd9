-- `rule::all_rules` meets its contract. Assumes nothing.
use mathlib.Core.Path.{◌≡◌, sym}
use native.Mathlib.Omega.{arith}
use Rattle.parity.specs.Matrix.{lent, rule_a}
use Rattle.parity.proofs.Finite.Sums.{all_false}
use Rattle.matrix.proofs.Passing.{passed_rule}
use Rattle.matrix.proofs.rule.all_rules.Goals as goal

pub returns-then-not-rule_at : goal.returns-then-not-rule_at
unfolding rule_a
returns-then-not-rule_at c = let r = c.rule_at in
    sym (all_false _ _ _ (omega arith) (r.ensures.no c.if-not-rule_at.true))

pub returns : goal.returns
returns c = let a = c.args in
    let e : c.loop-j.j ≡ a.k = omega arith in
    sym (passed_rule (lent 8 a.words.now) a.n a.m a.k (rw e at c.loop-j.invariant.2).passed)
