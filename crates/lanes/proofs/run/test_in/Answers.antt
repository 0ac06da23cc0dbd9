-- `run::test_in` meets its contract. Assumes nothing.
use mathlib.Core.Path.{refl, sym, ◌∙◌}
use Rattle.lanes.proofs.Running.{tested_none, tested_next, tested_skip}
use native.Mathlib.Omega.{arith}
use Rattle.lanes.proofs.run.test_in.Goals as goal
use Rattle.lanes.proofs.run.test_in.Goals.{then-not-contains, else-not-contains}

pub loop-c-init : goal.loop-c-init
loop-c-init c = (omega arith, omega arith, refl, tested_none _ _ _ _ _ _)

pub loop-c-preserved : goal.loop-c-preserved
loop-c-preserved c = let l = c.loop-c in
    let k = c.contains in
    elim c.if-not-contains.branch [
      | then-not-contains w ↦ rw w.flags-is (
        omega arith,
        omega arith,
        w.test.auto.flags ∙ l.invariant.2,
        tested_next _ _ _ _ _ _ _ _ _ l.invariant.0 l.invariant.3 (sym k.ensures ∙ w.if-not-contains.true) w.test.ensures,
      )
      | else-not-contains w ↦ rw w.flags-is (
        omega arith,
        omega arith,
        l.invariant.2,
        tested_skip _ _ _ _ _ _ _ _ l.invariant.3 (sym k.ensures ∙ w.if-not-contains.false),
      )
    ]
