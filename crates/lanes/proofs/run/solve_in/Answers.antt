-- `run::solve_in` meets its contract. Assumes nothing.
use mathlib.Core.Path.{refl, ◌∙◌}
use Rattle.parity.proofs.Matrix.Lent.{row_room}
use Rattle.lanes.proofs.Running.{ran_none, ran_next, check_at, bit_at}
use native.Mathlib.Omega.{arith}
use Rattle.lanes.proofs.run.solve_in.Goals as goal

pub loop-step-init : goal.loop-step-init
loop-step-init c = (omega arith, refl, ran_none _ _ _ _ _)

pub solve-requires : goal.solve-requires
solve-requires c = let l = c.loop-step in
    let j = c.requires.low.0.low l.step-index (omega arith) in
    let k = c.requires.low.1.low l.step-index (omega arith) in (
      record {
        row = omega (arith, row_room c.args.width _ c.args.count (rw (check_at c.args.steps.now l.step-index) at j));
        used = c.requires.width_in_bounds.1;
        width = c.requires.width_in_bounds.2;
        tile = omega (arith, l.invariant.1);
        most = c.requires.width_in_bounds.4;
      },
      rw (bit_at c.args.steps.now l.step-index) at k,
    )

pub loop-step-preserved : goal.loop-step-preserved
loop-step-preserved c = let l = c.loop-step in
    (omega arith, c.solve.auto.tile ∙ l.invariant.1, ran_next _ _ _ _ _ _ _ _ l.invariant.2 (rw (check_at c.args.steps.now l.step-index, bit_at c.args.steps.now l.step-index) c.solve.ensures))
