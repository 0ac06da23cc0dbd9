-- `run::solve_lanes` meets its contract. Assumes nothing.
use Prim.Native.Nat.{◌*◌}
use Rattle.lanes.proofs.Running.{solved_by_lem}
use Rattle.parity.proofs.Matrix.Lent.{row_room}
use native.Mathlib.Omega.{arith}
use Rattle.lanes.proofs.run.solve_lanes.Goals as goal

pub put_row-requires : goal.put_row-requires
put_row-requires c = (omega (arith, row_room c.args.lanes c.args.b (c.args.used * 64) c.requires.1, c.requires.0.tile), omega (arith, c.sum_of-sum.ensures.0, c.requires.0.most))

pub returns : goal.returns
returns c = solved_by_lem _ _ _ _ _ _ _ c.sum_of-sum.ensures.1 c.put_row.ensures
