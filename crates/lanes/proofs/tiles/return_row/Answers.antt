-- `tiles::return_row` meets its contract. Assumes nothing.
use Rattle.lanes.proofs.Writing.{fits_more, merged_now}
use Rattle.rows.proofs.Writing.{written_more}
use Rattle.lanes.proofs.Writing.{returned_all}
use mathlib.Core.Path.{◌≡◌}
use native.Mathlib.Omega.{arith}
use Rattle.lanes.proofs.tiles.return_row.Goals as goal

pub loop-i-preserved : goal.loop-i-preserved
loop-i-preserved c = let l = c.loop-i in
    (omega arith, written_more _ _ _ _ _ _ l.invariant.1 (omega arith) (merged_now _ _ _ _ (l.invariant.1.else _ (λ j k e. omega arith))), fits_more c.args.flags.now _ l.invariant.2 (c.type_inv.flags l.i).fits)

pub returns : goal.returns
returns c = let l = c.loop-i in
    let e : l.i ≡ c.args.t.count = omega arith in
    returned_all _ _ _ _ _ _ _ _ _ (rw e at l.invariant.2) c.requires.0.part c.requires.0.few (rw e at l.invariant.1)
