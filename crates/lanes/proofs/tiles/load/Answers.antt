-- `tiles::load` meets its contract. Assumes nothing.
use Rattle.lanes.proofs.Storing.{loaded_blank, loaded_take}
use mathlib.Core.Path.{sym, ◌∙◌}
use native.Mathlib.Omega.{arith}
use Rattle.lanes.proofs.tiles.load.Goals as goal
use Rattle.lanes.proofs.tiles.load.Goals.{then-contains, else-contains}

pub loop-b-preserved : goal.loop-b-preserved
loop-b-preserved c = let l = c.loop-b in
    let k = c.contains in
    elim c.if-contains.branch [
      | then-contains w ↦ rw w.tile-is (omega arith, w.blank.auto.tile ∙ l.invariant.1, loaded_blank _ _ _ _ _ _ _ _ l.invariant.2 (sym k.ensures ∙ w.if-contains.true) w.blank.ensures)
      | else-contains w ↦ rw w.tile-is (omega arith, w.take_row.auto.tile ∙ l.invariant.1, loaded_take _ _ _ _ _ _ _ _ l.invariant.2 (sym k.ensures ∙ w.if-contains.false) w.take_row.ensures)
    ]
