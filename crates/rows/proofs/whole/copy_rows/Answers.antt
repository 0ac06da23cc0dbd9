-- `whole::copy_rows` meets its contract. Assumes nothing.
use native.Mathlib.Omega.{arith}
use mathlib.Core.Path.{◌∙◌}
use Prim.Native.Nat.{◌*◌}
use Rattle.rows.proofs.Writing.{rows_more, written_copy}
use Rattle.parity.proofs.Matrix.Lent.{row_room}
use Rattle.rows.proofs.whole.copy_rows.Goals as goal

pub loop-c-preserved : goal.loop-c-preserved
loop-c-preserved c = let l = c.loop-c in
    let a = c.args in
    let R = l.invariant.1 in
    let W = written_copy l.rows a.from.now _ (l.c * a.width) (l.c * a.wide) a.width _ _ (omega (arith, R, row_room a.width l.c a.checks (omega arith))) (omega (arith, row_room a.wide l.c a.checks (omega arith)))
    (omega arith) (omega arith) c.copy_from_slice.ensures.after in
    (omega arith, W.long ∙ R, rows_more _ _ _ _ _ _ l.invariant.2 W)
