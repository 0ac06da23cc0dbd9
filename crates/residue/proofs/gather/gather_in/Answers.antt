-- `gather::gather_in` meets its contract. Assumes nothing.
use mathlib.Core.Path.{◌∙◌}
use native.Mathlib.Omega.{arith}
use Rattle.rows.proofs.Writing.{copied_row, row_others}
use Rattle.residue.proofs.Gathering.{not_touched, gathered_past, gathered_more}
use Rattle.residue.proofs.gather.gather_in.Goals as goal
use Rattle.residue.proofs.gather.gather_in.Goals.{then-touches, else-touches}

pub loop-c-preserved : goal.loop-c-preserved
loop-c-preserved c = let l = c.loop-c in
    (elim c.if-touches.branch [
      | then-touches w ↦ rw (w.rows-is, w.count-is) (
        omega arith,
        w.copy_words.ensures.long ∙ l.invariant.1,
        gathered_more _ _ _ _ _ _ l.invariant.2 _ (copied_row 8 _ c.requires.3 _ _ _ _ _ w.copy_words.ensures) (λ d b k _. row_others _ _ _ (omega arith) _ _ _ w.copy_words.ensures d b (λ e. omega arith)),
      )
      | else-touches w ↦ rw (w.rows-is, w.count-is) (
        omega arith,
        l.invariant.1,
        gathered_past _ _ _ _ _ _ l.invariant.2 (not_touched _ _ c.touches.ensures w.if-touches.false),
      )
    ])
