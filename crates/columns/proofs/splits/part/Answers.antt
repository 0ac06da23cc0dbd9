-- `part` meets its contract. Assumes nothing.
use mathlib.Core.Path.{◌≡◌, ◌∙◌}
use native.Mathlib.Omega.{arith}
use Rattle.columns.proofs.Splitting.{parted_local, words_next, words_all}
use Rattle.columns.proofs.splits.part.Goals as goal

pub loop-i-preserved : goal.loop-i-preserved
loop-i-preserved c = let l = c.loop-i in
    let told = c.part_word in
    (omega arith, told.auto.cols ∙ l.invariant.1, words_next _ (parted_local _ _ _) _ _ _ _ l.invariant.2 told.ensures)

pub returns : goal.returns
returns c = let s = c.args in
    let e : c.loop-i.i ≡ s.width = omega arith in
    record { at = words_all _ (parted_local _ _ _) s.width s.cols.now _ (rw e at c.loop-i.invariant.2) }
