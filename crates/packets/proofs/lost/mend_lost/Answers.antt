-- `lost::mend_lost` meets its contract. Assumes nothing.
use mathlib.Core.Path.{refl, sym, ◌∙◌}
use Rattle.parity.proofs.Matrix.Lent.{lent_empty}
use Rattle.sets.proofs.Short.{short_wider}
use native.Mathlib.Omega.{arith}
use Rattle.std.proofs.lemmas.List.{length-take-le}
use Rattle.packets.proofs.Readying.{peeled_first, few_steps}
use Rattle.packets.proofs.lost.mend_lost.Goals as goal

pub settle-count-requires : goal.settle-count-requires
settle-count-requires c = let q = c.requires.words_len in
    record { words_len = (q.0, q.3, q.4, refl, q.1, refl, short_wider _ _ _ q.2 q.6); empty = record { at = λ c b. lent_empty 8 8 _ refl c b } }

pub slice_bounds-steps-end : goal.slice_bounds-steps-end
slice_bounds-steps-end c = let t = c.settle-count in few_steps _ _ _ _ _ t.new.steps _ _ (omega (arith, c.requires.words_len.1, t.auto.steps)) t.ensures

pub slice_bounds-steps-end-2 : goal.slice_bounds-steps-end-2
slice_bounds-steps-end-2 c = let t = c.settle-count in
    sym (length-take-le t.result t.new.steps (few_steps _ _ _ _ _ t.new.steps _ _ (omega (arith, c.requires.words_len.1, t.auto.steps)) t.ensures))

pub finish_peeled-requires : goal.finish_peeled-requires
finish_peeled-requires c = let q = c.requires.words_len in
    let l = c.requires.lanes_nonzero in
    let t = c.settle-count in
    let j = c.join_touched in
    record { rooms = (record { words = q.0; used = q.1; bits = q.2; checks = q.3; lost = q.4; left = t.auto.erased ∙ q.4; skip = j.auto.done ∙ t.auto.done; packets = q.5; some = l.0; most = l.1; tile = l.2 }, sym c.size.ensures ∙ c.if-size-eq0.true); short = (q.6, peeled_first _ _ _ _ _ t.new.steps _ _ (omega (arith, q.1, t.auto.steps)) t.ensures _ j.ensures) }

pub finish-requires : goal.finish-requires
finish-requires c = let q = c.requires.words_len in
    let l = c.requires.lanes_nonzero in
    let t = c.settle-count in
    let j = c.join_touched in
    record { rooms = (record { words = q.0; used = q.1; bits = q.2; checks = q.3; lost = q.4; left = t.auto.erased ∙ q.4; skip = j.auto.done ∙ t.auto.done; packets = q.5; some = l.0; most = l.1; tile = l.2 }, refl); short = (q.6, peeled_first _ _ _ _ _ t.new.steps _ _ (omega (arith, q.1, t.auto.steps)) t.ensures _ j.ensures) }
