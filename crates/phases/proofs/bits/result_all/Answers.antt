-- `result_all` meets its contract. Assumes nothing.
use Rattle.messages.proofs.Places.{laid_same}
use Rattle.bit_row.proofs.Row.{low_none, low_more}
use Rattle.phases.proofs.Sends.{result_at}
use Rattle.soft.proofs.Places.{partly_start, partly_more, partly_all}
use Rattle.messages.specs.Memory.{across}
use Rattle.parity.specs.Soft.{message_at}
use Rattle.parity.specs.Matrix.{lent}
use native.Mathlib.Omega.{arith}
use mathlib.Core.Path.{sym, ◌∙◌}
use Rattle.phases.proofs.bits.result_all.Goals as goal

pub loop-b-init : goal.loop-b-init
loop-b-init c = (omega arith, c.requires.inner.1, low_none _ _, partly_start _ _ _ c.requires.inner.0.same)

pub message-v-requires : goal.message-v-requires
message-v-requires c = let P = c.loop-b.invariant.3 in
    let k = c.loop-b-test.true in
    (omega (arith, k, P.tags), omega (arith, k, P.values))

pub bit_result-r-requires : goal.bit_result-r-requires
bit_result-r-requires c = let l = c.loop-b in
    let L = laid_same _ _ _ _ c.requires.laid_across.0 _ _ l.invariant.2.tags l.invariant.2.values in
    record { laid_across = (L, c.requires.laid_across.1); at_bit = (omega (arith, c.loop-b-test.true, c.requires.inner.0.most), l.invariant.1) }

pub put-requires : goal.put-requires
put-requires c = let P = c.loop-b.invariant.3 in
    let k = c.loop-b-test.true in
    (omega (arith, k, P.tags), omega (arith, k, P.values))

pub overflow_step-b : goal.overflow_step-b
overflow_step-b c = omega (arith, c.loop-b-test.true, c.requires.inner.0.most)

pub loop-b-preserved : goal.loop-b-preserved
loop-b-preserved c = let l = c.loop-b in
    let h = across (lent 8 c.args.cols.now) in
    let k = c.loop-b-test.true in
    let R = c.bit_result-r.ensures in
    let P = c.put.ensures in
    let m = c.message-v.ensures ∙ l.invariant.3.rest l.b (omega arith) k in
    let e = result_at h 512 c.args.checks l.b (message_at c.args.word.now c.args.floats.now) _ _ _ _ l.invariant.2 c.requires.laid_across.0.room c.requires.laid_across.1.most
    (omega (arith, k, c.requires.inner.0.most)) _ _ R.value m in
    (omega (arith, k), R.cursors, low_more _ _ _ _ l.invariant.2 _ _ R.low, rw (P.tags_after, P.values_after, e) (partly_more _ _ _ _ _ _ l.invariant.3 k))

pub shape_of-word : goal.shape_of-word
shape_of-word c = c.loop-b.invariant.3.tags

pub shape_of-floats : goal.shape_of-floats
shape_of-floats c = c.loop-b.invariant.3.values ∙ sym c.requires.inner.0.same

pub shape_of-at : goal.shape_of-at
shape_of-at c = c.loop-b.invariant.1.size ∙ sym c.requires.inner.1.size

pub shape_of-tags : goal.shape_of-tags
shape_of-tags c = c.loop-b.invariant.2.tags

pub shape_of-values : goal.shape_of-values
shape_of-values c = c.loop-b.invariant.2.values

pub returns : goal.returns
returns c = let l = c.loop-b in partly_all _ _ _ _ _ _ l.invariant.3 (omega (arith, c.loop-b-test.false, l.invariant.0))
