-- `send_all` meets its contract. Assumes nothing.
use Rattle.messages.proofs.Places.{laid_same, above_none, above_more}
use Rattle.phases.proofs.Sends.{sent_none, sent_more}
use Rattle.messages.specs.Memory.{across}
use Rattle.parity.specs.Matrix.{lent}
use native.Mathlib.Omega.{arith}
use mathlib.Core.Path.{◌≡◌, sym, ◌∙◌}
use lib.ListN.{length}
use Rattle.phases.proofs.bits.send_all.Goals as goal

pub loop-b-init : goal.loop-b-init
loop-b-init c = let M = c.requires.laid_across.0.memory in
    (omega arith, c.requires.inner.1, sent_none _ _ _ _ _ M.tags M.values, above_none _ _ _ _)

pub message-v-requires : goal.message-v-requires
message-v-requires c = let k = c.loop-b-test.true in (omega (arith, k), omega (arith, k, c.requires.inner.0.same))

pub bit_sends-requires : goal.bit_sends-requires
bit_sends-requires c = let l = c.loop-b in
    let M = c.requires.laid_across.0.memory in
    let L = laid_same _ _ _ _ c.requires.laid_across.0 _ _ (l.invariant.2.tags ∙ sym M.tags) (l.invariant.2.values ∙ sym M.values) in
    record { laid_across = (L, c.requires.laid_across.1); at_bit = (omega (arith, c.loop-b-test.true, c.requires.inner.0.most), l.invariant.1) }

pub overflow_step-b : goal.overflow_step-b
overflow_step-b c = omega (arith, c.loop-b-test.true, c.requires.inner.0.most)

pub loop-b-preserved : goal.loop-b-preserved
loop-b-preserved c = let l = c.loop-b in
    let h = across (lent 8 c.args.cols.now) in
    let k = c.loop-b-test.true in
    let B = rw c.message-v.ensures at c.bit_sends.ensures.bit_sent in
    (omega (arith, k), c.bit_sends.ensures.cursors, sent_more h c.args.checks l.b _ _ _ _ (omega (arith, k, c.requires.inner.0.most)) l.invariant.2 _ _ B, above_more h 512 _ _ _ _ l.invariant.3 _ _ B.above)

pub shape_of-at : goal.shape_of-at
shape_of-at c = c.loop-b.invariant.1.size ∙ sym c.requires.inner.1.size

pub shape_of-tags : goal.shape_of-tags
shape_of-tags c = c.loop-b.invariant.2.tags ∙ sym c.requires.laid_across.0.memory.tags

pub shape_of-values : goal.shape_of-values
shape_of-values c = c.loop-b.invariant.2.values ∙ sym c.requires.laid_across.0.memory.values

pub returns : goal.returns
returns c = let l = c.loop-b in
    let e : l.b ≡ length c.args.word.now = omega (arith, c.loop-b-test.false, l.invariant.0) in
    record { sent_all = rw e at l.invariant.2; above = l.invariant.3 }
