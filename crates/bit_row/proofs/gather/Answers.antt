-- `gather` meets its contract. Assumes nothing.
use Rattle.bit_row.proofs.Cursor.{gathering_none, gathering_end, gathering_now, gathering_more}
use Rattle.messages.proofs.Places.{laid_same}
use native.Mathlib.Omega.{arith}
use Prim.Native.Nat.{◌+◌, ◌*◌, ◌<◌}
use mathlib.Core.Path.{◌≡◌, sym, ◌∙◌}
use Rattle.bit_row.proofs.gather.Goals as goal

pub loop-i-init : goal.loop-i-init
loop-i-init c = (omega arith, gathering_none _ _ _ _ _ _ c.requires.at_bit.1)

pub gather_word-d-requires : goal.gather_word-d-requires
gather_word-d-requires c = let l = c.loop-i in
    let t = c.loop-i-test.true in
    let G = gathering_now _ 512 c.args.b _ _ _ _ _ _ _ l.invariant.1 c.requires.laid_across.0.room c.requires.at_bit.0 (omega (arith, l.invariant.0)) in
    record { laid = laid_same _ _ _ _ c.requires.laid_across.0 _ _ l.invariant.1.low.tags l.invariant.1.low.values; b_bound = (c.requires.at_bit.0, omega (arith, t, c.requires.laid_across.1.most), G) }

pub loop-i-preserved : goal.loop-i-preserved
loop-i-preserved c = let l = c.loop-i in
    let k : l.i < 8 = omega (arith, c.loop-i-test.true, c.requires.laid_across.1.most) in
    let e : l.i * 64 + 64 ≡ (l.i + 1) * 64 = omega arith in
    let E = rw e at c.gather_word-d.ensures in
    (omega (arith, k), gathering_more _ 512 c.args.b _ _ _ _ _ _ _ l.invariant.1 c.requires.laid_across.0.room c.requires.at_bit.0 _ _ _ _ _ (omega (arith, k)) E)

pub shape_of-at : goal.shape_of-at
shape_of-at c = c.loop-i.invariant.1.moving.size ∙ sym c.requires.at_bit.1.size

pub shape_of-tags : goal.shape_of-tags
shape_of-tags c = c.loop-i.invariant.1.low.tags

pub shape_of-values : goal.shape_of-values
shape_of-values c = c.loop-i.invariant.1.low.values

pub returns : goal.returns
returns c = gathering_end _ _ _ _ _ _ _ _ _ _ c.loop-i.invariant.1 _ c.requires.laid_across.1 (omega (arith, c.loop-i-test.false))
