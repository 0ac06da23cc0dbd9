-- `scatter` meets its contract. Assumes nothing.
use Rattle.messages.proofs.Places.{laid_same, none_counted}
use Rattle.bit_row.proofs.Row.{spread_none, spread_more, spread_end}
use native.Mathlib.Omega.{arith}
use Prim.Native.Nat.{◌+◌, ◌*◌, ◌<◌}
use mathlib.Core.Path.{◌≡◌}
use Rattle.bit_row.proofs.scatter.Goals as goal

pub loop-i-init : goal.loop-i-init
loop-i-init c = (omega arith, none_counted _, spread_none _ _ _ _ _ _)

pub scatter_word-d-requires : goal.scatter_word-d-requires
scatter_word-d-requires c = let l = c.loop-i in
    let t = c.loop-i-test.true in
    record { laid = laid_same _ _ _ _ c.requires.laid_across.0 _ _ l.invariant.2.tags l.invariant.2.values; b_bound = (c.requires.b_bound.0, omega (arith, t, c.requires.laid_across.1.most), c.requires.b_bound.1, l.invariant.1) }

pub loop-i-preserved : goal.loop-i-preserved
loop-i-preserved c = let l = c.loop-i in
    let k : l.i < 8 = omega (arith, c.loop-i-test.true, c.requires.laid_across.1.most) in
    let e : l.i * 64 + 64 ≡ (l.i + 1) * 64 = omega arith in
    let E = rw e at c.scatter_word-d.ensures in
    (omega (arith, k), E.value, spread_more _ _ _ _ _ _ (l.i * 64) _ _ l.invariant.2 _ _ _ c.requires.b_bound.0 (omega arith) (omega arith) E.spread)

pub shape_of-tags : goal.shape_of-tags
shape_of-tags c = c.loop-i.invariant.2.tags

pub shape_of-values : goal.shape_of-values
shape_of-values c = c.loop-i.invariant.2.values

pub returns : goal.returns
returns c = spread_end _ _ _ _ _ _ _ _ _ c.loop-i.invariant.2 _ c.requires.laid_across.1 (omega (arith, c.loop-i-test.false))
