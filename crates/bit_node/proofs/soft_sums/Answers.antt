-- `soft_sums` meets its contract. Assumes nothing.
use mathlib.Core.Path.{◌≡◌, refl}
use native.Mathlib.Omega.{arith}
use lib.ListN.{length}
use Rattle.bit_node.proofs.SoftAlone.{alone_none, alone_more}
use Rattle.bit_node.proofs.soft_sums.Goals as goal

pub loop-j-init : goal.loop-j-init
loop-j-init c = (refl, omega arith, alone_none _ _)

pub offset_bounds-floats-j : goal.offset_bounds-floats-j
offset_bounds-floats-j c = let l = c.loop-j in omega (arith, l.invariant.2.size)

pub bounds-floats-j : goal.bounds-floats-j
bounds-floats-j c = let l = c.loop-j in omega (arith, l.invariant.2.size)

pub add_to-requires : goal.add_to-requires
add_to-requires c = let l = c.loop-j in omega (arith, l.invariant.2.size)

pub offset_bounds-floats-j-in-loop-j : goal.offset_bounds-floats-j-in-loop-j
offset_bounds-floats-j-in-loop-j c = let l = c.loop-j in
    omega (arith, c.add_to.ensures.size, l.invariant.2.size)

pub bounds-floats-j-in-loop-j : goal.bounds-floats-j-in-loop-j
bounds-floats-j-in-loop-j c = let l = c.loop-j in
    omega (arith, c.add_to.ensures.size, l.invariant.2.size)

pub loop-j-preserved : goal.loop-j-preserved
loop-j-preserved c = let l = c.loop-j in
    (l.invariant.0, omega arith, alone_more _ _ l.j _ _ l.invariant.2 (omega arith) _ c.add_to.ensures)

pub shape_of-floats : goal.shape_of-floats
shape_of-floats c = c.loop-j.invariant.2.size

pub returns : goal.returns
returns c = let l = c.loop-j in
    let e : l.j ≡ length c.args.floats.now = omega arith in
    rw e at l.invariant.2
