-- `add_to` meets its contract. Assumes nothing.
use mathlib.Core.Path.{◌≡◌}
use native.Mathlib.Omega.{arith}
use Rattle.bit_node.proofs.SoftAlone.{added_none, added_more}
use Rattle.bit_node.proofs.add_to.Goals as goal

pub loop-t-init : goal.loop-t-init
loop-t-init c = (omega arith, added_none _ _)

pub offset_bounds-floats-t : goal.offset_bounds-floats-t
offset_bounds-floats-t c = let l = c.loop-t in omega (arith, l.invariant.1.size)

pub bounds-floats-t : goal.bounds-floats-t
bounds-floats-t c = let l = c.loop-t in omega (arith, l.invariant.1.size)

pub bounds-floats-t-in-loop-t : goal.bounds-floats-t-in-loop-t
bounds-floats-t-in-loop-t c = let l = c.loop-t in omega (arith, l.invariant.1.size)

pub loop-t-preserved : goal.loop-t-preserved
loop-t-preserved c = let l = c.loop-t in (omega arith, added_more _ _ l.t _ l.invariant.1 (omega (arith, l.invariant.1.size)))

pub shape_of-floats : goal.shape_of-floats
shape_of-floats c = c.loop-t.invariant.1.size

pub returns : goal.returns
returns c = let l = c.loop-t in
    let e : l.t ≡ c.args.j = omega arith in
    rw e at l.invariant.1
