-- `emit::put_word` meets its contract. Assumes nothing.
use Prim.Native.Nat.{◌+◌, ◌≤◌}
use native.Mathlib.Omega.{arith}
use lib.ListN.{length}
use Rattle.parity.proofs.Matrix.Ones.{trailing_lowest}
use Rattle.writing.proofs.Emitting.{wrote_length, emitting_none, emitting_end, emitting_room, emitting_next}
use Rattle.writing.proofs.emit.put_word.Goals as goal

pub loop-rest-init : goal.loop-rest-init
loop-rest-init c = emitting_none _ _ _ _ c.ranges.x.fits

pub offset_bounds-target-at : goal.offset_bounds-target-at
offset_bounds-target-at c = let k : c.loop-rest.at + 1 ≤ length c.args.target.now = omega (arith, emitting_room _ _ _ _ _ _ _ c.loop-rest.invariant _ (trailing_lowest 64 _ c.loop-rest.invariant.fits c.loop-rest-test.true), c.requires.0) in omega arith

pub bounds-target-at : goal.bounds-target-at
bounds-target-at c = let k : c.loop-rest.at + 1 ≤ length c.args.target.now = omega (arith, emitting_room _ _ _ _ _ _ _ c.loop-rest.invariant _ (trailing_lowest 64 _ c.loop-rest.invariant.fits c.loop-rest-test.true), c.requires.0) in
    omega (arith, wrote_length _ _ _ _ _ c.loop-rest.invariant.wrote)

pub overflow_add-at : goal.overflow_add-at
overflow_add-at c = let k : c.loop-rest.at + 1 ≤ length c.args.target.now = omega (arith, emitting_room _ _ _ _ _ _ _ c.loop-rest.invariant _ (trailing_lowest 64 _ c.loop-rest.invariant.fits c.loop-rest-test.true), c.requires.0) in omega arith

pub loop-rest-preserved : goal.loop-rest-preserved
loop-rest-preserved c = emitting_next _ _ _ _ _ _ _ c.loop-rest.invariant _ (trailing_lowest 64 _ c.loop-rest.invariant.fits c.loop-rest-test.true)

pub returns : goal.returns
returns c = emitting_end _ _ _ _ _ _ _ c.loop-rest.invariant c.loop-rest-test.false
