-- `write_ones` meets its contract. Assumes nothing.
use native.Mathlib.Omega.{arith}
use Rattle.parity.proofs.Matrix.Ones.{trailing_lowest}
use Rattle.result.proofs.Writing.{writing_all, writing_place, writing_next}
use Rattle.result.proofs.write_ones.Goals as goal

pub bounds-word-b : goal.bounds-word-b
bounds-word-b c = let L = trailing_lowest 64 _ c.loop-rest.invariant.fits c.loop-rest-test.true in
    omega (arith, c.loop-rest.invariant.size, writing_place _ _ _ _ _ _ c.loop-rest.invariant _ L c.requires.3)

pub loop-rest-preserved : goal.loop-rest-preserved
loop-rest-preserved c = let L = trailing_lowest 64 _ c.loop-rest.invariant.fits c.loop-rest-test.true in
    let p = writing_place _ _ _ _ _ _ c.loop-rest.invariant _ L c.requires.3 in
    writing_next _ _ _ _ _ _ c.loop-rest.invariant _ L _ p c.byte_at.ensures

pub returns : goal.returns
returns c = writing_all _ _ _ _ _ _ c.loop-rest.invariant c.loop-rest-test.false
