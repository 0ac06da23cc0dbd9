-- `sums::add_word` meets its contract. Assumes nothing.
use mathlib.Core.Path.{refl, ◌∙◌}
use Prim.Native.Nat.{ℕ, ◌+◌, ◌*◌, ◌<◌}
use native.Mathlib.Omega.{arith}
use Rattle.parity.proofs.Matrix.Lent.{row_room}
use Rattle.parity.proofs.Matrix.Ones.{trailing_lowest}
use Rattle.lanes.proofs.Adding.{rest_none, rest_next}
use Rattle.lanes.proofs.sums.add_word.Goals as goal

below : (a t : ℕ) → t < 64 → a + t < a + 64
below a t k = omega arith

pub add_row-requires : goal.add_row-requires
add_row-requires c = let L = trailing_lowest 64 _ c.loop-rest.invariant.1.fits c.loop-rest-test.true in
    (omega (arith, c.loop-rest.invariant.0), omega (arith, row_room c.args.lanes _ (c.args.i * 64 + 64) (below (c.args.i * 64) _ L.short)))

pub loop-rest-preserved : goal.loop-rest-preserved
loop-rest-preserved c = let L = trailing_lowest 64 _ c.loop-rest.invariant.1.fits c.loop-rest-test.true in
    (c.add_row.auto.rows ∙ c.loop-rest.invariant.0, rest_next _ _ _ _ _ _ _ _ _ c.loop-rest.invariant.1 L refl c.add_row.ensures)

pub returns : goal.returns
returns c = rest_none _ _ _ _ _ _ c.loop-rest-test.false c.loop-rest.invariant.1
