-- `rule::put_pair` meets its contract. Assumes nothing.
use Prim.Native.Nat.{◌+◌, ◌*◌}
use native.Mathlib.Omega.{arith}
use Rattle.parity.proofs.Matrix.Lent.{row_room}
use Rattle.matrix.proofs.Pairs.{pair_in_lem}
use Rattle.matrix.proofs.rule.put_pair.Goals as goal

pub raise-requires : goal.raise-requires
raise-requires c = let r = c.row_of in
    (omega (arith, row_room c.args.width r.result (32 * c.args.width + 1) (omega (arith, r.ensures)), c.requires), c.place_of.ensures.1)

pub returns : goal.returns
returns c = pair_in_lem c.args.width _ _ c.args.a c.args.b (omega (arith, c.requires)) (omega (arith, c.requires))
    (rw (c.place_of.ensures.0, c.row_of.ensures.0) at c.raise.ensures)
