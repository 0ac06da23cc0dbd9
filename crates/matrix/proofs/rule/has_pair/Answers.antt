-- `rule::has_pair` meets its contract. Assumes nothing.
use mathlib.Core.Path.{◌∙◌}
use Prim.Native.Nat.{◌+◌, ◌*◌}
use native.Mathlib.Omega.{arith}
use Rattle.parity.proofs.Matrix.Lent.{row_room}
use Rattle.matrix.specs.Three.{paired}
use Rattle.matrix.proofs.rule.has_pair.Goals as goal

pub contains-requires : goal.contains-requires
contains-requires c = let r = c.row_of in
    (omega (arith, row_room c.args.width r.result (32 * c.args.width + 1) (omega (arith, r.ensures)), c.requires), c.place_of.ensures.1)

pub returns : goal.returns
unfolding paired
returns c = c.contains.ensures ∙ rw (c.place_of.ensures.0, c.row_of.ensures.0)
