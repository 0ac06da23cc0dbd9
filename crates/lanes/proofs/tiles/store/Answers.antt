-- `tiles::store` meets its contract. Assumes nothing.
use Rattle.lanes.proofs.Writing.{unflagged}
use Rattle.parity.proofs.Matrix.Lent.{row_room}
use native.Mathlib.Omega.{arith}
use Rattle.lanes.proofs.tiles.store.Goals as goal

pub give_back-requires : goal.give_back-requires
give_back-requires c = let l = c.loop-b in (
  record {
    packet = omega (arith, l.invariant.1, row_room c.args.t.len l.b c.args.bits (omega arith));
    part = c.requires.0.part;
    few = c.requires.0.few;
    row = omega (arith, row_room c.args.t.lanes l.b c.args.bits (omega arith));
  },
  c.requires.3,
  unflagged _ _ _ c.touches-some.ensures,
)
