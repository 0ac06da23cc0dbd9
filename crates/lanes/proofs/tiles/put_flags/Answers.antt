-- `tiles::put_flags` meets its contract. Assumes nothing.
use native.Mathlib.Omega.{arith}
use Rattle.rows.proofs.Writing.{written_copy}
use Rattle.lanes.proofs.Writing.{flagged_all}
use Rattle.lanes.proofs.tiles.put_flags.Goals as goal

pub returns : goal.returns
returns c = let s = c.args in
    flagged_all _ _ _ _ _ _ c.requires.0 c.requires.1 (written_copy _ s.flags.now _ s.t.from 0 s.t.count s.t.count _ (omega arith) (omega arith) (omega arith) (omega arith) c.copy_from_slice.ensures.after)
