-- `mend::mend_tile` meets its contract. Assumes nothing.
use lib.ListN.{length}
use Rattle.parity.specs.Matrix.{lent}
use Rattle.lanes.proofs.Mending.{no_packet, empty_still, tile_mended}
use Rattle.lanes.proofs.mend.mend_tile.Goals as goal

pub returns : goal.returns
returns c = let C = c.requires.carried.0 in
    let r = c.part-count.ensures in
    let u = no_packet (length c.args.odd.now) c.args.p.bits c.args.packets.now c.requires.carried.1.packets in
    let X = c.run-flags.ensures.1 in
    let L = c.load.ensures in (
      r.0,
      r.2,
      empty_still _ _ _ _ _ _ C.ready _ (lent 8 c.args.left.now 0) _ _ _ (lent (length c.args.odd.now) c.store.new.packets) _ _ _ _ c.requires.empty.0 L u X,
      tile_mended _ _ _ _ _ _ C.ready _ _ _ _ _ _ _ _ _ _ c.requires.empty.0 L u X c.store.ensures _ _ c.put_flags.ensures,
    )
