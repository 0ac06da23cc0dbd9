-- `lost::finish_peeled` meets its contract. Assumes nothing.
use Prim.Native.Nat.{◌≤◌}
use lib.ListN.{length}
use Rattle.lanes.proofs.Mending.{no_packet}
use Rattle.packets.proofs.Readying.{plan_peeled}
use Rattle.packets.proofs.Setting.{set_mended}
use native.Mathlib.Omega.{arith}
use Rattle.packets.proofs.lost.finish_peeled.Goals as goal

pub returns : goal.returns
returns c = let R = c.requires.rooms.0 in
    let b : c.args.p.bits ≤ 512 = omega (arith, R.used, R.bits) in
    set_mended _ _ _ _ _ _ _ _ _ _ _ _ c.requires.short.0 (no_packet (length c.args.odd.now) c.args.p.bits c.args.packets.now R.packets)
    (plan_peeled _ _ _ _ b R.used R.bits _ c.requires.short.0 _ _ _ _ _ c.requires.short.1 c.requires.rooms.1 _)
    c.mend.ensures
