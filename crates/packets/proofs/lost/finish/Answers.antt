-- `lost::finish` meets its contract. Assumes nothing.
use mathlib.Core.Path.{ap, ◌∙◌}
use Prim.Native.Nat.{◌≤◌}
use native.Mathlib.Nat.{mul-le-mul_right}
use lib.ListN.{length}
use Rattle.plan.proofs.Aloning.{listed_first}
use Rattle.residue.proofs.Solving.{few_words}
use Rattle.lanes.proofs.Mending.{no_packet}
use Rattle.packets.proofs.Readying.{ready_made, plan_made}
use Rattle.packets.proofs.Setting.{set_mended}
use native.Mathlib.Omega.{arith}
use Rattle.packets.proofs.lost.finish.Goals as goal

pub mend-requires : goal.mend-requires
mend-requires c = let R = c.requires.rooms.0 in
    let g = c.gather-end in
    let d = c.reduce_in-r in
    let a = c.list_alone-more in
    let w = few_words c.args.p.checks c.args.p.used R.checks R.used in
    let b : c.args.p.bits ≤ 512 = omega (arith, R.used, R.bits) in
    let f : a.result ≤ length a.new.steps = omega (arith, a.ensures.few, d.ensures.form.few, g.ensures.few, R.checks, a.auto.steps) in (
      record {
        fits = record {
          words = R.words;
          used = R.used;
          checks = R.checks;
          skip = R.skip;
          rows = omega (arith, d.auto.rows, g.auto.rows, w, mul-le-mul_right c.args.p.used g.ensures.few);
          end = omega (arith, g.ensures.few, R.checks);
        };
        ready = ready_made _ _ _ _ b R.used R.bits _ c.requires.short.0 _ _ _ _ _ c.requires.short.1 _ _ _ _ _ g.ensures d.ensures _ c.requires.rooms.1 _ _ _ _ (listed_first _ _ _ _ _ _ _ a.new.steps _ f a.ensures);
        bits = R.bits;
      },
      record {
        lost = R.lost;
        left = a.auto.left ∙ ap length c.requires.rooms.1 ∙ R.left;
        packets = R.packets;
        some = R.some;
        most = R.most;
        room = R.tile;
      },
    )

pub returns : goal.returns
returns c = let R = c.requires.rooms.0 in
    let g = c.gather-end in
    let d = c.reduce_in-r in
    let a = c.list_alone-more in
    let b : c.args.p.bits ≤ 512 = omega (arith, R.used, R.bits) in
    let f : a.result ≤ length a.new.steps = omega (arith, a.ensures.few, d.ensures.form.few, g.ensures.few, R.checks, a.auto.steps) in
    set_mended _ _ _ _ _ _ _ _ _ _ _ _ c.requires.short.0 (no_packet (length c.args.odd.now) c.args.p.bits c.args.packets.now R.packets)
    (plan_made _ _ _ _ b R.used R.bits _ c.requires.short.0 _ _ _ _ _ c.requires.short.1 _ _ _ _ _ g.ensures d.ensures _ c.requires.rooms.1 _ _ _ _ (listed_first _ _ _ _ _ _ _ a.new.steps _ f a.ensures))
    c.mend.ensures
