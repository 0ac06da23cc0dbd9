-- `look` meets its contract. Assumes nothing.
use Rattle.check_node.proofs.Two.{seen_none_lem, seen_next, seen_room}
use lib.ListN.{length}
use native.Mathlib.Omega.{arith}
use mathlib.Core.Path.{◌≡◌, refl, sym, ◌∙◌}
use Rattle.check_node.proofs.look.Goals as goal

pub loop-i-init : goal.loop-i-init
loop-i-init c = (refl, omega arith, c.none_seen-s.ensures ∙ sym (seen_none_lem _ _))

pub see_one-s-requires : goal.see_one-s-requires
see_one-s-requires c = let l = c.loop-i in seen_room _ _ l.i _ l.invariant.2 (omega arith)

pub loop-i-preserved : goal.loop-i-preserved
loop-i-preserved c = let l = c.loop-i in
    (l.invariant.0, omega arith, c.see_one-s.ensures ∙ (rw (seen_next, l.invariant.2, c.message.ensures)))

pub returns : goal.returns
returns c = let l = c.loop-i in
    let e : l.i ≡ length c.args.tags.now = omega arith in
    rw (← l.invariant.0) (rw e at l.invariant.2)
