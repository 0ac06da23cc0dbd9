-- `put_set` meets its contract. Assumes nothing.
use mathlib.Core.Path.{refl, ap, ◌∙◌}
use Prim.Native.Nat.{◌+◌}
use native.Mathlib.Omega.{arith}
use lib.ListN.{length, take, length-set}
use lib.Seq.{length-sets}
use Rattle.enumeration.proofs.Storing.{copy_if, put_copied}
use Rattle.enumeration.proofs.members.put_set.Goals as goal

pub loop-i-init : goal.loop-i-init
loop-i-init c = (omega arith, refl, refl)

pub put_member-requires : goal.put_member-requires
put_member-requires c = (omega arith, omega arith)

pub loop-i-preserved : goal.loop-i-preserved
loop-i-preserved c = let l = c.loop-i in
    let e = rw (l.invariant.2, ← copy_if c.args.sets.now c.args.at l.i c.args.first.now) at c.put_member.ensures in
    (omega arith, ap length e ∙ length-sets c.args.sets.now c.args.at (take (l.i + 1) c.args.first.now), e)

pub shape_of-sets : goal.shape_of-sets
shape_of-sets c = let l = c.loop-i in
    length-set l.sets (c.args.at + length c.args.first.now) c.member.result ∙ l.invariant.1

pub returns : goal.returns
returns c = let l = c.loop-i in
    put_copied _ l.sets c.args.at c.args.first.now c.args.d l.i c.member.result (omega arith) l.invariant.2 c.member.ensures
