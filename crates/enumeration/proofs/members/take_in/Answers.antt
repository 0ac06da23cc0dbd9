-- `take_in` meets its contract. Assumes nothing.
use native.Mathlib.Omega.{arith}
use Rattle.enumeration.proofs.Storing.{put_not}
use Rattle.enumeration.proofs.members.take_in.Goals as goal

pub put_set-requires : goal.put_set-requires
put_set-requires c = let k = rw c.if-write.true at c.requires.1 in
    (omega arith, omega arith, omega arith)

pub returns-then-write : goal.returns-then-write
returns-then-write c = rw c.if-write.true c.put_set.ensures

pub returns : goal.returns
returns c = put_not c.args.write c.args.sets.now c.args.at c.args.first.now c.args.d c.if-write.false
