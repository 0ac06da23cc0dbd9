-- `write` meets its contract. Assumes nothing.
use native.Mathlib.Omega.{arith}
use Rattle.result.proofs.Writing.{masked_below, filling_next, filling_all}
use Rattle.result.proofs.write.Goals as goal

pub write_ones-requires : goal.write_ones-requires
write_ones-requires c = (omega arith, c.requires.0, omega (arith, c.requires.3), rw c.loop-i.invariant.1.size (masked_below _ c.args.lost.now _ _ _ (omega arith) c.requires.4))

pub loop-i-preserved : goal.loop-i-preserved
loop-i-preserved c = (omega arith, filling_next _ _ _ _ (omega arith) (c.type_inv.erased _).fits _ _ _ _ c.loop-i.invariant.1 c.write_ones.ensures)

pub returns : goal.returns
returns c = filling_all _ _ _ _ _ _ _ (omega arith) c.loop-i.invariant.1
