-- `added::add_bits` meets its contract. Assumes nothing.
use native.Mathlib.Omega.{arith}
use lib.ListN.{length-set}
use Rattle.parity.specs.Matrix.{lent}
use Rattle.extend.proofs.Lower.{extended_none, extended_more}
use Rattle.extend.proofs.added.add_bits.Goals as goal

pub loop-j-init : goal.loop-j-init
loop-j-init c = (omega arith, c.requires.1, extended_none (lent 8 c.args.words.now) _ _ _ c.requires.2)

pub loop-j-preserved : goal.loop-j-preserved
loop-j-preserved c = let l = c.loop-j in
    (omega arith, simp length-set l.invariant.1, extended_more _ _ _ _ _ _ l.invariant.2 _ (omega (arith, l.invariant.1)) c.added_bit-bit.ensures)
