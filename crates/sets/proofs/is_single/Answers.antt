-- `is_single` meets its contract. Assumes nothing.
use Prim.Native.Nat.{◌+◌, ◌*◌}
use native.Mathlib.Nat.{lt_of_le_of_lt}
use native.Mathlib.Omega.{arith}
use lib.Bits.{and_le_l}
use lib.ListN.{get_or}
use Rattle.parity.specs.Finite.{sum, count}
use Rattle.parity.specs.Words.{inside}
use Rattle.parity.proofs.Words.Sets.{inside_word}
use Rattle.sets.proofs.Single.{seen_none, seen_more}
use Rattle.sets.proofs.is_single.Goals as goal

pub loop-i-init : goal.loop-i-init
unfolding inside count sum
loop-i-init c = (omega arith, seen_none)

pub loop-i-preserved : goal.loop-i-preserved
loop-i-preserved c = let l = c.loop-i in
    let k = c.type_inv.words (c.args.c.0 * 8 + l.i) in
    let f = lt_of_le_of_lt (and_le_l (get_or c.args.words.now (c.args.c.0 * 8 + l.i) 0) (get_or c.args.set.now l.i 0)) k.fits in
    (omega arith, rw (inside_word 8 c.args.words.now c.args.set.now c.args.c.0 l.i (omega arith) k.fits) (seen_more _ _ _ _ f l.invariant.1))
