-- `is_odd` meets its contract. Assumes nothing.
use Rattle.parity.proofs.Words.Sets.{inside_word, ones_xor}
use Rattle.parity.specs.Words.{inside, odd}
use lib.Count.{ones as onesOf}
use lib.Bits.{and_le_l, xor_lt, and_mask}
use borrow.Author.Rules.{rules}
use native.Mathlib.Omega.{arith}
use Prim.Native.Nat.{◌+◌, ◌*◌}
use mathlib.Core.Path.{◌≡◌, ap, ◌∙◌}
use lib.ListN.{get_or}
use lib.Dec.{eqb}
use Rattle.parity.specs.Finite.{sum, count}
use native.Mathlib.Nat.{lt_of_le_of_lt}
use Rattle.rows.proofs.is_odd.Goals as goal

pub loop-i-init : goal.loop-i-init
unfolding inside count sum onesOf
loop-i-init c = search rules

pub loop-i-preserved : goal.loop-i-preserved
loop-i-preserved c = let l = c.loop-i in
    let k = c.type_inv.rows (c.args.c * c.args.width + l.i) in
    let f = lt_of_le_of_lt (and_le_l (get_or c.args.rows.now (c.args.c * c.args.width + l.i) 0) (get_or c.args.set.now l.i 0)) k.fits in
    let next = inside_word c.args.width c.args.rows.now c.args.set.now c.args.c l.i (omega arith) k.fits in
    (omega arith, xor_lt 64 _ _ l.invariant.1 f, omega (arith, ones_xor 64 _ _ l.invariant.1 f))

pub returns : goal.returns
unfolding odd
returns c = let e : c.loop-i.i ≡ c.args.used = omega arith in
    ap (λ a. eqb a 1) (and_mask _ 1 ∙ (rw e at c.loop-i.invariant.2))
