-- `range_of` meets its contract. Assumes nothing.
use Rattle.parity.proofs.SoftRange.Law.{range_first, range_more}
use lib.ListN.{length}
use native.Mathlib.Omega.{arith}
use mathlib.Core.Path.{◌≡◌, refl, sym, ◌∙◌}
use Rattle.min_sum_range.proofs.combine.range_of.Goals as goal

pub loop-i-init : goal.loop-i-init
loop-i-init c = (refl, omega arith, omega arith, rw (c.plus_zero.ensures, c.plus_zero-2.ensures, range_first))

pub loop-i-preserved : goal.loop-i-preserved
loop-i-preserved c = let l = c.loop-i in
    (refl, omega arith, omega arith, c.combine_ends-e.ensures ∙ (rw l.invariant.3 (sym (range_more _ _ l.i l.invariant.1))))

pub returns : goal.returns
returns c = let l = c.loop-i in
    let e : l.i ≡ length c.args.lows.now = omega arith in
    rw e at l.invariant.3
