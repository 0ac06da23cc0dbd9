-- `rule::in_circulant` meets its contract. Assumes nothing.
use mathlib.Core.Path.{◌≡◌, refl, sym, ◌∙◌}
use native.Mathlib.Omega.{arith}
use Rattle.parity.specs.House.{at_offsets, circulant}
use Rattle.house.proofs.Generated.{offset_small, offset_here, offset_on}
use Rattle.house.proofs.rule.in_circulant.Goals as goal

pub loop-e-init : goal.loop-e-init
loop-e-init c = unfold circulant in refl

pub overflow_add-c : goal.overflow_add-c
overflow_add-c c = let k = offset_small c.loop-e.e-index (omega arith) in record { fits = omega arith }

pub returns-then-c-e : goal.returns-then-c-e
returns-then-c-e c = let l = c.loop-e in
    sym (l.invariant ∙ offset_here l.e-index _ _ (omega arith) c.if-c-e.true)

pub loop-e-preserved : goal.loop-e-preserved
loop-e-preserved c = let l = c.loop-e in l.invariant ∙ offset_on l.e-index _ _ (omega arith) c.if-c-e.false

pub returns : goal.returns
unfolding at_offsets
returns c = let l = c.loop-e in
    let e : l.e-index ≡ 8 = omega arith in
    sym (l.invariant ∙ rw e)
