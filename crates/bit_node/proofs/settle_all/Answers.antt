-- `settle_all` meets its contract. Assumes nothing.
use Rattle.soft.proofs.Places.{partly_start, partly_more, partly_all}
use Rattle.parity.specs.Soft.{settled}
use native.Mathlib.Omega.{arith}
use mathlib.Core.Path.{refl, sym, ap, ◌∙◌}
use Rattle.bit_node.proofs.settle_all.Goals as goal

pub loop-t-init : goal.loop-t-init
loop-t-init c = (refl, omega arith, partly_start _ _ _ (sym c.requires))

pub message-requires : goal.message-requires
message-requires c = let l = c.loop-t in omega (arith, l.invariant.2.tags, l.invariant.2.values)

pub put-requires : goal.put-requires
put-requires c = let l = c.loop-t in omega (arith, l.invariant.2.tags, l.invariant.2.values)

pub loop-t-preserved : goal.loop-t-preserved
loop-t-preserved c = let l = c.loop-t in
    let e = c.settle-w.ensures ∙ ap (λ w. settled w) (c.message.ensures ∙ l.invariant.2.rest l.t (omega arith) (omega arith)) in
    (refl, omega arith, rw (c.put.ensures.tags_after, c.put.ensures.values_after, e) (partly_more _ _ _ _ _ _ l.invariant.2 (omega arith)))

pub shape_of-tags : goal.shape_of-tags
shape_of-tags c = c.loop-t.invariant.2.tags

pub shape_of-values : goal.shape_of-values
shape_of-values c = let l = c.loop-t in l.invariant.2.values ∙ c.requires

pub returns : goal.returns
returns c = let l = c.loop-t in partly_all _ _ _ _ _ _ l.invariant.2 (omega arith)
