-- `join_all` meets its contract. Assumes nothing.
use Rattle.soft.proofs.Places.{partly_start, partly_more}
use Rattle.bit_node.specs.Sums.{joined_with}
use Rattle.parity.specs.Soft.{message_at, with_next}
use native.Mathlib.Omega.{arith}
use mathlib.Core.Path.{◌≡◌, sym, ap, ◌∙◌}
use Rattle.bit_node.proofs.join_all.Goals as goal

pub loop-t-init : goal.loop-t-init
loop-t-init c = (omega arith, partly_start _ _ _ (sym c.requires.1))

pub message-requires : goal.message-requires
message-requires c = let l = c.loop-t in omega (arith, l.invariant.1.tags, l.invariant.1.values)

pub put-requires : goal.put-requires
put-requires c = let l = c.loop-t in omega (arith, l.invariant.1.tags, l.invariant.1.values)

pub loop-t-preserved : goal.loop-t-preserved
loop-t-preserved c = let l = c.loop-t in
    let k = c.requires.0 in
    let e = c.join-w.ensures ∙ ap (λ w. with_next w c.args.v) (c.message.ensures ∙ l.invariant.1.rest l.t (omega arith) (omega arith)) in
    (omega arith, rw (c.put.ensures.tags_after, c.put.ensures.values_after, e) (partly_more _ _ (joined_with (message_at c.args.tags.now c.args.values.now) c.args.v) _ _ _ l.invariant.1 (omega arith)))

pub shape_of-tags : goal.shape_of-tags
shape_of-tags c = c.loop-t.invariant.1.tags

pub shape_of-values : goal.shape_of-values
shape_of-values c = let l = c.loop-t in l.invariant.1.values ∙ c.requires.1

pub returns : goal.returns
returns c = let l = c.loop-t in let e : l.t ≡ c.args.j = omega arith in rw e at l.invariant.1
