-- `mixed_sums` meets its contract. Assumes nothing.
use Rattle.bit_node.proofs.Adding.{sum_none, sum_next, sums_more}
use Rattle.soft.proofs.Places.{partly_start, partly_all}
use Rattle.parity.specs.Soft.{message_at}
use lib.ListN.{length}
use native.Mathlib.Omega.{arith}
use mathlib.Core.Path.{◌≡◌, refl, sym, ◌∙◌}
use Rattle.bit_node.proofs.mixed_sums.Goals as goal

pub loop-j-init : goal.loop-j-init
loop-j-init c = (refl, omega arith, sym (sum_none _ _ _), partly_start _ _ _ (sym c.requires))

pub message-v-requires : goal.message-v-requires
message-v-requires c = let l = c.loop-j in omega (arith, l.invariant.3.tags, l.invariant.3.values)

pub join_all-requires : goal.join_all-requires
join_all-requires c = let l = c.loop-j in omega (arith, l.invariant.3.tags, l.invariant.3.values)

pub put-requires : goal.put-requires
put-requires c = let l = c.loop-j in
    omega (arith, c.join_all.ensures.tags, c.join_all.ensures.values, l.invariant.3.tags, l.invariant.3.values)

pub loop-j-preserved : goal.loop-j-preserved
loop-j-preserved c = let l = c.loop-j in
    let f = message_at c.args.tags.now c.args.values.now in
    let e = c.message-v.ensures ∙ l.invariant.3.rest l.j (omega arith) (omega arith) in
    let Q = rw (l.invariant.3.tags, e) at c.join_all.ensures in (
      l.invariant.0,
      omega arith,
      c.join-all.ensures ∙ sum_next _ f _ _ l.j l.invariant.2 e,
      rw (c.put.ensures.tags_after, c.put.ensures.values_after, l.invariant.2) (sums_more _ f _ l.j (omega arith) _ _ l.invariant.3 _ _ Q),
    )

pub shape_of-tags : goal.shape_of-tags
shape_of-tags c = c.loop-j.invariant.3.tags

pub shape_of-values : goal.shape_of-values
shape_of-values c = c.loop-j.invariant.3.values ∙ c.requires

pub returns : goal.returns
returns c = let l = c.loop-j in
    let e : l.j ≡ length c.args.tags.now = omega arith in
    record { value = rw e at l.invariant.2; holding = partly_all _ _ _ _ _ _ (rw e at l.invariant.3) (omega arith) }
