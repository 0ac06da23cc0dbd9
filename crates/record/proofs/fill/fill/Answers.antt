-- `fill::fill` meets its contract. Assumes nothing.
use Rattle.std.proofs.Common.{rules}
use mathlib.Core.Path.{◌≡◌, ◌∙◌}
use native.Mathlib.Omega.{arith}
use lib.ListN.{length, replicate}
use Rattle.rows.proofs.Zeros.{empty}
use Rattle.record.proofs.Filling.{none_in, filling_none, filling_more, filling_inside, filling_payloads, filling_next, filling_end}
use Rattle.record.proofs.fill.fill.Goals as goal

pub loop-c-init : goal.loop-c-init
loop-c-init c = let z : c.fill.new.self ≡ replicate (length c.args.words.now) 0 = search rules in
    (omega arith, c.fill.auto.self ∙ c.requires.0, filling_none _ _ _ c.requires.1 (none_in _ (empty 8 _ _ z)))

pub offset_bounds-source-p : goal.offset_bounds-source-p
offset_bounds-source-p c = let k = filling_more _ _ _ _ _ c.loop-c.invariant.2 (omega arith) in omega arith

pub bounds-source-p : goal.bounds-source-p
bounds-source-p c = filling_more _ _ _ _ _ c.loop-c.invariant.2 (omega arith)

pub overflow_add-p : goal.overflow_add-p
overflow_add-p c = let k = filling_more _ _ _ _ _ c.loop-c.invariant.2 (omega arith) in omega arith

pub offset_bounds-source-p-in-loop-c : goal.offset_bounds-source-p-in-loop-c
offset_bounds-source-p-in-loop-c c = omega (arith, filling_inside _ _ _ _ _ c.loop-c.invariant.2 (omega arith), c.payload-count.ensures)

pub slice_bounds-fill_check-end : goal.slice_bounds-fill_check-end
slice_bounds-fill_check-end c = omega (arith, filling_inside _ _ _ _ _ c.loop-c.invariant.2 (omega arith), c.payload-count.ensures)

pub fill_check-requires : goal.fill_check-requires
fill_check-requires c = let l = c.loop-c in
    (rw c.payload-count.ensures (filling_payloads _ _ _ _ _ l.invariant.2 (omega arith)), omega (arith, l.invariant.2.checks))

pub overflow_add-p-in-loop-c : goal.overflow_add-p-in-loop-c
overflow_add-p-in-loop-c c = omega (arith, filling_inside _ _ _ _ _ c.loop-c.invariant.2 (omega arith), c.payload-count.ensures)

pub overflow_add-p-in-loop-c-2 : goal.overflow_add-p-in-loop-c-2
overflow_add-p-in-loop-c-2 c = omega (arith, filling_inside _ _ _ _ _ c.loop-c.invariant.2 (omega arith), c.payload-count.ensures)

pub overflow_add-p-in-loop-c-4 : goal.overflow_add-p-in-loop-c-4
overflow_add-p-in-loop-c-4 c = omega (arith, filling_inside _ _ _ _ _ c.loop-c.invariant.2 (omega arith), c.payload-count.ensures)

pub loop-c-preserved : goal.loop-c-preserved
loop-c-preserved c = let l = c.loop-c in
    let r = c.fill_check in
    let e = c.payload-count.ensures in
    (omega arith, r.auto.words ∙ l.invariant.1, rw e (filling_next _ _ _ _ _ l.invariant.2 (omega arith) _ (rw e at r.ensures)))

pub returns : goal.returns
returns c = let l = c.loop-c in
    let e : l.c ≡ c.args.m = omega arith in
    filling_end _ _ _ _ (rw e at l.invariant.2)
