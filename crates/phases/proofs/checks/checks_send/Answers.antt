-- `checks_send` meets its contract. Assumes nothing.
use native.Mathlib.Numerals.{add-one}
use Rattle.phases.proofs.Answering.{begun_none, begun_more, begun_all, answering_start, above_part, answering_sounds, answering_more}
use Rattle.messages.proofs.Places.{start_zero, start_suc, start_mono, above_none, above_more}
use Rattle.parity.proofs.Finite.Sums.{count_bound}
use Rattle.parity.specs.Matrix.{lent}
use native.Mathlib.Omega.{arith}
use Prim.Native.Nat.{suc}
use mathlib.Core.Path.{◌≡◌, sym, ◌∙◌}
use Rattle.phases.proofs.checks.checks_send.Goals as goal

pub loop-c-init : goal.loop-c-init
loop-c-init c = (omega arith, sym (start_zero _ _), c.requires.laid.0.memory, begun_none _ _ _ c.requires.at_len.0, answering_start _ _ _ _ _, above_none _ _ _ _)

pub offset_bounds-at-c : goal.offset_bounds-at-c
offset_bounds-at-c c = omega (arith, c.loop-c.invariant.3.size, c.requires.laid.1.most)

pub bounds-at-c : goal.bounds-at-c
bounds-at-c c = omega (arith, c.loop-c.invariant.3.size, c.requires.laid.1.most)

pub weight-w-requires : goal.weight-w-requires
weight-w-requires c = (c.requires.laid.0.words, omega (arith, c.loop-c-test.true, c.requires.laid.1.most))

pub check_at-requires : goal.check_at-requires
check_at-requires c = let l = c.loop-c in
    let h = lent 8 c.args.words.now in
    let W = c.weight-w.ensures in
    let t = c.loop-c-test.true in
    let m = start_mono h 512 (suc l.c) 512 (omega (arith, t, c.requires.laid.1.most)) in record {
      tags_len = (
        l.invariant.2.tags ∙ sym l.invariant.2.values,
        omega (arith, l.invariant.1, l.invariant.2.tags, W, start_suc h 512 l.c, m, c.requires.laid.0.room),
        omega (arith, W, count_bound 512 (h l.c)),
      );
      sounds = rw (l.invariant.1, W) (answering_sounds h 512 c.args.checks _ l.c t _ _ l.invariant.4 c.requires.at_len.1);
    }

pub overflow_add-a : goal.overflow_add-a
overflow_add-a c = let l = c.loop-c in
    let h = lent 8 c.args.words.now in
    let m = start_mono h 512 (suc l.c) 512 (omega (arith, c.loop-c-test.true, c.requires.laid.1.most)) in
    omega (arith, l.invariant.1, c.weight-w.ensures, start_suc h 512 l.c, m, c.requires.laid.0.room)

pub overflow_step-c : goal.overflow_step-c
overflow_step-c c = omega (arith, c.loop-c-test.true, c.requires.laid.1.most)

pub loop-c-preserved : goal.loop-c-preserved
loop-c-preserved c = let W = c.weight-w.ensures in
    let l = c.loop-c in
    let h = lent 8 c.args.words.now in
    let t = c.loop-c-test.true in
    let P = rw (l.invariant.1, W) at c.check_at.ensures in (
      omega (arith, t),
      rw (add-one l.c, start_suc h 512 l.c, l.invariant.1, W),
      record { tags = P.tags ∙ l.invariant.2.tags; values = P.values ∙ l.invariant.2.values },
      begun_more h 512 l.c _ _ l.invariant.3 (omega (arith, t, c.requires.laid.1.most)) l.invariant.1,
      answering_more h 512 c.args.checks _ l.c t _ _ l.invariant.4 _ _ P,
      above_more h 512 _ _ _ _ l.invariant.5 _ _ (above_part h 512 l.c _ _ _ _ _ (omega (arith, t, c.requires.laid.1.most)) P),
    )

pub shape_of-at : goal.shape_of-at
shape_of-at c = c.loop-c.invariant.3.size ∙ sym c.requires.at_len.0

pub shape_of-tags : goal.shape_of-tags
shape_of-tags c = c.loop-c.invariant.2.tags ∙ sym c.requires.laid.0.memory.tags

pub shape_of-values : goal.shape_of-values
shape_of-values c = c.loop-c.invariant.2.values ∙ sym c.requires.laid.0.memory.values

pub returns : goal.returns
returns c = let l = c.loop-c in
    let e : l.c ≡ c.args.checks = omega (arith, c.loop-c-test.false, l.invariant.0) in
    record { cursors = begun_all _ _ _ _ c.requires.laid.1 (rw e at l.invariant.3); answering = rw e at l.invariant.4; above = l.invariant.5 }
