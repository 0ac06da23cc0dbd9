-- `course` meets its contract. Assumes nothing.
use Rattle.min_sum.proofs.Course.{ready_same, round_sound, round_more, holds_kept, round_stands}
use Rattle.standing.proofs.Kept.{twice_kept}
use Rattle.parity.specs.Matrix.{lent}
use native.Mathlib.Numerals.{add-one}
use native.Mathlib.Omega.{arith}
use mathlib.Core.Path.{◌≡◌, refl, sym, ◌∙◌}
use Rattle.min_sum.proofs.rounds.course.Goals as goal

pub fill_all-w-requires : goal.fill_all-w-requires
fill_all-w-requires c = let Q = c.requires.0 in (Q.laid, Q.inner, Q.within.most)

pub keep-requires : goal.keep-requires
keep-requires c = let F = c.fill_all-w.ensures.holds in record { tags = F.tags; values = F.values }

pub loop-r-init : goal.loop-r-init
loop-r-init c = let F = c.fill_all-w.ensures in
    let K = c.keep.ensures in
    (F.value, omega arith, c.requires.2, holds_kept _ _ _ _ _ _ F.value F.holds _ _ K, twice_kept _ _ _ _ _ K)

pub one_round-requires : goal.one_round-requires
one_round-requires c = let l = c.loop-r in
    let Q = c.requires.0 in
    let M = Q.laid.memory in
    let sound = round_sound (lent 8 c.args.words.now) c.args.checks _ c.args.word.now c.args.floats.now refl Q.sounds l.r _ _ l.invariant.3 in
    record { ready = (ready_same _ _ _ _ _ _ Q _ _ (l.invariant.3.tags ∙ sym M.tags) (l.invariant.3.values ∙ sym M.values), c.requires.1); at_len = (l.invariant.2, sound) }

pub renew-requires : goal.renew-requires
renew-requires c = let R = c.one_round.ensures.sent in record { tags = R.tags; values = R.values }

pub shape_of-at-then-renew : goal.shape_of-at-then-renew
shape_of-at-then-renew c = c.one_round.auto.at ∙ c.loop-r.invariant.2 ∙ sym c.requires.2

pub shape_of-tags-then-renew : goal.shape_of-tags-then-renew
shape_of-tags-then-renew c = c.renew.ensures.kept.tags ∙ c.one_round.ensures.sent.tags ∙ sym c.requires.0.laid.memory.tags

pub shape_of-values-then-renew : goal.shape_of-values-then-renew
shape_of-values-then-renew c = c.renew.ensures.kept.values ∙ c.one_round.ensures.sent.values ∙ sym c.requires.0.laid.memory.values

pub returns-then-renew : goal.returns-then-renew
returns-then-renew c = let R = c.one_round.ensures in
    let N = c.renew.ensures in
    let t = c.if-renew.true in
    let l = c.loop-r in
    let Q = c.requires.0 in
    let h = lent 8 c.args.words.now in
    let H = round_more h _ c.args.checks Q.inner.below _ l.r _ _ l.invariant.3 _ _ R in
    let S = round_stands h c.args.checks _ l.r c.args.last _ _ _ _ _ Q.within Q.within.most l.invariant.0 l.invariant.1 l.invariant.3 l.invariant.4 R.above H
    (N.standing.room t) (N.standing.twice t) in
    holds_kept h c.args.checks _ _ _ _ l.invariant.0 S _ _ N.kept

pub overflow_step-r : goal.overflow_step-r
overflow_step-r c = omega (arith, c.loop-r-test.true, c.ranges.last)

pub loop-r-preserved : goal.loop-r-preserved
loop-r-preserved c = let R = c.one_round in
    let K = c.renew.ensures.kept in
    let l = c.loop-r in
    let h = lent 8 c.args.words.now in
    let H = round_more h _ c.args.checks c.requires.0.inner.below _ l.r _ _ l.invariant.3 _ _ R.ensures in (
      l.invariant.0,
      omega (arith, c.loop-r-test.true),
      R.auto.at ∙ l.invariant.2,
      rw (add-one l.r) (holds_kept h c.args.checks _ _ _ _ l.invariant.0 H _ _ K),
      twice_kept _ _ _ _ _ K,
    )

pub shape_of-at : goal.shape_of-at
shape_of-at c = c.loop-r.invariant.2 ∙ sym c.requires.2

pub shape_of-tags : goal.shape_of-tags
shape_of-tags c = c.loop-r.invariant.3.tags ∙ sym c.requires.0.laid.memory.tags

pub shape_of-values : goal.shape_of-values
shape_of-values c = c.loop-r.invariant.3.values ∙ sym c.requires.0.laid.memory.values

pub returns : goal.returns
returns c = let l = c.loop-r in
    let e : l.r ≡ c.args.last = omega (arith, c.loop-r-test.false, l.invariant.1) in
    rw e at l.invariant.3
