-- `orthogonal::repeat` meets its contract. Assumes nothing.
use mathlib.Core.Path.{refl, ◌∙◌}
use native.Mathlib.Omega.{arith}
use Rattle.columns.proofs.Filling.{two_words}
use Rattle.orthogonalise.proofs.Turns.{stands_start, head_start, stands_bound, ends_finished, ends_full, share_few, picked_ready, stands_split, head_split, given_columns, narrow_columns}
use borrow.Author.Rules.{rules}
use Rattle.orthogonalise.proofs.course.repeat.Goals as goal

pub fill-requires : goal.fill-requires
fill-requires c = let e = two_words _ refl in
    record { words_len = (c.requires.words_len, e.0, omega (arith, c.requires.sound.m120), omega (arith, c.requires.sound.m120)); empty = e.1 }

pub loop-low-init : goal.loop-low-init
loop-low-init c = let W = c.weights-bound.ensures in
    (refl, search rules, search rules, stands_start _ _ _ _ _ _ c.requires.sound c.fill.ensures W, head_start _ _ _ W)

pub pick-requires : goal.pick-requires
pick-requires c = let l = c.loop-low in
    let S = l.invariant.3 in
    let A = S.sound in record { words_len = (l.invariant.0 ∙ c.requires.words_len, l.invariant.1, l.invariant.2, omega (arith, A.n120, A.k392)); given = (given_columns _ _ _ A.m120 S.columns, narrow_columns _ _ _ _ _ A S.columns); bounded = (S.bounded, l.invariant.4) }

pub returns-then-at-eq392 : goal.returns-then-at-eq392
returns-then-at-eq392 c = let X = rw c.in-Some.is at c.pick.ensures.0 in
    rw c.no_room.ensures (ends_full _ _ _ _ _ _ _ _ _ _ _ c.loop-low.invariant.3 _ _ _ X.0 c.if-at-eq392.true)

pub turn-held-requires : goal.turn-held-requires
turn-held-requires c = let l = c.loop-low in
    let S = l.invariant.3 in
    let A = S.sound in
    let X = rw c.in-Some.is at c.pick.ensures.0 in
    let room = c.if-at-eq392.false in record { words_len = (l.invariant.0 ∙ c.requires.words_len, l.invariant.1, c.pick.auto.bound ∙ l.invariant.2, omega (arith, A.m120, A.k392), X.0.low, X.0.high, omega (arith, A.n120, A.k392)); ready = picked_ready _ _ _ _ _ _ _ _ _ _ _ S _ _ _ X.0 }

pub counted-at-requires : goal.counted-at-requires
counted-at-requires c = let S = c.loop-low.invariant.3 in
    let X = rw c.in-Some.is at c.pick.ensures.0 in
    let room = c.if-at-eq392.false in
    (omega (arith, S.count, S.sound.k392), S.few, X.0.two, share_few _ _ _ _ _ _ _ _ _ _ _ S _ _ _ X.0, omega (arith, S.sound.k392))

pub loop-low-preserved : goal.loop-low-preserved
loop-low-preserved c = let l = c.loop-low in
    let pick = c.pick in
    let S = stands_bound _ _ _ _ _ _ _ _ _ _ _ _ l.invariant.3 pick.ensures.1 in
    let X = rw c.in-Some.is at pick.ensures.0 in
    let room = c.if-at-eq392.false in
    let told = c.turn-held in
    let e = c.counted-at.ensures in (
      told.auto.words ∙ l.invariant.0,
      told.auto.cols ∙ l.invariant.1,
      told.auto.bound ∙ pick.auto.bound ∙ l.invariant.2,
      rw (e.0, e.1, e.2, e.3) (stands_split _ _ _ _ _ _ _ _ _ _ _ S _ _ _ X.0 (omega (arith, S.sound.k392)) _ _ _ _ told.ensures),
      rw e.2 (head_split _ _ _ _ _ _ _ _ _ _ _ S _ _ _ X.0 (omega (arith, S.sound.k392)) _ _ _ _ told.ensures X.1),
    )

pub returns : goal.returns
returns c = ends_finished _ _ _ _ _ _ _ _ _ _ _ c.loop-low.invariant.3 (rw c.in_default.is at c.pick.ensures.0)
