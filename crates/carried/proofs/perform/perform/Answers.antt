-- `perform::perform` meets its contract. Assumes nothing.
use mathlib.Core.Path.{refl, ◌∙◌}
use native.Mathlib.Omega.{arith}
use Rattle.columns.proofs.Filling.{two_words}
use Rattle.reading.proofs.Other.{other_split}
use Rattle.carried.proofs.Performing.{going_other, going_stops, going_next}
use Rattle.carried.proofs.perform.perform.Goals as goal

pub fill-requires : goal.fill-requires
fill-requires c = let e = two_words _ refl in
    record { words_len = (c.requires.words_len.0, e.0, omega (arith, c.requires.sound.m120), omega (arith, c.requires.sound.m120)); empty = e.1 }

pub returns-in_default : goal.returns-in_default
returns-in_default c = going_other _ _ _ _ _ _ _ _ c.loop-k.invariant.2
    (other_split _ c.read.result c.read.ensures c.in_default.not-Split)

pub returns-then-not-perform_split : goal.returns-then-not-perform_split
returns-then-not-perform_split c = let E = c.perform_split in
    let K = rw c.in-Split.is at c.read.ensures in
    going_stops _ _ _ _ _ _ _ _ c.loop-k.invariant.2 _ K _ _ E.result E.ensures c.if-not-perform_split.true

pub loop-k-preserved : goal.loop-k-preserved
loop-k-preserved c = let E = c.perform_split in
    let l = c.loop-k in
    let K = rw c.in-Split.is at c.read.ensures in (
      E.auto.words ∙ l.invariant.0,
      E.auto.cols ∙ l.invariant.1,
      going_next _ _ _ _ _ _ _ _ l.invariant.2 _ K _ _ E.result E.ensures c.if-not-perform_split.false (omega arith),
    )
