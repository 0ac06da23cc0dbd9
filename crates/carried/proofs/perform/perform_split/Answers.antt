-- `perform::perform_split` meets its contract. Assumes nothing.
use native.Mathlib.Omega.{arith}
use Rattle.carried.proofs.Performing.{no_room, not_below, not_there, too_few, both, is_made}
use borrow.Author.Rules.{rules}
use Rattle.carried.proofs.perform.perform_split.Goals as goal

pub returns-then-k-eq392 : goal.returns-then-k-eq392
returns-then-k-eq392 c = no_room _ _ _ _ _ _ c.requires.sound.0 c.requires.sound.1 _ c.if-k-eq392.true

pub returns-then-v-u : goal.returns-then-v-u
returns-then-v-u c = not_below _ _ _ _ _ _ c.requires.sound.0 c.requires.sound.1 _ c.if-v-u.true

pub returns-then-z-v : goal.returns-then-z-v
returns-then-z-v c = not_there _ _ _ _ _ _ c.requires.sound.0 c.requires.sound.1 _ c.if-z-v.true

pub returns-then-shared-lt2 : goal.returns-then-shared-lt2
returns-then-shared-lt2 c = too_few _ _ _ _ _ _ c.requires.sound.0 c.requires.sound.1 c.if-v-u.false c.if-z-v.false _ (rw c.shared.ensures at c.if-shared-lt2.true)

pub merge-requires : goal.merge-requires
merge-requires c = let S = c.requires.sound.0 in
    let a = c.if-v-u.false in
    let b = c.if-z-v.false in
    let l = rw c.shared.ensures at c.if-shared-lt2.false in
    let P = c.part.ensures in record { words_len = (c.requires.with_columns.0, omega (arith, S.m120, S.k392), omega arith, b, omega (arith, S.n120, S.k392), omega arith, search rules); clean = (S.clean, both _ _ _ _ _ _ S c.requires.sound.1 a b l _ P) }

pub returns : goal.returns
returns c = let S = c.requires.sound.0 in
    let a = c.if-v-u.false in
    let b = c.if-z-v.false in
    let l = rw c.shared.ensures at c.if-shared-lt2.false in
    is_made _ _ _ _ _ _ S c.requires.sound.1 a b l (omega (arith, S.k392, c.if-k-eq392.false)) _ _ c.part.ensures c.merge.ensures
