-- `emit::split_word` meets its contract. Assumes nothing.
use native.Mathlib.Omega.{arith}
use Rattle.writing.proofs.Emitting.{lower_read, higher_read, lower_small, word_read}
use Rattle.writing.proofs.emit.split_word.Goals as goal

pub next_one-higher-requires : goal.next_one-higher-requires
next_one-higher-requires c = let S = c.requires.1 in
    (c.requires.0, omega (arith, S.m120, S.k392, c.requires.2), omega (arith, lower_read _ _ _ _ _ S c.requires.2 _ c.next_one-lower.ensures, lower_small _ _ _ _ _ S c.requires.2))

pub returns : goal.returns
returns c = let F = c.next_one-lower.ensures in
    let a = lower_read _ _ _ _ _ c.requires.1 c.requires.2 _ F in
    let b = higher_read _ _ _ _ _ c.requires.1 c.requires.2 _ _ F c.next_one-higher.ensures in
    word_read _ _ _ _ _ c.requires.1 c.requires.2 _ _ _ a b (omega arith)
