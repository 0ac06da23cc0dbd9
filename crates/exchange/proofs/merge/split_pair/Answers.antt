-- `split_pair` meets its contract. Assumes nothing.
use native.Mathlib.Omega.{arith}
use Rattle.exchange.proofs.Common.{meeting_columns}
use borrow.Author.Rules.{rules}
use Rattle.exchange.proofs.merge.split_pair.Goals as goal

pub split_columns-requires : goal.split_columns-requires
split_columns-requires c = let b = meeting_columns _ _ _ _ _ _ c.requires.clean.0 c.requires.clean.1 8 _ _ (omega arith) c.column-both.ensures c.column-other.ensures in
    record { words_len = (c.requires.words_len.0, c.requires.words_len.3, c.requires.words_len.4, c.requires.words_len.5, c.requires.words_len.6, search rules, search rules); clean = (c.requires.clean.0, b) }
