-- `fill::fill_many` meets its contract. Assumes nothing.
use Rattle.std.proofs.Common.{rules}
use mathlib.Core.Path.{◌∙◌}
use native.Mathlib.Omega.{arith}
use lib.Dec.{ltb}
use Rattle.std.proofs.lemmas.List.Sorted.{IsPartitionPoint-from_clause}
use Rattle.parity.specs.Matrix.{lent}
use Rattle.parity.specs.Record.{payload}
use Rattle.record.proofs.Filling.{parted, low_word, high_word, both_words}
use Rattle.record.proofs.fill.fill_many.Goals as goal

pub fill_word-requires : goal.fill_word-requires
fill_word-requires c = let C = IsPartitionPoint-from_clause (λ w. ltb (payload w) 64) _ _ c.partition_point.ensures.partitioned (parted _ c.requires.0) (λ a r q k. search rules) in
    (c.requires.1, omega arith, rw c.split_at.ensures.front (low_word _ c.requires.0 _ c.partition_point.ensures.bound C))

pub fill_word-requires-2 : goal.fill_word-requires-2
fill_word-requires-2 c = let C = IsPartitionPoint-from_clause (λ w. ltb (payload w) 64) _ _ c.partition_point.ensures.partitioned (parted _ c.requires.0) (λ a r q k. search rules) in
    (omega (arith, c.fill_word.auto.words, c.requires.1), omega arith, rw c.split_at.ensures.back (high_word _ c.requires.0 _ c.partition_point.ensures.bound C))

pub returns : goal.returns
returns c = let C = IsPartitionPoint-from_clause (λ w. ltb (payload w) 64) _ _ c.partition_point.ensures.partitioned (parted _ c.requires.0) (λ a r q k. search rules) in
    c.fill_word-2.ensures ∙ rw (c.fill_word.ensures, c.split_at.ensures.front, c.split_at.ensures.back) (both_words _ c.requires.0 _ c.partition_point.ensures.bound C c.args.c (lent 8 c.args.words.now))
