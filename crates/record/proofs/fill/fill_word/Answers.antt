-- `fill::fill_word` meets its contract. Assumes nothing.
use native.Mathlib.Omega.{arith}
use lib.ListN.{length}
use Rattle.record.proofs.Filling.{word_puts}
use Rattle.record.proofs.fill.fill_word.Goals as goal

pub returns : goal.returns
returns c = rw c.gather.ensures (word_puts 8 _ c.args.i (length c.args.ones.now) c.args.c c.args.words.now c.requires.2 (omega arith) c.requires.1 c.requires.0)
