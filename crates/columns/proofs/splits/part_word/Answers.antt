-- `part_word` meets its contract. Assumes nothing.
use Rattle.columns.proofs.Splitting.{part_word}
use Rattle.columns.proofs.splits.part_word.Goals as goal

pub returns : goal.returns
returns c = rw (c.put_word-3.ensures, c.put_word-2.ensures, c.put_word.ensures, c.word_at-a.ensures, c.word_at-b.ensures)
    (part_word c.args.width c.args.cols.now c.args.u.0 c.args.v.0 c.args.z.0 c.args.i c.requires.0 c.requires.1 c.requires.2 c.requires.3 c.requires.4 (λ j. (c.slice_known-1.given j).fits))
