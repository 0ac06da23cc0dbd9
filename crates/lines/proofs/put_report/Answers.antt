-- `lines::put_report` meets its contract: its three lines, one after another. Assumes nothing.
use borrow.Author.Rules.{rules}
use native.Mathlib.Omega.{arith}
use Rattle.lines.proofs.Pieces.{after}
use Rattle.lines.proofs.Lines.{same_text, report_length, three_lines}
use Rattle.lines.proofs.put_report.Goals as goal

pub put_splits_line-next-requires : goal.put_splits_line-next-requires
put_splits_line-next-requires c = let a = c.args in
    omega (arith, report_length a.n a.splits a.sum a.word.now)

pub put_residue_line-next-requires : goal.put_residue_line-next-requires
put_residue_line-next-requires c = let a = c.args in
    record { n_in_bounds = omega (arith, report_length a.n a.splits a.sum a.word.now); n_in_bounds_2 = search rules }

pub put_word_line-requires : goal.put_word_line-requires
put_word_line-requires c = let a = c.args in record { n_in_bounds = omega (arith, report_length a.n a.splits a.sum a.word.now); n_in_bounds_2 = search rules; bytes = search rules }

pub returns : goal.returns
returns c = let a = c.args in
    same_text
    (three_lines a.n a.splits a.sum a.word.now)
    (after (after c.put_splits_line-next.ensures c.put_residue_line-next.ensures) c.put_word_line.ensures)
