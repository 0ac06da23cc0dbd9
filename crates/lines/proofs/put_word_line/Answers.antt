-- `lines::put_word_line` meets its contract: its three parts, one after another. Assumes nothing.
use borrow.Author.Rules.{rules}
use native.Mathlib.Omega.{arith}
use Rattle.lines.specs.Lines.{word_line}
use Rattle.lines.proofs.Pieces.{after}
use Rattle.lines.proofs.Lines.{word_length, word_line_length}
use Rattle.lines.proofs.put_word_line.Goals as goal

pub put_bytes-next-requires : goal.put_bytes-next-requires
put_bytes-next-requires c = let a = c.args in
    omega (arith, word_line_length a.word.now a.n)

pub put_characters-next-requires : goal.put_characters-next-requires
put_characters-next-requires c = let a = c.args in
    record { n_in_bounds = omega (arith, word_line_length a.word.now a.n); n_in_bounds_2 = search rules; bytes = search rules }

pub put_byte-requires : goal.put_byte-requires
put_byte-requires c = let a = c.args in
    omega (arith, word_line_length a.word.now a.n, word_length a.word.now a.n)

pub returns : goal.returns
unfolding word_line
returns c = after (after c.put_bytes-next.ensures c.put_characters-next.ensures) c.put_byte.ensures
