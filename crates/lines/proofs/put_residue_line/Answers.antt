-- `lines::put_residue_line` meets its contract: its three parts, one after another. Assumes nothing.
use borrow.Author.Rules.{rules}
use native.Mathlib.Omega.{arith}
use Rattle.lines.specs.Lines.{residue_line}
use Rattle.lines.proofs.Pieces.{after}
use Rattle.lines.proofs.Lines.{residue_length}
use Rattle.lines.proofs.put_residue_line.Goals as goal

pub put_bytes-next-requires : goal.put_bytes-next-requires
put_bytes-next-requires c = let a = c.args in
    omega (arith, residue_length a.word.now a.n)

pub put_residue-next-requires : goal.put_residue-next-requires
put_residue-next-requires c = let a = c.args in
    record { n_in_bounds = omega (arith, residue_length a.word.now a.n); n_in_bounds_2 = search rules }

pub put_byte-requires : goal.put_byte-requires
put_byte-requires c = let a = c.args in
    omega (arith, residue_length a.word.now a.n)

pub returns : goal.returns
unfolding residue_line
returns c = after (after c.put_bytes-next.ensures c.put_residue-next.ensures) c.put_byte.ensures
