-- `lines::put_splits_line` meets its contract: its five parts, one after another. Assumes nothing.
use native.Mathlib.Omega.{arith}
use Rattle.lines.specs.Lines.{splits_line}
use Rattle.lines.proofs.Pieces.{after}
use Rattle.lines.proofs.Lines.{splits_length}
use Rattle.lines.proofs.put_splits_line.Goals as goal

pub put_bytes-next-requires : goal.put_bytes-next-requires
put_bytes-next-requires c = let a = c.args in
    omega (arith, splits_length a.splits a.sum)

pub put_decimal-next-requires : goal.put_decimal-next-requires
put_decimal-next-requires c = let a = c.args in
    omega (arith, splits_length a.splits a.sum)

pub put_bytes-next-requires-2 : goal.put_bytes-next-requires-2
put_bytes-next-requires-2 c = let a = c.args in
    omega (arith, splits_length a.splits a.sum)

pub put_decimal-next-requires-2 : goal.put_decimal-next-requires-2
put_decimal-next-requires-2 c = let a = c.args in
    omega (arith, splits_length a.splits a.sum)

pub put_byte-requires : goal.put_byte-requires
put_byte-requires c = let a = c.args in
    omega (arith, splits_length a.splits a.sum)

pub returns : goal.returns
unfolding splits_line
returns c = after
    (after
    (after (after c.put_bytes-next.ensures c.put_decimal-next.ensures) c.put_bytes-next-2.ensures)
    c.put_decimal-next-2.ensures)
    c.put_byte.ensures
