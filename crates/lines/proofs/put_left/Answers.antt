-- `lines::put_left` meets its contract. Assumes nothing.
use mathlib.Core.Path.{sym, ap}
use borrow.Author.Rules.{rules}
use native.Mathlib.Omega.{arith}
use lib.ListN.{length}
use Rattle.lines.proofs.Pieces.{after}
use Rattle.lines.proofs.Lines.{none, same_text, left_erased, left_known}
use Rattle.lines.proofs.put_left.Goals as goal

pub put_byte-next-requires : goal.put_byte-next-requires
put_byte-next-requires c = let a = c.args in
    omega (arith, ap length (left_erased a.x a.b c.if-x-eq2.true))

pub put_decimal-requires : goal.put_decimal-requires
put_decimal-requires c = let a = c.args in
    omega (arith, ap length (left_erased a.x a.b c.if-x-eq2.true))

pub returns-then-x-eq2 : goal.returns-then-x-eq2
returns-then-x-eq2 c = let a = c.args in
    same_text (sym (left_erased a.x a.b (search rules))) (after c.put_byte-next.ensures c.put_decimal.ensures)

pub returns : goal.returns
returns c = let a = c.args in
    same_text (sym (left_known a.x a.b (search rules))) (none a.out.now a.at (omega arith))
