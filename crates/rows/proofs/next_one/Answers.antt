-- `next_one` meets its contract. Assumes nothing.
use Prim.Native.Nat.{◌+◌, ◌*◌, ◌/◌}
use native.Mathlib.Nat.{lt_of_le_of_lt}
use native.Mathlib.Omega.{arith}
use lib.Bits.{and_le_l}
use Rattle.parity.proofs.Matrix.Ones.{trailing_lowest}
use Rattle.rows.proofs.Next.{clear_none, clear_word, next_here, next_later, from_mask}
use Rattle.rows.proofs.next_one.Goals as goal

pub returns-then-x-ne0 : goal.returns-then-x-ne0
returns-then-x-ne0 c = let f = (c.type_inv.rows (c.args.c * c.args.width + c.args.from / 64)).fits in
    (next_here c.args.width c.args.rows.now c.args.c (c.args.from / 64) c.args.from _ (omega arith) (from_mask c.args.width c.args.rows.now c.args.c c.args.from)
    (clear_none _ _ _ (omega arith)) _ (trailing_lowest 64 _ (lt_of_le_of_lt (and_le_l _ _) f) c.if-x-ne0.true))

pub returns : goal.returns
returns c = next_later _ _ _ _ _ (omega arith)
    (clear_word c.args.width c.args.rows.now c.args.c (c.args.from / 64) c.args.from _ (omega arith) (from_mask c.args.width c.args.rows.now c.args.c c.args.from)
    (clear_none _ _ _ (omega arith)) c.if-x-ne0.false)
    c.next_in_words.ensures
