-- `next_in_words` meets its contract. Assumes nothing.
use Prim.Native.Nat.{◌+◌, ◌*◌}
use native.Mathlib.Omega.{arith}
use Rattle.parity.proofs.Matrix.Ones.{trailing_lowest}
use Rattle.rows.proofs.Next.{clear_word, next_here, from_all}
use Rattle.rows.proofs.next_in_words.Goals as goal

pub returns-then-x-ne0 : goal.returns-then-x-ne0
returns-then-x-ne0 c = let l = c.loop-i in
    (next_here c.args.width c.args.rows.now c.args.c l.i (c.args.from * 64) _ (omega arith)
    (from_all c.args.width c.args.rows.now c.args.c l.i (c.args.from * 64) (omega arith)) l.invariant.2
    _ (trailing_lowest 64 _ (c.type_inv.rows (c.args.c * c.args.width + l.i)).fits c.if-x-ne0.true))

pub loop-i-preserved : goal.loop-i-preserved
loop-i-preserved c = let l = c.loop-i in (
  omega arith,
  omega arith,
  clear_word c.args.width c.args.rows.now c.args.c l.i (c.args.from * 64) _ (omega arith)
      (from_all c.args.width c.args.rows.now c.args.c l.i (c.args.from * 64) (omega arith)) l.invariant.2 c.if-x-ne0.false,
)
