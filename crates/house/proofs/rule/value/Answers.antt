-- `rule::value` meets its contract. Assumes nothing.
use native.Mathlib.Nat.{zero-mul}
use native.Mathlib.Omega.{arith}
use lib.Dec.{lit<}
use lib.Pow.{shl_exact}
use Rattle.house.proofs.rule.value.Goals as goal

pub returns-then-contained : goal.returns-then-contained
returns-then-contained c = let b = c.args.b in rw (c.if-contained.true, shl_exact 1 b 32 (lit< tt) (omega arith))

pub returns-else-contained : goal.returns-else-contained
returns-else-contained c = rw (c.if-contained.false, zero-mul)
