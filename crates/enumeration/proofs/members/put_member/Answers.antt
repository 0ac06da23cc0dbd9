-- `put_member` meets its contract. Assumes nothing.
use native.Mathlib.Omega.{arith}
use borrow.Author.Tests.{lt-ltb, le-ltb}
use lib.ListN.{length}
use Rattle.enumeration.proofs.members.put_member.Goals as goal

pub returns-then-i-first : goal.returns-then-i-first
returns-then-i-first c = rw (lt-ltb c.args.i (length c.args.first.now) (omega arith))

pub returns-else-i-first : goal.returns-else-i-first
returns-else-i-first c = rw (le-ltb c.args.i (length c.args.first.now) (omega arith))
