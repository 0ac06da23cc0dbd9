-- `rule::place_of` meets its contract. Assumes nothing.
use Prim.Native.Nat.{◌*◌}
use native.Mathlib.Omega.{arith}
use borrow.Author.Tests.{lt-ltb, le-ltb}
use Rattle.matrix.specs.Three.{place_of}
use Rattle.matrix.proofs.rule.place_of.Goals as goal

pub returns-then-b-width : goal.returns-then-b-width
unfolding place_of
returns-then-b-width c = (rw (lt-ltb c.args.b (32 * c.args.width) (omega arith)), omega arith)

pub returns-else-b-width : goal.returns-else-b-width
unfolding place_of
returns-else-b-width c = (rw (le-ltb c.args.b (32 * c.args.width) (omega arith)), omega arith)
