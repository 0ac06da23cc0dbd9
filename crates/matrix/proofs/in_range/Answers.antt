-- `in_range` meets its contract. Assumes nothing.
use Rattle.std.proofs.Common.{rules}
use borrow.Author.Tests.{tests}
use Rattle.parity.specs.Matrix.{in_range}
use Rattle.matrix.proofs.in_range.Goals as goal
use Rattle.matrix.proofs.in_range.Goals.{then-n-ge1, else-n-ge1, then-n-le120, else-n-le120}

pub returns-then-m-le120 : goal.returns-then-m-le120
unfolding in_range
returns-then-m-le120 c = elim c.if-n-ge1.branch [
  | then-n-ge1 u ↦ elim c.if-n-le120.branch [ then-n-le120 w ↦ search (rules, tests) | else-n-le120 w ↦ search (rules, tests) ]
  | else-n-ge1 u ↦ elim c.if-n-le120.branch [ then-n-le120 w ↦ search (rules, tests) | else-n-le120 w ↦ search (rules, tests) ]
]

pub returns-else-m-le120 : goal.returns-else-m-le120
unfolding in_range
returns-else-m-le120 c = elim c.if-n-ge1.branch [
  | then-n-ge1 u ↦ elim c.if-n-le120.branch [ then-n-le120 w ↦ search (rules, tests) | else-n-le120 w ↦ search (rules, tests) ]
  | else-n-ge1 u ↦ elim c.if-n-le120.branch [ then-n-le120 w ↦ search (rules, tests) | else-n-le120 w ↦ search (rules, tests) ]
]
