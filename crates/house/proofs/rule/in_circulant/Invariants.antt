-- What the loops of `in_circulant` keep.
use mathlib.Core.Path.{◌≡◌}
use Prim.Native.Nat.{◌≤◌}
use lib.ListN.{drop}
use Rattle.parity.specs.House.{at_offsets, offsets, circulant}
use Rattle.house.proofs.rule.in_circulant.Given as goal

abbrev pub invariant-loop-e : goal.invariant-loop-e
invariant-loop-e l = circulant l.c l.b ≡ at_offsets (drop l.e-index offsets) l.c l.b
