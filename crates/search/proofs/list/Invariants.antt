-- What the loops of `list` keep.
use mathlib.Core.Path.{◌≡◌}
use Prim.Native.Nat.{◌≤◌}
use lib.ListN.{length}
use Rattle.search.specs.Live.{Listed}
use Rattle.search.proofs.list.Given as goal

abbrev pub invariant-loop-c : goal.invariant-loop-c
invariant-loop-c l = (l.c ≤ l.checks) × (length l.live ≡ 512) × Listed l.c l.live
