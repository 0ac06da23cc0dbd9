-- What the loops of `write` keep.
use mathlib.Core.Path.{◌≡◌}
use Prim.Native.Nat.{◌≤◌}
use lib.ListN.{length}
use Rattle.join.specs.Rows.{Spread}
use Rattle.join.proofs.gather.write.Given as goal

abbrev pub invariant-loop-c : goal.invariant-loop-c
invariant-loop-c l = (l.c ≤ l.checks) × (length l.words ≡ 4096) × Spread 2 8 l.rows l.c l.words
