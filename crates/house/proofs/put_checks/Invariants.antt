-- What the loops of `put_checks` keep.
use mathlib.Core.Path.{◌≡◌}
use Prim.Native.Nat.{◌≤◌}
use lib.ListN.{length}
use Rattle.house.specs.Names.{code}
use Rattle.house.specs.Holding.{Holding}
use Rattle.house.proofs.put_checks.Given as goal

abbrev pub invariant-loop-c : goal.invariant-loop-c
invariant-loop-c l = (l.c ≤ l.c-end) × (l.c-end ≡ (code l.name).m) × (length l.words ≡ 4096) × Holding 8 (code l.name).matrix l.c l.words
