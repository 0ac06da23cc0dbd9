-- What the loops of `fill` keep.
use mathlib.Core.Path.{◌≡◌}
use Prim.Native.Nat.{◌≤◌}
use lib.ListN.{length}
use Rattle.parity.specs.Matrix.{lent}
use Rattle.record.proofs.Filling.{Filling}
use Rattle.record.proofs.fill.fill.Given as goal

abbrev pub invariant-loop-c : goal.invariant-loop-c
invariant-loop-c l = (l.c ≤ l.m) × (length l.words ≡ 4096) × Filling l.m l.source l.p l.c (lent 8 l.words)
