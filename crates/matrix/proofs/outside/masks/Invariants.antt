-- What the loops of `masks` keep.
use mathlib.Core.Path.{◌≡◌}
use Prim.Native.Nat.{◌≤◌}
use lib.ListN.{length}
use Rattle.matrix.specs.Masks.{Masks}
use Rattle.matrix.proofs.outside.masks.Given as goal

abbrev pub invariant-loop-p : goal.invariant-loop-p
invariant-loop-p l = (l.p ≤ length l.initial.all) × (l.p-end ≡ length l.initial.all) × (length l.all ≡ length l.initial.all) × Masks l.bits l.p l.all
