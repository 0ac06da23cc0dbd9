-- What the loops of `restore` keep.
use mathlib.Core.Path.{◌≡◌}
use Prim.Native.Nat.{◌≤◌}
use lib.ListN.{length}
use Rattle.parity.specs.Matrix.{lent}
use Rattle.exchange.specs.Back.{Restored}
use Rattle.exchange.proofs.back.restore.Given as goal

abbrev pub invariant-loop-d : goal.invariant-loop-d
invariant-loop-d l = Restored (lent 8 l.initial.words) (lent 8 l.words) l.d l.u.0 l.v.0 l.z.0 l.s × (length l.words ≡ 4096) × (l.d ≤ l.m)
