-- What the loops of `put_set` keep.
use mathlib.Core.Path.{◌≡◌}
use Prim.Native.Nat.{◌≤◌}
use lib.ListN.{length, take}
use lib.Seq.{sets as setsOf}
use Rattle.enumeration.proofs.members.put_set.Given as goal

abbrev pub invariant-loop-i : goal.invariant-loop-i
invariant-loop-i l = (l.i ≤ 3) × (length l.sets ≡ length l.initial.sets) × (l.sets ≡ setsOf l.initial.sets l.at (take l.i l.first))
