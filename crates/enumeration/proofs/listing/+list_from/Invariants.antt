-- The cycle of calls of `list_from`, which ends because fewer members are left at each, and what its loop keeps.
use mathlib.Core.Path.{◌≡◌}
use Prim.Native.Nat.{◌+◌, ◌*◌}
use lib.ListN.{length}
use Rattle.enumeration.specs.Search.{across}
use Rattle.enumeration.proofs.Joining.{Searched, next_of}
use Rattle.enumeration.proofs.listing.+list_from.Given as goal

abbrev pub decreases-list_from : goal.decreases-list_from
decreases-list_from l = l.left

abbrev pub invariant-loop-d : goal.invariant-loop-d
invariant-loop-d l = (l.len ≡ length l.first + 1)
    × Searched l.search.write l.initial.sets l.sets l.at l.from l.d l.search.bits (next_of (across l.cols) (l.search.used * 64) l.search.bits (l.left + 1) l.first) l.place
