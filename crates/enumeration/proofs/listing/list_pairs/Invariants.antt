-- What the loops of `list_pairs` keep.
use mathlib.Core.Path.{◌≡◌}
use Prim.Native.Nat.{◌*◌}
use lib.ListN.{length}
use Rattle.enumeration.specs.Search.{across}
use Rattle.enumeration.proofs.Storing.{Begun}
use Rattle.enumeration.proofs.Joining.{Searched, next_of}
use Rattle.enumeration.proofs.listing.list_pairs.Given as goal

abbrev pub invariant-loop-d : goal.invariant-loop-d
invariant-loop-d l = (l.len ≡ length l.first) × Begun l.first l.more
    × Searched l.search.write l.initial.sets l.sets l.at l.from l.d l.search.bits (next_of (across l.cols) (l.search.used * 64) l.search.bits 1 l.first) l.place
