-- What the loops of `list_last` keep.
use Prim.Native.Nat.{◌*◌}
use Rattle.enumeration.specs.Search.{across, last_of}
use Rattle.enumeration.proofs.Joining.{Searched}
use Rattle.enumeration.proofs.listing.list_last.Given as goal

abbrev pub invariant-loop-d : goal.invariant-loop-d
invariant-loop-d l = Searched l.search.write l.initial.sets l.sets l.at l.from l.d l.search.bits (last_of (across l.cols) (l.search.used * 64) l.first) l.place
