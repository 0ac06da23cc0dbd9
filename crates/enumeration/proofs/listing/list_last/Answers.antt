-- `list_last` meets its contract. Assumes nothing.
use mathlib.Core.Path.{refl}
use Prim.Native.Nat.{◌*◌}
use native.Mathlib.Omega.{arith}
use Rattle.enumeration.specs.Search.{across, decided, last_of}
use Rattle.enumeration.proofs.Inside.{under_later}
use Rattle.enumeration.proofs.Storing.{put_length}
use Rattle.enumeration.proofs.Joining.{listed_one, searched_none, searched_next, searched_fits, searched_room, searched_all}
use Rattle.enumeration.proofs.listing.list_last.Goals as goal

pub loop-d-init : goal.loop-d-init
loop-d-init c = searched_none _ _ _ _ _ _

pub list_with-place-requires : goal.list_with-place-requires
list_with-place-requires c = let l = c.loop-d in
    let P = c.requires in
    let e = listed_one (across c.args.cols.now) (c.args.search.used * 64) c.args.search.bits c.args.first.now c.args.from in record {
      sized = (P.sized.0, omega arith, P.sized.2, refl, unfold decided in refl);
      seen = (P.begun.0, under_later _ _ _ P.begun.1 l.invariant.from);
      d_bound = searched_fits c.args.search.write c.args.sets.now l.sets c.args.at c.args.from l.d c.args.search.bits (last_of (across c.args.cols.now) (c.args.search.used * 64) c.args.first.now) l.place l.invariant 1099511627776 (omega arith) (rw e at P.from_bound);
      d_in_bounds = searched_room c.args.search.write c.args.sets.now l.sets c.args.at c.args.from l.d c.args.search.bits (last_of (across c.args.cols.now) (c.args.search.used * 64) c.args.first.now) l.place l.invariant (omega arith) (rw e at P.from_in_bounds);
    }

pub loop-d-preserved : goal.loop-d-preserved
loop-d-preserved c = let l = c.loop-d in
    searched_next c.args.search.write c.args.sets.now l.sets c.args.at c.args.from l.d c.args.search.bits (last_of (across c.args.cols.now) (c.args.search.used * 64) c.args.first.now) l.place l.invariant _ _ (omega arith) c.list_with-place.ensures

pub shape_of-sets : goal.shape_of-sets
shape_of-sets c = put_length _ _ _ _ _ _ c.loop-d.invariant.put

pub returns : goal.returns
returns c = let l = c.loop-d in
    rw (listed_one (across c.args.cols.now) (c.args.search.used * 64) c.args.search.bits c.args.first.now c.args.from) (searched_all c.args.search.write c.args.sets.now l.sets c.args.at c.args.from l.d c.args.search.bits (last_of (across c.args.cols.now) (c.args.search.used * 64) c.args.first.now) l.place l.invariant (omega arith))
