-- `list_pairs` meets its contract. Assumes nothing.
use mathlib.Core.Path.{refl, sym}
use mathlib.Core.List.{[], ◌∷◌}
use Prim.Native.Nat.{◌+◌, ◌*◌}
use native.Mathlib.Omega.{arith}
use lib.ListN.{length, length-append, length-set}
use lib.Seq.{length-take-le}
use Rattle.enumeration.proofs.Storing.{put_length, begun, begun_set, begun_more}
use Rattle.enumeration.proofs.Joining.{searched_none, next_call, next_listed, next_all}
use Rattle.enumeration.proofs.listing.list_pairs.Goals as goal

pub longer-more-requires : goal.longer-more-requires
longer-more-requires c = (omega arith, omega arith)

pub loop-d-init : goal.loop-d-init
loop-d-init c = (refl, begun _ _ _ c.longer-more.ensures, searched_none _ _ _ _ _ _)

pub offset_bounds-more-len : goal.offset_bounds-more-len
offset_bounds-more-len c = omega (arith, c.requires.sized.2)

pub bounds-more-len : goal.bounds-more-len
bounds-more-len c = omega (arith, c.requires.sized.2, c.loop-d.invariant.1.size)

pub overflow_add-more : goal.overflow_add-more
overflow_add-more c = omega (arith, c.requires.sized.2)

pub slice_bounds-more-end : goal.slice_bounds-more-end
slice_bounds-more-end c = let l = c.loop-d in
    omega (arith, length-set l.more (length c.args.first.now) c.member.result, l.invariant.1.size, c.requires.sized.2)

pub slice_bounds-list_last-end-in-loop-d-2 : goal.slice_bounds-list_last-end-in-loop-d-2
slice_bounds-list_last-end-in-loop-d-2 c = let l = c.loop-d in
    let z = length-set l.more (length c.args.first.now) c.member.result in
    sym (length-take-le (length c.args.first.now + 1) _ (omega (arith, z, l.invariant.1.size, c.requires.sized.2)))

pub list_last-place-requires : goal.list_last-place-requires
list_last-place-requires c = let l = c.loop-d in
    let P = c.requires in
    let g = begun_more c.args.first.now l.more c.member.result l.invariant.1 l.d c.member.ensures (omega (arith, c.requires.sized.2)) in
    let X = c.once_with-x.ensures in
    let Y = c.some_with-u.ensures in
    let F = next_call c.args.cols.now c.args.first.now (c.args.search.used * 64) c.args.search.bits 1 2 refl l.invariant.2 1 refl g (omega arith) P.begun.0 P.begun.1 P.sized.1 X Y 1099511627776 (P.from_bound, P.from_in_bounds) in record {
      sized = (record { columns = P.sized.0.columns; once = X.size; some = Y.size; least = P.sized.0.least; most = P.sized.0.most }, P.sized.1, rw (g, length-append c.args.first.now (l.d ∷ [])) (omega (arith, P.sized.2)));
      begun = F.0;
      from_bound = F.1.0;
      from_in_bounds = F.1.1;
    }

pub loop-d-preserved : goal.loop-d-preserved
loop-d-preserved c = let l = c.loop-d in
    let g = begun_more c.args.first.now l.more c.member.result l.invariant.1 l.d c.member.ensures (omega (arith, c.requires.sized.2)) in
    (refl, begun_set c.args.first.now l.more c.member.result l.invariant.1, next_listed c.args.cols.now c.args.first.now (c.args.search.used * 64) c.args.search.bits 1 2 refl l.invariant.2 1 refl g (omega arith) c.list_last-place.ensures)

pub shape_of-sets : goal.shape_of-sets
shape_of-sets c = put_length _ _ _ _ _ _ c.loop-d.invariant.2.put

pub returns : goal.returns
returns c = let l = c.loop-d in
    next_all c.args.cols.now c.args.first.now (c.args.search.used * 64) c.args.search.bits 1 2 refl l.invariant.2 (omega arith)
