-- `list_from` meets its contract, where each call that it makes of itself does. Assumes nothing.
use mathlib.Core.Path.{refl}
use mathlib.Core.List.{[], ◌∷◌}
use Prim.Native.Nat.{◌+◌, ◌*◌, ◌-◌}
use native.Mathlib.Omega.{arith}
use lib.ListN.{length-append}
use Rattle.enumeration.proofs.Joining.{searched_none, next_call, next_listed, next_all}
use Rattle.enumeration.proofs.listing.+list_from.Goals as goal

pub loop-d-init : goal.loop-d-init
loop-d-init t c = (refl, searched_none _ _ _ _ _ _)

pub list_from-place-requires : goal.list_from-place-requires
list_from-place-requires t c = let l = c.loop-d in
    let s = c.args in
    let P = c.requires in
    let z = c.if-left-eq0.false in
    let g = c.longer-more.ensures.front in
    let X = c.once_with-x.ensures in
    let Y = c.some_with-u.ensures in
    let F = next_call s.cols.now s.first.now (s.search.used * 64) s.search.bits (s.left + 1) (s.left + 2) (omega arith) l.invariant.1 (s.left - 1 + 2) (omega (arith, z)) g (omega arith) P.begun.0 P.begun.1 P.sized.1 X Y 1099511627776 (P.from_bound, P.from_in_bounds) in (
      omega (arith, c.decreases, z),
      (
        (record { columns = P.sized.0.columns; once = X.size; some = Y.size; least = P.sized.0.least; most = P.sized.0.most }, P.sized.1, rw (g, length-append s.first.now (l.d ∷ [])) (omega (arith, P.sized.2, z))),
        F,
      ),
    )

pub loop-d-preserved : goal.loop-d-preserved
loop-d-preserved t c = let l = c.loop-d in
    let s = c.args in
    (refl, next_listed s.cols.now s.first.now (s.search.used * 64) s.search.bits (s.left + 1) (s.left + 2) (omega arith) l.invariant.1 (s.left - 1 + 2) (omega (arith, c.if-left-eq0.false)) c.longer-more.ensures.front (omega arith) c.list_from-place.ensures)

pub returns : goal.returns
returns t c = let l = c.loop-d in
    let s = c.args in
    next_all s.cols.now s.first.now (s.search.used * 64) s.search.bits (s.left + 1) (s.left + 2) (omega arith) l.invariant.1 (omega arith)
