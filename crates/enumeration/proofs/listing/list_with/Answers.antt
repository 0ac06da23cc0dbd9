-- `list_with` meets its contract. Assumes nothing.
use mathlib.Core.List.{[], ◌∷◌}
use Prim.Native.Nat.{◌*◌}
use native.Mathlib.Omega.{arith}
use lib.ListN.{length-append}
use Rattle.enumeration.proofs.Lone.{first_among}
use Rattle.enumeration.proofs.Storing.{put_none}
use Rattle.enumeration.proofs.Joining.{room_less, last_found, last_none}
use Rattle.enumeration.proofs.listing.list_with.Goals as goal

pub completes-requires : goal.completes-requires
completes-requires c = let P = c.requires.sized in
    (P.0, P.1, P.3, P.4, rw P.3 (first_among _ _ _ _ c.requires.seen.0))

pub take_in-requires : goal.take_in-requires
take_in-requires c = let y = last_found c.args.cols.now c.args.first.now c.args.once.now c.args.some.now c.requires.seen.0 c.args.d (omega arith) c.requires.seen.1 (c.args.search.used * 64) (omega arith) c.completes.ensures c.if-completes.true in
    let z = length-append c.args.first.now (c.args.d ∷ []) in (
      omega (arith, rw y at c.requires.d_bound),
      room_less c.args.search.write _ _ _ (omega arith) (rw y at c.requires.d_in_bounds),
      c.requires.sized.2,
      c.requires.sized.1,
    )

pub returns-then-completes : goal.returns-then-completes
returns-then-completes c = rw (last_found c.args.cols.now c.args.first.now c.args.once.now c.args.some.now c.requires.seen.0 c.args.d (omega arith) c.requires.seen.1 (c.args.search.used * 64) (omega arith) c.completes.ensures c.if-completes.true) c.take_in.ensures

pub returns : goal.returns
returns c = rw (last_none c.args.cols.now c.args.first.now c.args.once.now c.args.some.now c.requires.seen.0 c.args.d (omega arith) c.requires.seen.1 (c.args.search.used * 64) (omega arith) c.completes.ensures c.if-completes.false) (put_none c.args.search.write c.args.sets.now c.args.at)
