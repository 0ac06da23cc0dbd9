-- `mark` meets its contract. Assumes nothing.
use Rattle.message_bits.proofs.Told.{few, rising, front_length, front, marked, front_ones}
use lib.ListN.{length, take, length-replicate}
use lib.Seq.{length-take-le}
use Prim.Native.Nat.{ℕ, ◌-◌}
use native.Mathlib.Omega.{arith}
use mathlib.Core.Path.{ap, ◌∙◌}
use Rattle.message_bits.proofs.mark.Goals as goal

pub slice_bounds-message-count : goal.slice_bounds-message-count
slice_bounds-message-count c = few _ _ _ _ _ _ c.eliminate-r.ensures

pub place-requires : goal.place-requires
place-requires c = let o = c.all_ones-message in
    let e = c.eliminate-r in
    let l = length-take-le (length c.args.set.now - e.result) o.result (omega (arith, c.requires.2, ap length o.ensures ∙ length-replicate {A = ℕ} 120 1)) in
    let p = front_length _ _ _ _ _ _ e.ensures (omega (arith, e.auto.pivots, c.requires.1)) in
    rw p (omega (arith, l, few _ _ _ _ _ _ e.ensures), rising _ _ _ _ _ _ (front _ _ _ _ _ _ e.ensures))

pub returns : goal.returns
returns c = let o = c.all_ones-message in
    let e = c.eliminate-r in
    let p = front_length _ _ _ _ _ _ e.ensures (omega (arith, e.auto.pivots, c.requires.1)) in
    marked _ _ _ _ _ _ (front _ _ _ _ _ _ e.ensures) (take (length c.args.set.now - e.result) o.result) _ (rw p at c.place.ensures)
    (front_ones o.result o.ensures (length c.args.set.now - e.result) (omega (arith, c.requires.2)))
