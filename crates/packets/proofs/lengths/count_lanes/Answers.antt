-- `lengths::count_lanes` meets its contract. Assumes nothing.
use mathlib.Core.Path.{refl}
use mathlib.Core.Path.{◌≡◌, sym, ◌∙◌}
use Prim.Native.Nat.{◌+◌, ◌*◌}
use native.Mathlib.Nat.{zero-mul}
use native.Mathlib.Numerals.{add-one}
use lib.ListN.{get_or, length}
use lib.Count.{ones-le}
use Rattle.parity.specs.Finite.{sum}
use Rattle.parity.proofs.Matrix.Lent.{weight}
use native.Mathlib.Omega.{arith}
use Rattle.packets.proofs.lengths.count_lanes.Goals as goal

pub loop-x-init : goal.loop-x-init
unfolding sum
loop-x-init c = (omega arith, omega arith, refl)

pub loop-x-preserved : goal.loop-x-preserved
unfolding sum
loop-x-preserved c = let l = c.loop-x in
    let odd = c.args.odd.now in
    let e : 0 * length odd + l.x-index ≡ l.x-index = omega (arith, zero-mul (length odd)) in
    let k = ones-le 64 (get_or odd l.x-index 0) (c.type_inv.odd l.x-index).fits in
    (omega arith, omega (arith, k, l.invariant.1), rw (add-one l.x-index) (rw e (omega (arith, l.invariant.2))))

pub returns : goal.returns
returns c = let l = c.loop-x in
    let e : l.x-index ≡ length c.args.odd.now = omega arith in
    (rw e at l.invariant.2) ∙ sym (weight (length c.args.odd.now) c.args.odd.now (λ i. (c.type_inv.odd i).fits) 0)
