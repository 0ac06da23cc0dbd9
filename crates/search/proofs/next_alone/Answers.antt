-- `next_alone` meets its contract. Assumes nothing.
use mathlib.Core.Path.{◌≡◌, refl, ◌∙◌}
use native.Mathlib.Omega.{arith}
use lib.ListN.{length-set}
use Rattle.parity.proofs.Matrix.Ones.{trailing_lowest}
use Rattle.search.proofs.Offset.{rest_next, rest_second}
use Rattle.search.proofs.Seen.{bits_start, bits_end, bits_first, bits_second, row_lone, row_zero}
use Rattle.search.proofs.Listing.{none_wider, more_wider, lone_wider, searched_none, searched_kept}
use Rattle.search.proofs.next_alone.Goals as goal

pub scan-preserved-then-seen : goal.scan-preserved-then-seen
scan-preserved-then-seen c = let I = c.offsets.invariant in
    let L = trailing_lowest 64 _ I.5.left.fits c.offsets-test.true in
    let z = rest_second _ _ _ _ _ _ _ I.5 _ L c.if-seen.true in
    let w = more_wider _ 512 _ _ _ (omega (arith, c.requires.5)) c.requires.8 z in
    (simp length-set I.2, searched_kept _ _ _ _ _ _ _ _ _ I.4 (omega arith) (omega (arith, I.2, c.requires.3)) (rw I.3 w))

pub offsets-preserved : goal.offsets-preserved
offsets-preserved c = let I = c.offsets.invariant in
    let L = trailing_lowest 64 _ I.5.left.fits c.offsets-test.true in
    (I.0, I.1, I.2, I.3, I.4, rest_next _ _ _ _ _ _ _ I.5 _ L)

pub bits-init : goal.bits-init
bits-init c = let l = c.row in
    (refl, omega arith, l.invariant.2, l.invariant.3, l.invariant.4, l.invariant.5, bits_start _ _ _ _ _ _ _ (omega arith) (omega arith) l.invariant.6 (c.type_inv.words _).fits)

pub scan-preserved-then-b-used : goal.scan-preserved-then-b-used
scan-preserved-then-b-used c = let I = c.bits.invariant in
    let L = trailing_lowest 64 _ I.6.fits c.bits-test.true in
    let z = bits_second _ _ _ _ _ _ _ I.1 (omega arith) _ I.6 _ L c.if-b-used.true in
    let w = more_wider _ 512 _ _ _ (omega (arith, c.requires.5)) c.requires.8 z in
    (simp length-set I.3, searched_kept _ _ _ _ _ _ _ _ _ I.5 (omega arith) (omega (arith, I.3, c.requires.3)) (rw I.4 w))

pub bits-preserved : goal.bits-preserved
bits-preserved c = let I = c.bits.invariant in
    let L = trailing_lowest 64 _ I.6.fits c.bits-test.true in
    (I.0, I.1, I.2, I.3, I.4, I.5, bits_first _ _ _ _ _ _ _ I.1 (omega arith) _ I.6 _ L (λ k. omega (arith, c.if-b-used.false)))

pub row-preserved : goal.row-preserved
row-preserved c = let I = c.bits.invariant in
    (I.0 ∙ c.row.invariant.0, omega arith, I.2, I.3, I.4, I.5, bits_end _ _ _ _ _ _ _ I.1 (omega arith) _ I.6 c.bits-test.false)

pub scan-preserved : goal.scan-preserved
scan-preserved c = let i : c.row.i ≡ c.args.used = omega arith in
    let z = row_zero _ _ _ _ _ _ _ i c.row.invariant.6 (λ k. omega (arith, c.if-b-used-2.false)) in
    let w = none_wider _ 512 _ _ _ (omega (arith, c.requires.5)) c.requires.8 z in
    (c.row.invariant.3, searched_none _ _ _ _ _ _ _ _ _ c.row.invariant.5 (omega arith) (rw c.row.invariant.4 w))

pub returns-then-b-used-2 : goal.returns-then-b-used-2
returns-then-b-used-2 c = let i : c.row.i ≡ c.args.used = omega arith in
    let L = row_lone _ _ _ _ _ _ _ i c.row.invariant.6 _ c.row.invariant.2 c.if-b-used-2.true in
    let S = c.row.invariant.5 in
    record { lone = lone_wider _ 512 _ _ _ (omega (arith, c.requires.5)) c.requires.8 _ _ L; live = S.live; here = c.row.invariant.4; ahead = S.ahead; below = omega arith }
