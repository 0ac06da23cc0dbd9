-- `solve_all` meets its contract. Assumes nothing.
use mathlib.Core.Path.{◌∙◌}
use Prim.Native.Nat.{◌+◌}
use native.Mathlib.Omega.{arith}
use lib.Dec.{ltb}
use Rattle.search.proofs.Listing.{live_listed}
use Rattle.steps.specs.Steps.{start, next}
use Rattle.steps.proofs.Held.{fewer, less_work, short_solved, short_valued}
use Rattle.steps.proofs.Listing.{live_solved}
use Rattle.steps.proofs.solve_all.Goals as goal

pub loop-alone-init : goal.loop-alone-init
loop-alone-init c = let p = c.requires in
    (p.2, p.3, p.4, start, p.6, p.7, p.1, omega arith, omega arith, live_listed _ _ _ _ _ p.8)

pub loop-alone-smaller-in-Some : goal.loop-alone-smaller-in-Some
loop-alone-smaller-in-Some c = let A = rw c.in-Some.is at c.next_in-next.ensures in
    less_work _ _ (ltb 0 (c.in-Some.alone.place + 1)) (ltb 0 c.loop-alone.from) (fewer _ _ _ _ _ _ _ _ _ A.lone c.solve.ensures)

pub loop-alone-preserved-in-Some : goal.loop-alone-preserved-in-Some
loop-alone-preserved-in-Some c = let A = rw c.in-Some.is at c.next_in-next.ensures in
    (c.next_in-next.auto.live ∙ c.loop-alone.invariant.0, c.solve.auto.erased ∙ c.loop-alone.invariant.1, c.solve.auto.ones ∙ c.loop-alone.invariant.2, next c.loop-alone.invariant.3 _ _ A.lone c.solve.ensures, short_solved _ _ _ _ _ _ _ _ _ c.loop-alone.invariant.4 c.solve.ensures, short_valued _ _ _ _ _ _ _ _ _ c.loop-alone.invariant.4 A.lone.gone c.loop-alone.invariant.5 c.solve.ensures, c.loop-alone.invariant.6, omega (arith, A.ahead), omega (arith, A.below), live_solved _ _ _ _ _ _ _ _ _ A.lone c.solve.ensures _ _ _ _ A.here A.live)
