-- `recover::each_back` meets its contract. Assumes nothing.
use mathlib.Core.Path.{◌≡◌, refl, ◌∙◌}
use Prim.Native.Nat.{suc, ◌+◌, ◌-◌}
use native.Mathlib.Numerals.{add-one}
use native.Mathlib.Omega.{arith}
use Rattle.carried.proofs.Standing.{standing_same, standing_start}
use Rattle.carried.proofs.Recovering.{taking_start, taking_next, taking_stops, taking_ends}
use Rattle.carried.proofs.recover.each_back.Goals as goal

pub loop-j-init : goal.loop-j-init
loop-j-init c = let S = c.requires.sound.0 in
    rw (standing_start _ _ _ _ _ S.clean c.requires.sound.1) (c.requires.with_columns.1, taking_start _ _ _ _ S, c.requires.sound.1)

pub returns-then-not-back_one : goal.returns-then-not-back_one
returns-then-not-back_one c = let E = c.back_one in
    let l = c.loop-j in
    let e : l.j - 1 + 1 ≡ suc (l.j - 1) = add-one (l.j - 1) in
    let f : suc (l.j - 1) ≡ l.j = omega arith in
    record { all_back = taking_stops _ _ _ _ _ (l.j - 1) c.requires.sound.0 (rw f l.invariant.1) _ E.result (rw e at E.ensures.back_one) c.if-not-back_one.true _; columns = standing_same _ _ _ _ _ E.ensures.columns }

pub loop-j-preserved : goal.loop-j-preserved
loop-j-preserved c = let E = c.back_one in
    let l = c.loop-j in
    let e : l.j - 1 + 1 ≡ suc (l.j - 1) = add-one (l.j - 1) in
    let f : suc (l.j - 1) ≡ l.j = omega arith in
    (E.auto.cols ∙ l.invariant.0, taking_next _ _ _ _ _ (l.j - 1) c.requires.sound.0 (rw f l.invariant.1) _ E.result (rw e at E.ensures.back_one) c.if-not-back_one.false, E.ensures.columns)

pub returns : goal.returns
returns c = let l = c.loop-j in
    let z : l.j ≡ 0 = omega arith in
    let T = rw z at l.invariant.1 in
    record { all_back = taking_ends _ _ _ _ _ _ refl c.requires.sound.0 T; columns = standing_same _ _ _ _ _ l.invariant.2 }
