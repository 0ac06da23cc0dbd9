-- `tiles::copy_eights` meets its contract. Assumes nothing.
use mathlib.Core.Path.{◌≡◌, refl}
use Prim.Native.Nat.{◌+◌, ◌-◌}
use native.Mathlib.Nat.{zero-add}
use native.Mathlib.Omega.{arith}
use Rattle.rows.specs.Whole.{word_from}
use Rattle.rows.proofs.Writing.{written_part, written_copy}
use Rattle.lanes.proofs.Writing.{eight_more, written_rest}
use Rattle.lanes.proofs.tiles.copy_eights.Goals as goal

pub loop-done-preserved : goal.loop-done-preserved
loop-done-preserved c = let l = c.loop-done in
    let s = c.args in
    let E = c.eight_of-eight in
    let e : s.b + l.done + 8 - (s.b + l.done) ≡ 8 = omega arith in (
      omega arith,
      eight_more s.from.now s.a _ _ _ s.b l.done _ l.invariant.1 E.ensures
          (rw (e, c.copy_from_slice.ensures.after) (written_part l.to E.result (s.b + l.done) 8 (word_from E.result 0) (omega (arith, l.invariant.1.long)) E.ensures.size (λ j k. rw (zero-add j) refl))),
    )

pub returns-then-done-count : goal.returns-then-done-count
returns-then-done-count c = let l = c.loop-done in
    let s = c.args in
    written_rest s.from.now s.a _ _ _ _ _ _ l.invariant.0 l.invariant.1
    (written_copy _ _ _ _ _ _ _ _ (omega (arith, l.invariant.1.long)) (omega arith) (omega arith) (omega arith) c.copy_from_slice-then-done-count.ensures.after)
