-- `order::settle_listed` meets its contract. Assumes nothing.
use mathlib.Core.Path.{◌≡◌, ◌∙◌}
use Prim.Native.Nat.{ℕ, ◌+◌, ◌*◌, ◌<◌, ◌≤◌}
use lib.Dec.{ltb}
use Rattle.parity.specs.Matrix.{lent}
use Rattle.parity.proofs.Finite.Sums.{count_pos, count_bound}
use Rattle.steps.proofs.Held.{less_work}
use Rattle.search.proofs.Listing.{live_listed, live_over}
use Rattle.plan.proofs.Ordering.{ordered_none, ordered_noted, noted_less, lone_narrow, single_narrow, short_noted, live_noted}
use native.Mathlib.Omega.{arith}
use Rattle.plan.proofs.order.settle_listed.Goals as goal

room : (s a b n : ℕ) → s + a ≡ b → b ≤ n → 0 < a → s < n
room s a b n e k l = omega arith

pub loop-alone-init : goal.loop-alone-init
loop-alone-init c = (c.requires.empty.1, c.requires.words_len.2, c.requires.words_len.3, c.requires.words_len.5, ordered_none _ _ _ _ _ _ _ c.requires.empty.0, c.requires.words_len.6, c.requires.words_len.1, omega arith, omega arith, live_listed _ _ _ _ _ c.requires.empty.2)

pub note-requires : goal.note-requires
note-requires c = let l = c.loop-alone in
    let A = rw c.in-Some.is at c.next_in-next.ensures in
    let L = lone_narrow _ _ _ _ _ _ _ (omega (arith, c.requires.words_len.4)) l.invariant.5 A.lone in
    let k = room _ _ _ 512 l.invariant.4.fewer (omega (arith, count_bound (c.args.used * 64) (lent 8 c.args.erased.now 0), c.requires.words_len.4)) (count_pos _ _ _ L.bit L.gone) in
    (l.invariant.1, omega (arith, k, l.invariant.3), omega (arith, A.lone.check, c.requires.words_len.1), A.lone.bit)

pub overflow_add-s : goal.overflow_add-s
overflow_add-s c = omega (arith, c.loop-alone.invariant.4.fewer, count_bound (c.args.used * 64) (lent 8 c.args.erased.now 0), c.requires.words_len.4)

pub loop-alone-smaller-in-Some : goal.loop-alone-smaller-in-Some
loop-alone-smaller-in-Some c = let l = c.loop-alone in
    let A = rw c.in-Some.is at c.next_in-next.ensures in
    let L = lone_narrow _ _ _ _ _ _ _ (omega (arith, c.requires.words_len.4)) l.invariant.5 A.lone in
    less_work _ _ (ltb 0 (c.in-Some.alone.place + 1)) (ltb 0 l.from) (noted_less _ _ _ _ _ _ _ L c.note.ensures.left_after)

pub loop-alone-preserved-in-Some : goal.loop-alone-preserved-in-Some
loop-alone-preserved-in-Some c = let l = c.loop-alone in
    let n = c.note in
    let d = c.raise in
    let A = rw c.in-Some.is at c.next_in-next.ensures in
    let L = lone_narrow _ _ _ _ _ _ _ (omega (arith, c.requires.words_len.4)) l.invariant.5 A.lone in
    let k = room _ _ _ 512 l.invariant.4.fewer (omega (arith, count_bound (c.args.used * 64) (lent 8 c.args.erased.now 0), c.requires.words_len.4)) (count_pos _ _ _ L.bit L.gone) in (
      c.next_in-next.auto.live ∙ l.invariant.0,
      n.auto.left ∙ l.invariant.1,
      d.auto.rows ∙ l.invariant.2,
      n.auto.steps ∙ l.invariant.3,
      ordered_noted _ _ _ _ _ _ _ _ _ _ _ _ _ l.invariant.4 L n.ensures.left_after d.ensures n.ensures.steps_after (omega (arith, k, l.invariant.3)),
      short_noted _ _ _ _ l.invariant.5 n.ensures.left_after,
      l.invariant.6,
      omega (arith, A.ahead),
      omega (arith, A.below),
      live_noted _ _ _ _ _ _ _ _ _ _ _ A.lone n.ensures.left_after A.here A.live,
    )

pub returns : goal.returns
returns c = let l = c.loop-alone in
    let A = rw c.in-None.is at c.next_in-next.ensures in
    record { order = l.invariant.4; over = single_narrow _ _ _ _ _ _ (omega (arith, c.requires.words_len.4)) l.invariant.5 (live_over _ _ _ _ _ _ _ _ A (omega (arith, l.invariant.7))) }
