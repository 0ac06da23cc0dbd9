-- `message::place` meets its contract. Assumes nothing.
use Rattle.message_bits.proofs.Placing.{place_start, place_end, place_room, place_pivot, place_other}
use native.Mathlib.Omega.{arith}
use mathlib.Core.Path.{refl, sym, ◌∙◌}
use Rattle.message_bits.proofs.message.place.Goals as goal
use Rattle.message_bits.proofs.message.place.Goals.{then-is_next, else-is_next}

pub loop-b-init : goal.loop-b-init
loop-b-init c = (refl, omega arith, place_start _ _ _ c.requires.1 _ _ refl)

pub bounds-message-q : goal.bounds-message-q
bounds-message-q c = let l = c.loop-b in
    place_room _ _ _ c.requires.1 _ l.word _ _ _ l.invariant.2 (omega arith) (sym c.is_next.ensures ∙ c.if-is_next.false) _ c.requires.0

pub overflow_add-q : goal.overflow_add-q
overflow_add-q c = let l = c.loop-b in
    let room = place_room _ _ _ c.requires.1 _ l.word _ _ _ l.invariant.2 (omega arith) (sym c.is_next.ensures ∙ c.if-is_next.false) _ c.requires.0 in
    omega arith

pub loop-b-preserved : goal.loop-b-preserved
loop-b-preserved c = let l = c.loop-b in
    let A = c.requires.1 in
    (elim c.if-is_next.branch [ then-is_next w ↦ rw (w.word-is, w.p-is, w.q-is) (l.invariant.0, omega arith, place_pivot _ _ _ A _ _ _ _ _ l.invariant.2 (omega arith) (sym c.is_next.ensures ∙ w.if-is_next.true)) | else-is_next w ↦ rw (w.word-is, w.p-is, w.q-is) (l.invariant.0, omega arith, place_other _ _ _ A _ _ _ _ _ l.invariant.2 (omega arith) (sym c.is_next.ensures ∙ w.if-is_next.false)) ])

pub returns : goal.returns
returns c = place_end _ _ _ c.requires.1 _ _ _ _ _ (omega arith) c.loop-b.invariant.2
