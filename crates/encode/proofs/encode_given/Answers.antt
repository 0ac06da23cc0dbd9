-- `encode_given` meets its contract. Assumes nothing.
use Rattle.rank.proofs.Told.{is_rank}
use Rattle.message_bits.proofs.Told.{rising, front_length, front}
use Rattle.encode.proofs.Told.{opened, codeword_read, given_length, given_byte, given_written}
use Rattle.sets.proofs.Above.{wrong_some, wrong_none}
use native.Mathlib.Omega.{arith}
use mathlib.Core.Path.{sym, ◌∙◌}
use Rattle.encode.proofs.encode_given.Goals as goal

pub returns-then-message-r : goal.returns-then-message-r
returns-then-message-r c = let r = given_length c.args.words.now c.args.m c.args.message.now c.args.word.now _ (is_rank _ _ _ _ _ _ c.eliminate-r.ensures) c.if-message-r.true in
    record { result_value = r.0; word_after = r.1 }

pub returns-in-Some : goal.returns-in-Some
returns-in-Some c = let (e, f) = wrong_some 1 c.args.message.now _ (sym c.in-Some.is ∙ c.first_above.ensures) in
    let r = given_byte c.args.words.now c.args.m c.args.message.now c.args.word.now _ (is_rank _ _ _ _ _ _ c.eliminate-r.ensures) c.if-message-r.false _ f e in
    record { result_value = r.0; word_after = r.1 }

pub place-requires : goal.place-requires
place-requires c = let e = c.eliminate-r in
    rw (front_length _ _ _ _ _ _ e.ensures (omega (arith, e.auto.pivots, c.requires.1))) (c.if-message-r.false, rising _ _ _ _ _ _ (front _ _ _ _ _ _ e.ensures))

pub fill-requires : goal.fill-requires
fill-requires c = let e = c.eliminate-r in
    let p = c.place in
    let k = p.auto.word in
    let l = front_length _ _ _ _ _ _ e.ensures (omega (arith, e.auto.pivots, c.requires.1)) in
    rw l (record { rows_len = (e.auto.rows, omega (arith, e.ensures.reduction.form.few), omega (arith, k)); fact = rw k (opened _ _ _ _ _ _ (front _ _ _ _ _ _ e.ensures) c.args.message.now _ (rw l at p.ensures)) })

pub returns-in-None : goal.returns-in-None
returns-in-None c = let R = c.eliminate-r.ensures in
    let right = wrong_none 1 c.args.message.now (sym c.in-None.is ∙ c.first_above.ensures) in
    let p = c.place in
    let f = c.fill in
    let l = front_length _ _ _ _ _ _ R (omega (arith, c.eliminate-r.auto.pivots, c.requires.1)) in
    let r = given_written c.args.words.now c.args.m c.args.message.now c.args.word.now _ (is_rank _ _ _ _ _ _ R) c.if-message-r.false right _
    (codeword_read _ _ _ _ _ _ (front _ _ _ _ _ _ R) c.args.message.now _ (rw l at p.ensures) right _ (f.auto.word ∙ p.auto.word) (rw (p.auto.word, l) at f.ensures)) in
    record { result_value = r.0; word_after = r.1 }
