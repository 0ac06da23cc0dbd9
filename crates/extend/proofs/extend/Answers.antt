-- `extend` meets its contract. Assumes nothing.
use Rattle.std.proofs.Common.{rules}
use mathlib.Core.Path.{◌≡◌, sym, ap, ◌∙◌}
use native.Mathlib.Omega.{arith}
use Rattle.parity.specs.Causes.{result_reply, no_values, refusal_of}
use Rattle.parity.proofs.Matrix.Accept.{accepts}
use Rattle.parity.proofs.Causes.Refused.{accepted_words}
use Rattle.parity.proofs.Words.Bytes.{Word, right_bytes}
use Rattle.parity.proofs.Words.Verifying.{extends}
use Rattle.extend.specs.Added.{extended_bytes}
use Rattle.sets.proofs.Above.{wrong_some, wrong_none}
use Rattle.extend.proofs.Outcome.{extend_refused, word_length, sent_length, sent_byte}
use Rattle.extend.proofs.extend.Goals as goal

pub returns-in_err-accept : goal.returns-in_err-accept
returns-in_err-accept c = let e : result_reply no_values c.from_residual.result ≡ refusal_of c.in_err-accept.field-0.0 = search rules in
    let f = extend_refused c.args.words.now c.args.n c.args.m c.args.k c.args.sent.now c.args.word.now c.in_err-accept.field-0.0 c.in_err-accept.ensures in
    (e ∙ ap (λ o. o.reply) (sym f), ap (λ o. o.after) (sym f))

pub overflow_add-n : goal.overflow_add-n
overflow_add-n c = let A = accepted_words c.args.words.now c.args.n c.args.m c.args.k c.in_ok-accept.ensures in
    omega (arith, A.sound.n120, A.sound.k392)

pub returns-then-word-n : goal.returns-then-word-n
returns-then-word-n c = let A = accepted_words c.args.words.now c.args.n c.args.m c.args.k c.in_ok-accept.ensures in
    let e = word_length c.args.words.now c.args.n c.args.m c.args.k c.args.sent.now c.args.word.now A c.if-word-n.true in
    (ap (λ o. o.reply) (sym e), ap (λ o. o.after) (sym e))

pub returns-then-sent-n : goal.returns-then-sent-n
returns-then-sent-n c = let A = accepted_words c.args.words.now c.args.n c.args.m c.args.k c.in_ok-accept.ensures in
    let e = sent_length c.args.words.now c.args.n c.args.m c.args.k c.args.sent.now c.args.word.now A c.if-word-n.false c.if-sent-n.true in
    (ap (λ o. o.reply) (sym e), ap (λ o. o.after) (sym e))

pub returns-in-Some : goal.returns-in-Some
returns-in-Some c = let A = accepted_words c.args.words.now c.args.n c.args.m c.args.k c.in_ok-accept.ensures in
    let (t, p) = wrong_some 1 c.args.sent.now _ (sym c.in-Some.is ∙ c.first_above.ensures) in
    let e = sent_byte c.args.words.now c.args.n c.args.m c.args.k c.args.sent.now c.args.word.now A c.if-word-n.false c.if-sent-n.false t in
    (rw p (ap (λ o. o.reply) (sym e)), ap (λ o. o.after) (sym e))

pub write_word-requires : goal.write_word-requires
write_word-requires c = let A = accepted_words c.args.words.now c.args.n c.args.m c.args.k c.in_ok-accept.ensures in
    let w = wrong_none 1 c.args.sent.now (sym c.in-None.is ∙ c.first_above.ensures) in
    ((accepts c.args.words.now c.args.n c.args.m c.args.k).1 A, c.if-word-n.false, c.if-sent-n.false, record { at = λ b l. (right_bytes 1 c.args.sent.now).0 w b (omega (arith, c.if-sent-n.false)) })

pub returns-in-None : goal.returns-in-None
unfolding extended_bytes
returns-in-None c = let A = accepted_words c.args.words.now c.args.n c.args.m c.args.k c.in_ok-accept.ensures in
    let w = wrong_none 1 c.args.sent.now (sym c.in-None.is ∙ c.first_above.ensures) in
    let W : Word c.args.n 1 c.args.sent.now =
    record { size = c.if-sent-n.false; bytes = λ b l. (right_bytes 1 c.args.sent.now).0 w b (omega (arith, c.if-sent-n.false)) } in
    let e = extends c.args.words.now c.args.n c.args.m c.args.k A c.args.sent.now c.args.word.now W c.if-word-n.false in
    (ap (λ o. o.reply) (sym e), c.write_word.ensures ∙ ap (λ o. o.after) (sym e))
