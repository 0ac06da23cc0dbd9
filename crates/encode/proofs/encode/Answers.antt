-- `encode` meets its contract. Assumes nothing.
use Rattle.std.proofs.Common.{rules}
use mathlib.Core.Path.{◌≡◌, ap, ◌∙◌}
use native.Mathlib.Omega.{arith}
use Rattle.parity.specs.Causes.{refusal_of, result_reply, no_values}
use Rattle.parity.proofs.Causes.Refused.{accepted_words}
use Rattle.encode.proofs.Told.{encode_first, encode_added, encode_length, encode_given}
use Rattle.encode.proofs.encode.Goals as goal

pub returns-in_err-accept : goal.returns-in_err-accept
returns-in_err-accept c = let e : result_reply no_values c.from_residual.result ≡ refusal_of c.in_err-accept.field-0.0 = search rules in
    let r = encode_first c.args.words.now c.args.n c.args.m c.args.k c.args.message.now c.args.word.now c.in_err-accept.field-0.0 c.in_err-accept.ensures in
    record { result_value = e ∙ r.0; word_after = r.1 }

pub returns-then-k-ne0 : goal.returns-then-k-ne0
returns-then-k-ne0 c = let r = encode_added c.args.words.now c.args.n c.args.m c.args.k c.args.message.now c.args.word.now (accepted_words c.args.words.now c.args.n c.args.m c.args.k c.in_ok-accept.ensures) c.if-k-ne0.true in
    record { result_value = r.0; word_after = r.1 }

pub returns-then-word-n : goal.returns-then-word-n
returns-then-word-n c = let r = encode_length c.args.words.now c.args.n c.args.m c.args.k c.args.message.now c.args.word.now (accepted_words c.args.words.now c.args.n c.args.m c.args.k c.in_ok-accept.ensures) c.if-k-ne0.false c.if-word-n.true in
    record { result_value = r.0; word_after = r.1 }

pub encode_given-requires : goal.encode_given-requires
encode_given-requires c = let A = accepted_words c.args.words.now c.args.n c.args.m c.args.k c.in_ok-accept.ensures in
    (A.words, A.sound.m120, omega (arith, A.sound.n120, c.if-word-n.false))

pub returns : goal.returns
returns c = let e = encode_given c.args.words.now c.args.n c.args.m c.args.k c.args.message.now c.args.word.now (accepted_words c.args.words.now c.args.n c.args.m c.args.k c.in_ok-accept.ensures) c.if-k-ne0.false c.if-word-n.false in
    let G = c.encode_given.ensures in
    record { result_value = G.result_value ∙ ap (λ o. o.reply) e; word_after = G.word_after ∙ ap (λ o. o.after) e }
