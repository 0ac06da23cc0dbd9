-- `message_bits` meets its contract. Assumes nothing.
use Rattle.std.proofs.Common.{rules}
use mathlib.Core.Path.{◌≡◌, ◌∙◌}
use native.Mathlib.Omega.{arith}
use Rattle.parity.specs.Causes.{refusal_of, result_reply, no_values}
use Rattle.parity.proofs.Causes.Refused.{accepted_words}
use Rattle.message_bits.proofs.Told.{mark_first, mark_added, mark_length, mark_made}
use Rattle.message_bits.proofs.message_bits.Goals as goal

pub returns-in_err-accept : goal.returns-in_err-accept
returns-in_err-accept c = let e : result_reply no_values c.from_residual.result ≡ refusal_of c.in_err-accept.field-0.0 = search rules in
    let r = mark_first c.args.words.now c.args.n c.args.m c.args.k c.args.set.now c.in_err-accept.field-0.0 c.in_err-accept.ensures in
    record { result_value = e ∙ r.0; set_after = r.1 }

pub returns-then-k-ne0 : goal.returns-then-k-ne0
returns-then-k-ne0 c = let r = mark_added c.args.words.now c.args.n c.args.m c.args.k c.args.set.now (accepted_words c.args.words.now c.args.n c.args.m c.args.k c.in_ok-accept.ensures) c.if-k-ne0.true in
    record { result_value = r.0; set_after = r.1 }

pub returns-then-set-n : goal.returns-then-set-n
returns-then-set-n c = let r = mark_length c.args.words.now c.args.n c.args.m c.args.k c.args.set.now (accepted_words c.args.words.now c.args.n c.args.m c.args.k c.in_ok-accept.ensures) c.if-k-ne0.false c.if-set-n.true in
    record { result_value = r.0; set_after = r.1 }

pub mark-requires : goal.mark-requires
mark-requires c = let A = accepted_words c.args.words.now c.args.n c.args.m c.args.k c.in_ok-accept.ensures in
    (A.words, A.sound.m120, omega (arith, A.sound.n120, c.if-set-n.false))

pub returns : goal.returns
returns c = let r = mark_made c.args.words.now c.args.n c.args.m c.args.k c.args.set.now (accepted_words c.args.words.now c.args.n c.args.m c.args.k c.in_ok-accept.ensures) c.if-k-ne0.false c.if-set-n.false c.mark.new.set c.mark.ensures in
    record { result_value = r.0; set_after = r.1 }
