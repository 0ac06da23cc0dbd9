-- `mend_block` meets its contract. Assumes nothing.
use Rattle.std.proofs.Common.{rules}
use mathlib.Core.Path.{◌≡◌, sym, ap, ◌∙◌}
use native.Mathlib.Omega.{arith}
use Rattle.parity.specs.Causes.{Outcome, refusal_of, result_reply}
use Rattle.parity.proofs.Matrix.Accept.{accepts}
use Rattle.parity.proofs.Causes.Refused.{accepted_cause}
use Rattle.parity.proofs.Words.Bytes.{word_right}
use Rattle.parity.proofs.Lists.Block.{block_given, mend_refuses_added}
use Rattle.word.proofs.Told.{taken}
use Rattle.block.specs.Answers.{mended_values}
use Rattle.block.proofs.Stages.{matrix_refused, word_refused}
use Rattle.block.proofs.mend_block.Goals as goal

pub returns-in_err-accept : goal.returns-in_err-accept
returns-in_err-accept c = let r = c.in_err-accept.field-0.0 in
    let v : result_reply mended_values c.from_residual.result ≡ refusal_of r = search rules in
    let e = matrix_refused c.args.words.now c.args.n c.args.m c.args.k r c.in_err-accept.ensures c.args.word.now in
    record { result_value = v ∙ sym (ap (λ (o : Outcome). o.reply) e); word_after = sym (ap (λ (o : Outcome). o.after) e) }

pub returns-then-k-gt0 : goal.returns-then-k-gt0
returns-then-k-gt0 c = let q = accepted_cause c.args.words.now c.args.n c.args.m c.args.k c.in_ok-accept.ensures in
    let e = mend_refuses_added c.args.words.now c.args.n c.args.m c.args.k c.args.word.now q c.if-k-gt0.true in
    record { result_value = sym (ap (λ (o : Outcome). o.reply) e); word_after = sym (ap (λ (o : Outcome). o.after) e) }

pub returns-in_err-admit : goal.returns-in_err-admit
returns-in_err-admit c = let r = c.in_err-admit.field-0.0 in
    let v : result_reply mended_values c.from_residual-in_err-admit.result ≡ refusal_of r = search rules in
    let z : c.args.k ≡ 0 = omega arith in
    let both = word_refused c.args.words.now c.args.n c.args.m c.args.word.now r (rw z at c.in_err-admit.ensures) in
    rw z record { result_value = v ∙ both.0; word_after = both.1 }

pub mend_admitted-requires : goal.mend_admitted-requires
mend_admitted-requires c = let ws = c.args.words.now in
    let w = c.args.word.now in
    let z : c.args.k ≡ 0 = omega arith in
    let (A, W) = rw z at (taken ws c.args.n c.args.m c.args.k w 2 c.in_ok-admit.ensures) in
    ((accepts ws c.args.n c.args.m 0).1 A, omega (arith, W.size), word_right _ 2 w W)

pub returns : goal.returns
returns c = let ws = c.args.words.now in
    let w = c.args.word.now in
    let z : c.args.k ≡ 0 = omega arith in
    let (A, W) = rw z at (taken ws c.args.n c.args.m c.args.k w 2 c.in_ok-admit.ensures) in
    let E = c.mend_admitted.ensures in
    let f = block_given ws c.args.n c.args.m w record { accepted = A; word = W } in
    rw z record { result_value = E.result_value ∙ sym (ap (λ (o : Outcome). o.reply) f); word_after = E.word_after ∙ sym (ap (λ (o : Outcome). o.after) f) }
