-- `eliminate` meets its contract. Assumes nothing.
use Rattle.std.proofs.Common.{rules}
use mathlib.Core.Path.{◌≡◌, sym, ap, ◌∙◌}
use Rattle.parity.specs.Causes.{Outcome, refusal_of, result_reply}
use Rattle.block.specs.Answers.{mended_values}
use Rattle.block.proofs.Stages.{eliminated, not_eliminated}
use Rattle.block.proofs.eliminate.Goals as goal

pub returns-in_err-determine_admitted : goal.returns-in_err-determine_admitted
returns-in_err-determine_admitted c = let D = c.in_err-determine_admitted.ensures in
    let r = c.in_err-determine_admitted.field-0.0 in
    let v : result_reply mended_values c.from_residual.result ≡ refusal_of r = search rules in
    let e = not_eliminated c.args.words.now c.args.n c.args.m c.args.word.now r c.args.recovered D.result_value in
    record { result_value = v ∙ D.result_value ∙ sym (ap (λ (o : Outcome). o.reply) e); word_after = D.word_after ∙ sym (ap (λ (o : Outcome). o.after) e) }

pub returns : goal.returns
returns c = let D = c.in_ok-determine_admitted.ensures in
    let e = eliminated c.args.words.now c.args.n c.args.m c.args.word.now _ c.args.recovered D.result_value in
    record { result_value = sym (ap (λ (o : Outcome). o.reply) e); word_after = D.word_after ∙ sym (ap (λ (o : Outcome). o.after) e) }
