-- `receiver::stages::peel_word` meets its contract. Assumes nothing.
use mathlib.Core.Path.{sym, ap, ◌∙◌}
use native.Mathlib.Omega.{arith}
use Rattle.sets.proofs.Above.{wrong_some, wrong_none}
use Rattle.parity.specs.Causes.{result_reply, loss_values}
use Rattle.lines.proofs.Lines.{same_text}
use Rattle.receiver.proofs.Passing.{peel_wrong, peel_refused, peel_passes, peel_bytes}
use Rattle.receiver.proofs.stages.peel_word.Goals as goal

pub put_refused-requires : goal.put_refused-requires
put_refused-requires c = let a = c.args in
    let (f, g) = wrong_some 2 a.word.now c.in-Some.place (sym c.in-Some.is ∙ c.first_above.ensures) in
    let e = peel_wrong a.words.now a.n a.m a.k a.splits a.sum a.word.now _ c.requires.k_value.0 c.requires.k_value.1 g f in
    rw e c.requires.word_in_bounds

pub returns-in-Some : goal.returns-in-Some
returns-in-Some c = let a = c.args in
    let (f, g) = wrong_some 2 a.word.now c.in-Some.place (sym c.in-Some.is ∙ c.first_above.ensures) in
    same_text
    (peel_wrong a.words.now a.n a.m a.k a.splits a.sum a.word.now _ c.requires.k_value.0 c.requires.k_value.1 g f)
    c.put_refused.ensures

pub peel_admitted-requires : goal.peel_admitted-requires
peel_admitted-requires c = (c.requires.k_value.0, c.requires.k_value.1, wrong_none 2 c.args.word.now (sym c.in-None.is ∙ c.first_above.ensures))

pub put_refused-requires-in-Err : goal.put_refused-requires-in-Err
put_refused-requires-in-Err c = let a = c.args in
    let p = c.peel_admitted in
    let e = sym (ap (result_reply loss_values) c.in-Err.is) ∙ p.ensures.result_value in
    rw (peel_refused a.words.now a.n a.m a.k a.splits a.sum a.word.now c.in-Err.why e) c.requires.word_in_bounds

pub put_report-requires : goal.put_report-requires
put_report-requires c = let a = c.args in
    let p = c.peel_admitted in
    let e = sym (ap (result_reply loss_values) c.in-Ok.is) ∙ p.ensures.result_value in record { word_in_bounds = rw (p.ensures.word_after, peel_passes a.words.now a.n a.m a.k a.splits a.sum a.word.now _ e) c.requires.word_in_bounds; n_in_bounds = omega (arith, c.requires.k_value.1, p.auto.word); bytes = rw p.ensures.word_after (peel_bytes a.words.now a.n a.m a.k a.splits a.sum a.word.now _ e) }

pub returns-in-Err : goal.returns-in-Err
returns-in-Err c = let a = c.args in
    let p = c.peel_admitted in
    let e = sym (ap (result_reply loss_values) c.in-Err.is) ∙ p.ensures.result_value in
    same_text
    (peel_refused a.words.now a.n a.m a.k a.splits a.sum a.word.now c.in-Err.why e)
    c.put_refused-in-Err.ensures

pub returns-in-Ok : goal.returns-in-Ok
returns-in-Ok c = let a = c.args in
    let p = c.peel_admitted in
    let e = sym (ap (result_reply loss_values) c.in-Ok.is) ∙ p.ensures.result_value in
    same_text
    (rw p.ensures.word_after (peel_passes a.words.now a.n a.m a.k a.splits a.sum a.word.now _ e))
    c.put_report.ensures
