-- `receiver::stages::orthogonalise` meets its contract. Assumes nothing.
use mathlib.Core.Path.{sym, ap, ◌∙◌}
use native.Mathlib.Omega.{arith}
use lib.ListN.{length}
use Rattle.orthogonalise.specs.Answers.{orthogonalised_values}
use Rattle.lines.proofs.Lines.{same_text}
use Rattle.parity.specs.Causes.{result_reply, held_values}
use Rattle.receiver.proofs.Passing.{orthogonalise_refused, orthogonalise_passes, orthogonalise_accepted}
use Rattle.receiver.proofs.stages.orthogonalise.Goals as goal

pub put_refused-requires : goal.put_refused-requires
put_refused-requires c = let a = c.args in
    let p = c.orthogonalise_accepted in
    let e = sym (ap (result_reply orthogonalised_values) c.in-Err.is) ∙ p.ensures.result_value in
    rw (orthogonalise_refused a.words.now a.n a.m a.j a.sent.now c.in-Err.why e) c.requires.sent_in_bounds

pub peel_sent-requires : goal.peel_sent-requires
peel_sent-requires c = let a = c.args in
    let p = c.orthogonalise_accepted in
    let e = sym (ap (result_reply orthogonalised_values) c.in-Ok.is) ∙ p.ensures.result_value in
    let t = orthogonalise_passes a.words.now a.n a.m a.j c.in-Ok.o.splits c.in-Ok.o.sum c.in-Ok.o.k (held_values c.in-Ok.o.held) e a.sent.now in record { k_in_bounds = rw p.ensures.words_after (omega (arith, ap length t, c.requires.sent_in_bounds)); k_value = rw p.ensures.words_after (orthogonalise_accepted a.words.now a.n a.m a.j c.in-Ok.o.splits c.in-Ok.o.sum c.in-Ok.o.k (held_values c.in-Ok.o.held) e) }

pub returns-in-Err : goal.returns-in-Err
returns-in-Err c = let a = c.args in
    let p = c.orthogonalise_accepted in
    let e = sym (ap (result_reply orthogonalised_values) c.in-Err.is) ∙ p.ensures.result_value in
    same_text
    (orthogonalise_refused a.words.now a.n a.m a.j a.sent.now c.in-Err.why e)
    c.put_refused.ensures

pub returns-in-Ok : goal.returns-in-Ok
returns-in-Ok c = let a = c.args in
    let p = c.orthogonalise_accepted in
    let e = sym (ap (result_reply orthogonalised_values) c.in-Ok.is) ∙ p.ensures.result_value in
    same_text
    (rw p.ensures.words_after (orthogonalise_passes a.words.now a.n a.m a.j c.in-Ok.o.splits c.in-Ok.o.sum c.in-Ok.o.k (held_values c.in-Ok.o.held) e a.sent.now))
    c.peel_sent.ensures
