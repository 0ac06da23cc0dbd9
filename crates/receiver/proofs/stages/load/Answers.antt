-- `receiver::stages::load` meets its contract. Assumes nothing.
use mathlib.Core.Path.{refl, sym, ap, ◌∙◌}
use Prim.Native.Nat.{ℕ}
use lib.ListN.{replicate}
use Rattle.parity.specs.Causes.{result_reply}
use Rattle.record.specs.Answers.{sizes_values}
use Rattle.lines.proofs.Lines.{same_text}
use Rattle.receiver.proofs.Passing.{load_refused, load_passes, load_cause, load_zero}
use Rattle.receiver.proofs.stages.load.Goals as goal

pub put_refused-requires : goal.put_refused-requires
put_refused-requires c = let a = c.args in
    let p = c.load in
    let e = sym (ap (result_reply sizes_values) c.in-Err.is) ∙ p.ensures.result_value in
    rw (load_refused (replicate {A = ℕ} 4096 0) a.source.now a.sent.now c.in-Err.why e, load_zero (replicate {A = ℕ} 4096 0) a.source.now a.sent.now refl) c.requires

pub orthogonalise-requires : goal.orthogonalise-requires
orthogonalise-requires c = let a = c.args in
    let p = c.load in
    let e = sym (ap (result_reply sizes_values) c.in-Ok.is) ∙ p.ensures.result_value in record { sent_in_bounds = rw (p.ensures.words_after, load_passes (replicate {A = ℕ} 4096 0) a.source.now a.sent.now c.in-Ok.loaded.n c.in-Ok.loaded.m c.in-Ok.loaded.k e, load_zero (replicate {A = ℕ} 4096 0) a.source.now a.sent.now refl) c.requires; j_value = rw p.ensures.words_after (load_cause (replicate {A = ℕ} 4096 0) a.source.now c.in-Ok.loaded.n c.in-Ok.loaded.m c.in-Ok.loaded.k e) }

pub returns-in-Err : goal.returns-in-Err
returns-in-Err c = let a = c.args in
    let p = c.load in
    let e = sym (ap (result_reply sizes_values) c.in-Err.is) ∙ p.ensures.result_value in
    same_text
    (load_refused (replicate {A = ℕ} 4096 0) a.source.now a.sent.now c.in-Err.why e ∙ load_zero (replicate {A = ℕ} 4096 0) a.source.now a.sent.now refl)
    c.put_refused.ensures

pub returns-in-Ok : goal.returns-in-Ok
returns-in-Ok c = let a = c.args in
    let p = c.load in
    let e = sym (ap (result_reply sizes_values) c.in-Ok.is) ∙ p.ensures.result_value in
    same_text
    (rw p.ensures.words_after (load_passes (replicate {A = ℕ} 4096 0) a.source.now a.sent.now c.in-Ok.loaded.n c.in-Ok.loaded.m c.in-Ok.loaded.k e ∙ load_zero (replicate {A = ℕ} 4096 0) a.source.now a.sent.now refl))
    c.orthogonalise.ensures
