-- `min_sum` meets its contract. Assumes nothing.
use Rattle.std.proofs.Common.{rules}
use Rattle.parity.proofs.Soft.Outcomes.{fine}
use Rattle.min_sum.proofs.Outcome.{reply_after, leaves, answers, after_reply}
use Rattle.min_sum.proofs.Fitting.{laid, within, inner}
use Rattle.parity.proofs.Causes.Refused.{accepted_words, refused_same, refused_number}
use Rattle.parity.specs.Causes.{answer, refusal_of, result_reply, no_values}
use Rattle.parity.specs.Matrix.{lent}
use native.Mathlib.Omega.{arith}
use mathlib.Core.List.{[]}
use mathlib.Core.Path.{◌≡◌, ◌∙◌}
use Rattle.min_sum.proofs.min_sum.Goals as goal

pub returns-in_err-accept : goal.returns-in_err-accept
returns-in_err-accept c = let r = c.in_err-accept.field-0.0 in
    let q : result_reply no_values c.from_residual.result ≡ refusal_of r = search rules in
    let all = leaves c.args.words.now c.args.n c.args.m c.args.k c.args.rounds c.args.word.now c.args.floats.now c.args.message_bytes.now c.args.message_floats.now (refusal_of r) (refused_number r)
    (refused_same c.args.words.now c.args.n c.args.m c.args.k r _ c.in_err-accept.ensures ∙ reply_after c.args.words.now c.args.n c.args.m c.args.k c.args.rounds c.args.word.now c.args.floats.now c.args.message_bytes.now c.args.message_floats.now) in record { result_value = q ∙ all.0; word_after = all.1.0; floats_after = all.1.1.0; message_bytes_after = all.1.1.1.0; message_floats_after = all.1.1.1.1 }

pub overflow_add-n : goal.overflow_add-n
overflow_add-n c = let acc = c.in_ok-accept.ensures in
    let A = accepted_words c.args.words.now c.args.n c.args.m c.args.k acc in
    omega (arith, A.sound.n120, A.sound.k392)

pub returns-in_err-judge : goal.returns-in_err-judge
returns-in_err-judge c = let r = c.in_err-judge.field-0.0 in
    let q : result_reply no_values c.from_residual-in_err-judge.result ≡ refusal_of r = search rules in
    let all = leaves c.args.words.now c.args.n c.args.m c.args.k c.args.rounds c.args.word.now c.args.floats.now c.args.message_bytes.now c.args.message_floats.now (refusal_of r) (refused_number r) (after_reply c.args.words.now c.args.n c.args.m c.args.k c.args.rounds c.args.word.now c.args.floats.now c.args.message_bytes.now c.args.message_floats.now c.in_ok-accept.ensures (refusal_of r) c.in_err-judge.ensures) in record { result_value = q ∙ all.0; word_after = all.1.0; floats_after = all.1.1.0; message_bytes_after = all.1.1.1.0; message_floats_after = all.1.1.1.1 }

pub overflow_add-m : goal.overflow_add-m
overflow_add-m c = let acc = c.in_ok-accept.ensures in
    let A = accepted_words c.args.words.now c.args.n c.args.m c.args.k acc in
    omega (arith, A.sound.m120, A.sound.k392)

pub results-requires : goal.results-requires
results-requires c = let acc = c.in_ok-accept.ensures in
    let A = accepted_words c.args.words.now c.args.n c.args.m c.args.k acc in
    let F = fine _ _ _ _ _ _ (c.in_ok-judge.ensures) in
    let h = lent 8 c.args.words.now in (
      record {
        laid = laid h c.args.n c.args.m c.args.k A.sound _ _ _ A.words F.l_bytes F.l_values;
        within = within h c.args.n c.args.m c.args.k A.sound;
        inner = inner h c.args.n c.args.m c.args.k A.sound _ _ F.l_word F.l_floats;
        sounds = rw F.l_word (record { at = F.sounds });
      },
      F.one,
    )

pub returns : goal.returns
returns c = let acc = c.in_ok-accept.ensures in
    let A = accepted_words c.args.words.now c.args.n c.args.m c.args.k acc in
    let e = c.in_ok-judge.ensures in
    let F = fine _ _ _ _ _ _ e in
    let all = answers c.args.words.now c.args.n c.args.m c.args.k c.args.rounds c.args.word.now c.args.floats.now c.args.message_bytes.now c.args.message_floats.now A (after_reply c.args.words.now c.args.n c.args.m c.args.k c.args.rounds c.args.word.now c.args.floats.now c.args.message_bytes.now c.args.message_floats.now acc (answer []) e) _ _ _ _ (rw F.l_word at c.results.ensures) in record { result_value = all.0; word_after = all.1.0; floats_after = all.1.1.0; message_bytes_after = all.1.1.1.0; message_floats_after = all.1.1.1.1 }
