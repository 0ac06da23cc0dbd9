-- `peel_copy` meets its contract. Assumes nothing.
use Rattle.std.proofs.Common.{rules}
use mathlib.Core.Path.{◌≡◌, refl, sym, ap, ◌∙◌}
use native.Mathlib.Omega.{arith}
use Rattle.parity.specs.Causes.{refusal_of}
use Rattle.parity.specs.Block.{mended}
use Rattle.parity.proofs.Matrix.Accept.{accepts}
use Rattle.extended.specs.Answers.{copy_reply, copy_word}
use Rattle.block.specs.Answers.{staged}
use Rattle.block.proofs.Stages.{front_word, no_copy, told_word, copy_refused, more_small, bits_remain_lem, none_remains}
use Rattle.block.proofs.peel_copy.Goals as goal

pub returns-in_err-peel_extended : goal.returns-in_err-peel_extended
returns-in_err-peel_extended c = let ws = c.args.words.now in
    let w = c.args.word.now in
    let P = c.in_err-peel_extended.ensures in
    let r = c.in_err-peel_extended.field-0.0 in
    let front = front_word c.args.n w c.args.longer.now c.requires.1 c.requires.3 in
    let v : staged ws c.args.n c.args.m c.from_residual.result w ≡ record { reply = refusal_of r; after = w } = search rules in
    let f = copy_refused ws c.args.n c.args.m w P.result_value r c.args.recovered (P.result_value_2 ∙ ap (copy_reply ws c.args.n c.args.m) front) in
    record { word_after = v ∙ sym f; kept = search rules }

pub overflow_add-both : goal.overflow_add-both
overflow_add-both c = let ws = c.args.words.now in
    let w = c.args.word.now in
    let P = c.in_ok-peel_extended.ensures in
    let front = front_word c.args.n w c.args.longer.now c.requires.1 c.requires.3 in
    let q = rw c.in-Some.is at P.result_value in
    let e = (rw c.in-Some.is at P.result_value_2) ∙ ap (copy_reply ws c.args.n c.args.m) front in
    omega (arith, c.requires.4, ((accepts ws c.args.n c.args.m 0).0 c.requires.0).sound.n120, more_small ws c.args.n c.args.m w q _ _ c.args.recovered e)

pub returns-then-copy-ne0 : goal.returns-then-copy-ne0
returns-then-copy-ne0 c = let ws = c.args.words.now in
    let w = c.args.word.now in
    let P = c.in_ok-peel_extended.ensures in
    let front = front_word c.args.n w c.args.longer.now c.requires.1 c.requires.3 in
    let q = rw c.in-Some.is at P.result_value in
    let e = (rw c.in-Some.is at P.result_value_2) ∙ ap (copy_reply ws c.args.n c.args.m) front in
    let f = bits_remain_lem ws c.args.n c.args.m w q _ _ c.args.recovered e c.if-copy-ne0.true in
    record { word_after = sym f; kept = refl }

pub returns-in-None : goal.returns-in-None
returns-in-None c = let f = no_copy c.args.words.now c.args.n c.args.m c.args.word.now c.args.recovered (rw c.in-None.is at c.in_ok-peel_extended.ensures.result_value) in
    record { word_after = sym f; kept = refl }

pub returns-else-copy-ne0 : goal.returns-else-copy-ne0
returns-else-copy-ne0 c = let ws = c.args.words.now in
    let w = c.args.word.now in
    let P = c.in_ok-peel_extended.ensures in
    let front = front_word c.args.n w c.args.longer.now c.requires.1 c.requires.3 in
    let q = rw c.in-Some.is at P.result_value in
    let e = (rw c.in-Some.is at P.result_value_2) ∙ ap (copy_reply ws c.args.n c.args.m) front in
    let f = none_remains ws c.args.n c.args.m w q _ _ c.args.recovered e c.if-copy-ne0.false in
    record { word_after = ap (mended 2 _) (c.copy_from_slice.ensures.after ∙ P.longer_after ∙ ap (copy_word ws c.args.n c.args.m) front ∙ told_word ws c.args.n c.args.m w q) ∙ sym f; kept = tt }
