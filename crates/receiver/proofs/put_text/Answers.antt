-- `receiver::put_text` meets its contract. Assumes nothing.
use mathlib.Core.Path.{sym, ◌∙◌}
use native.Mathlib.Omega.{arith}
use Rattle.lines.proofs.Lines.{same_text}
use Rattle.receiver.proofs.Fits.{mend_fits}
use Rattle.receiver.proofs.Whole.{wrong_mend, right_mend, every_rest}
use Rattle.receiver.proofs.put_text.Goals as goal

pub put_refused-requires : goal.put_refused-requires
put_refused-requires c = let input = c.args.input.now in
    rw (wrong_mend input (sym c.is_wrong.ensures ∙ c.if-is_wrong.true)) (omega (arith, mend_fits input))

pub returns-then-is_wrong : goal.returns-then-is_wrong
returns-then-is_wrong c = let input = c.args.input.now in
    same_text
    (wrong_mend input (sym c.is_wrong.ensures ∙ c.if-is_wrong.true))
    c.put_refused.ensures

pub load-requires : goal.load-requires
load-requires c = let input = c.args.input.now in
    let w = c.size-w.ensures.count in
    rw (c.read_words.ensures, w, every_rest, right_mend input (sym c.is_wrong.ensures ∙ c.if-is_wrong.false)) (omega (arith, mend_fits input))

pub returns : goal.returns
returns c = let input = c.args.input.now in
    let w = c.size-w.ensures.count in
    same_text
    (rw (c.read_words.ensures, w, every_rest) (right_mend input (sym c.is_wrong.ensures ∙ c.if-is_wrong.false)))
    c.load.ensures
