-- `range` meets its contract. Assumes nothing.
use Rattle.parity.specs.SoftRange.{min_sum_range_reply, min_sum_range_outcome}
use Rattle.parity.specs.declared.Refusal.TheVariants.{WrongFloat, LowAboveHigh}
use borrow.Author.Tests.{eq-eqb, ne_eqb, lt-leb}
use mathlib.Core.Path.{sym, ◌∙◌}
use Rattle.min_sum_range.proofs.Call.{position_crossed, searched_unfit, refused, refused_23, refused_24, sure, within}
use Rattle.min_sum_range.proofs.range.Goals.{then-n-highs-via-then-n-highs, then-n-highs-via-else-n-highs+then-n-gt511}
use Rattle.min_sum_range.proofs.range.Goals as goal

pub returns-then-n-highs : goal.returns-then-n-highs
unfolding min_sum_range_reply min_sum_range_outcome
returns-then-n-highs c =
    elim c.then-n-highs.branch [
      | then-n-highs-via-then-n-highs w ↦ rw (ne_eqb _ _ w.if-n-highs.true)
      | then-n-highs-via-else-n-highs+then-n-gt511 w ↦ rw (eq-eqb _ _ w.if-n-highs.false, lt-leb _ 511 w.if-n-gt511.true)
    ]

pub returns-in-Some : goal.returns-in-Some
returns-in-Some c = let a = c.args.lows.now in let b = c.args.highs.now in
    refused a b (WrongFloat _) (refused_23 a b c.if-n-highs.false c.if-n-gt511.false _ (sym c.in-Some.is ∙ c.first_unfit.ensures ∙ searched_unfit a b))

pub returns-in-Some-first_crossed : goal.returns-in-Some-first_crossed
returns-in-Some-first_crossed c = let a = c.args.lows.now in let b = c.args.highs.now in let l = c.if-n-highs.false in
    refused a b (LowAboveHigh _) (refused_24 a b l c.if-n-gt511.false (sym c.in_default.is ∙ c.first_unfit.ensures ∙ searched_unfit a b) _ (sym c.in-Some-first_crossed.is ∙ c.first_crossed.ensures ∙ position_crossed a b l))

pub returns-then-n-eq0 : goal.returns-then-n-eq0
returns-then-n-eq0 c = let a = c.args.lows.now in let b = c.args.highs.now in let l = c.if-n-highs.false in
    sure a b l c.if-n-gt511.false (sym c.in_default.is ∙ c.first_unfit.ensures ∙ searched_unfit a b) (sym c.in_default-first_crossed.is ∙ c.first_crossed.ensures ∙ position_crossed a b l) c.if-n-eq0.true

pub returns : goal.returns
returns c = let a = c.args.lows.now in let b = c.args.highs.now in let l = c.if-n-highs.false in
    rw c.range_of.ensures (within a b l c.if-n-gt511.false (sym c.in_default.is ∙ c.first_unfit.ensures ∙ searched_unfit a b) (sym c.in_default-first_crossed.is ∙ c.first_crossed.ensures ∙ position_crossed a b l) c.if-n-eq0.false)
