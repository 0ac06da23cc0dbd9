-- `results` meets its contract. Assumes nothing.
use mathlib.Core.Path.{◌≡◌, ap, ◌∙◌}
use lib.ListN.{length, replicate}
use Rattle.parity.specs.Floats.{positive_zero}
use Rattle.min_sum.proofs.results.Goals as goal

pub by_columns-requires : goal.by_columns-requires
by_columns-requires c = let e : length c.args.word.now ≡ c.args.checks = c.if-bits-checks.true in
    rw e c.requires

pub returns-then-bits-checks : goal.returns-then-bits-checks
returns-then-bits-checks c = let B = c.by_columns in
    let e : length c.args.word.now ≡ c.args.checks = c.if-bits-checks.true in
    record {
      held = rw (← e) B.ensures;
      tags_zero = c.fill-then-bits-checks.ensures.after (λ y p. p) ∙ ap (λ n. replicate n 0) (B.auto.tags ∙ c.requires.0.laid.memory.tags);
      values_zero = c.fill.ensures.after (λ y p. p) ∙ ap (λ n. replicate n positive_zero) (B.auto.values ∙ c.requires.0.laid.memory.values);
    }

pub returns : goal.returns
returns c = let B = c.by_columns-2 in
    record {
      held = B.ensures;
      tags_zero = c.fill-2.ensures.after (λ y p. p) ∙ ap (λ n. replicate n 0) (B.auto.tags ∙ c.requires.0.laid.memory.tags);
      values_zero = c.fill-3.ensures.after (λ y p. p) ∙ ap (λ n. replicate n positive_zero) (B.auto.values ∙ c.requires.0.laid.memory.values);
    }
