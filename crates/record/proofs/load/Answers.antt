-- `load` meets its contract. Assumes nothing.
use Rattle.std.specs.Prelude.{Err}
use Rattle.std.proofs.Common.{rules}
use Rattle.parity.specs.declared.Refusal.TheVariants.{FaultyWord}
use mathlib.Core.Path.{◌≡◌, sym, ap}
use Rattle.parity.specs.Causes.{Outcome}
use Rattle.parity.proofs.Record.Records.{load_length, load_faulty}
use Rattle.record.proofs.load.Goals as goal

pub returns-then-words-ne4096 : goal.returns-then-words-ne4096
returns-then-words-ne4096 c = let e = load_length _ _ c.if-words-ne4096.true in
    record { result_value = sym (ap (λ (o : Outcome). o.reply) e); words_after = sym (ap (λ (o : Outcome). o.after) e) }

pub returns-in_err-judged : goal.returns-in_err-judged
returns-in_err-judged c = let q : c.from_residual.result ≡ Err (FaultyWord c.in_err-judged.field-0.0.place) = search rules in
    let e = load_faulty _ _ _ c.if-words-ne4096.false c.in_err-judged.ensures in
    rw q record { result_value = sym (ap (λ (o : Outcome). o.reply) e); words_after = sym (ap (λ (o : Outcome). o.after) e) }
