-- `load_plain` meets its contract. Assumes nothing.
use Rattle.std.specs.Prelude.{Err}
use Rattle.std.proofs.Common.{rules}
use Rattle.parity.specs.declared.Refusal.TheVariants.{FaultyWord}
use mathlib.Core.Path.{◌≡◌, sym, ap, ◌∙◌}
use lib.Dec.{lit<}
use Rattle.parity.specs.Matrix.{pack}
use Rattle.parity.specs.Causes.{Outcome}
use Rattle.parity.proofs.Matrix.Packing.{pack_lent}
use Rattle.parity.proofs.Record.Records.{load_faulty, load_right}
use Rattle.record.proofs.Behind.{right_filled, plain_loads, plain_breaks}
use Rattle.record.proofs.load_plain.Goals as goal

pub returns-in_err-end : goal.returns-in_err-end
returns-in_err-end c = let q : c.from_residual.result ≡ Err (FaultyWord c.in_err-end.field-0.0.place) = search rules in
    let e = load_faulty _ _ _ c.requires.0 (plain_breaks _ _ _ _ _ c.requires.2 _ c.requires.1 c.in_err-end.ensures) in
    rw q record { result_value = sym (ap (λ (o : Outcome). o.reply) e); words_after = sym (ap (λ (o : Outcome). o.after) e) }

pub returns : goal.returns
returns c = let e = load_right _ _ _ _ _ _ c.requires.0 (plain_loads _ _ _ _ _ c.requires.2 c.requires.1 c.in_ok-end.ensures) in
    let ws = c.fill.new.words in
    let f = right_filled _ _ _ _ _ c.requires.2 ws c.fill.ensures in record { result_value = sym (ap (λ (o : Outcome). o.reply) e); words_after = sym (pack_lent 8 (lit< tt) ws (c.fill.auto.words ∙ c.requires.0) (λ i. (c.type_inv.words i).fits)) ∙ ap (pack 8) f ∙ sym (ap (λ (o : Outcome). o.after) e) }
