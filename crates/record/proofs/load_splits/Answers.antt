-- `load_splits` meets its contract. Assumes nothing.
use Rattle.std.specs.Prelude.{Err}
use Rattle.std.proofs.Common.{rules}
use Rattle.parity.specs.declared.Refusal.TheVariants.{FaultyWord}
use mathlib.Core.Path.{◌≡◌, sym, ap, ◌∙◌}
use mathlib.Core.List.{List}
use Prim.Native.Nat.{ℕ}
use lib.Dec.{lit<}
use Rattle.parity.specs.Matrix.{lent, pack}
use Rattle.parity.specs.Causes.{Outcome}
use Rattle.parity.proofs.Matrix.Packing.{pack_lent}
use Rattle.parity.proofs.Record.Records.{load_faulty, load_right}
use Rattle.record.proofs.Behind.{right_sound, right_filled, splits_loads, splits_breaks}
use Rattle.record.proofs.load_splits.Goals as goal

pub perform-k-requires : goal.perform-k-requires
perform-k-requires c = let F = c.fill in record { words_len = (search rules, c.requires.1.inside); sound = rw (right_filled _ _ _ _ _ c.requires.1 _ F.ensures) (right_sound _ _ _ _ _ c.requires.1) }

pub returns-in_err-end : goal.returns-in_err-end
returns-in_err-end c = let q : c.from_residual.result ≡ Err (FaultyWord c.in_err-end.field-0.0.place) = search rules in
    let f = right_filled _ _ _ _ _ c.requires.1 _ c.fill.ensures in
    let e = load_faulty _ _ _ c.requires.0 (splits_breaks _ _ _ _ c.requires.1 _ _ _ f c.perform-k.ensures _ c.in_err-end.ensures) in
    rw q record { result_value = sym (ap (λ (o : Outcome). o.reply) e); words_after = sym (ap (λ (o : Outcome). o.after) e) }

pub returns : goal.returns
returns c = let f = right_filled _ _ _ _ _ c.requires.1 _ c.fill.ensures in
    let e = load_right _ _ _ _ _ _ c.requires.0 (splits_loads _ _ _ _ c.requires.1 _ _ _ f c.perform-k.ensures c.in_ok-end.ensures) in
    let P = c.copy_from_slice in
    let ws = P.new.self in record {
      result_value = sym (ap (λ (o : Outcome). o.reply) e);
      words_after = sym (pack_lent 8 (lit< tt) ws (P.auto.self ∙ c.requires.0) (λ i. (c.type_inv.words i).fits))
          ∙ ap (λ (l : List ℕ). pack 8 (lent 8 l)) P.ensures.after ∙ sym (ap (λ (o : Outcome). o.after) e);
    }
