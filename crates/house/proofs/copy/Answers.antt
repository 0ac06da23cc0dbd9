-- `copy` meets its contract. Assumes nothing.
use mathlib.Core.Path.{◌≡◌, sym, ap, ◌∙◌}
use native.Mathlib.Omega.{arith}
use lib.Dec.{lit<}
use lib.ListN.{length}
use Rattle.std.proofs.Common.{rules}
use Rattle.std.specs.Prelude.{Ok, Err}
use Rattle.parity.specs.Causes.{Outcome, refusal_of, result_reply}
use Rattle.house.specs.Answers.{size_values}
use Rattle.house.specs.Names.{number_of, Named}
use Rattle.house.proofs.Names.{few, sizes}
use Rattle.parity.proofs.House.Copied.{house_length, house_unknown, house_right, house_clean}
use Rattle.house.proofs.Held.{holding_all}
use Rattle.house.proofs.copy.Goals as goal

pub returns-then-words-ne4096 : goal.returns-then-words-ne4096
returns-then-words-ne4096 c = let e = house_length _ _ c.if-words-ne4096.true in
    record { result_value = sym (ap (λ (o : Outcome). o.reply) e); words_after = sym (ap (λ (o : Outcome). o.after) e) }

pub returns-in_err-known : goal.returns-in_err-known
returns-in_err-known c = let s : result_reply size_values c.from_residual.result ≡ refusal_of c.in_err-known.field-0.0 = search rules in
    let N : Named c.args.name (Err c.in_err-known.field-0.0) = c.in_err-known.ensures in
    let e = house_unknown c.args.name _ c.if-words-ne4096.false N.1 in
    record { result_value = s ∙ ap refusal_of N.0 ∙ sym (ap (λ (o : Outcome). o.reply) e); words_after = sym (ap (λ (o : Outcome). o.after) e) }

pub returns : goal.returns
returns c = let known = c.in_ok-known.known in
    let N : Named c.args.name (Ok known) = c.in_ok-known.ensures in
    let l : length c.args.words.now ≡ 4096 = c.if-words-ne4096.false in
    let e = house_right (number_of known) _ l (few known) in
    let z = sizes known in
    let p = c.put_checks in record {
      result_value = rw (← N, c.size.ensures.0, c.size.ensures.1) (sym (ap (λ (o : Outcome). o.reply) e));
      words_after = rw (← N) (holding_all 8 (lit< tt) _ _ _ (house_clean (number_of known)) (omega arith) p.new.words (p.auto.words ∙ c.fill.ensures.len ∙ l) p.ensures ∙ sym (ap (λ (o : Outcome). o.after) e));
    }
