-- `take_back` meets its contract. Assumes nothing.
use Rattle.std.proofs.Common.{rules}
use mathlib.Core.Path.{◌≡◌, refl}
use Rattle.parity.specs.Causes.{refusal_of, result_reply}
use Rattle.parity.proofs.Causes.Refused.{accepted_cause}
use Rattle.parity.proofs.Splits.Splitting.{back_refused}
use Rattle.split.specs.Answers.{taken_back_values}
use Rattle.split.proofs.take_back.Goals as goal

pub back_accepted-requires : goal.back_accepted-requires
back_accepted-requires c = accepted_cause c.args.words.now c.args.n c.args.m c.args.k c.in_ok-accept.ensures

pub returns-in_err-accept : goal.returns-in_err-accept
returns-in_err-accept c = let s = c.args in
    let e : result_reply taken_back_values c.from_residual.result ≡ refusal_of c.in_err-accept.field-0.0 = search rules in
    rw (back_refused s.words.now s.n s.m s.k c.in_err-accept.field-0.0 c.in_err-accept.ensures) record { result_value = e; words_after = refl }
