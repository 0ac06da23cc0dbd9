-- `write` meets its contract. Assumes nothing.
use Rattle.std.specs.Prelude.{Err}
use Rattle.std.proofs.Common.{rules}
use mathlib.Core.Path.{◌≡◌, sym, ap}
use Rattle.parity.specs.Causes.{Outcome}
use Rattle.parity.proofs.Causes.Refused.{accepted_cause}
use Rattle.parity.proofs.Record.Records.{write_refused}
use Rattle.record.proofs.Behind.{zero_form, some_form}
use Rattle.record.proofs.write.Goals as goal

pub returns-in_err-accept : goal.returns-in_err-accept
returns-in_err-accept c = let q : c.from_residual.result ≡ Err c.in_err-accept.field-0.0 = search rules in
    let e = write_refused c.args.words.now c.args.n c.args.m c.args.k c.args.«record».now c.in_err-accept.field-0.0 c.in_err-accept.ensures in
    rw q record { result_value = sym (ap (λ (o : Outcome). o.reply) e); record_after = sym (ap (λ (o : Outcome). o.after) e) }

pub write_accepted-requires : goal.write_accepted-requires
write_accepted-requires c = (accepted_cause _ _ _ _ c.in_ok-accept.ensures, zero_form _ c.if-k-eq0.true)

pub write_accepted-requires-2 : goal.write_accepted-requires-2
write_accepted-requires-2 c = (accepted_cause _ _ _ _ c.in_ok-accept.ensures, some_form _ c.if-k-eq0.false)
