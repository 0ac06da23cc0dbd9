-- `mend_packets` meets its contract. Assumes nothing.
use mathlib.Core.Path.{◌≡◌, ◌∙◌}
use Rattle.std.proofs.Common.{rules}
use Rattle.parity.specs.Causes.{refusal_of, result_reply}
use Rattle.parity.specs.Packets.{packets_reply}
use Rattle.parity.proofs.Causes.Refused.{accepted_cause, refused_same}
use Rattle.packets.specs.Answers.{mended_packets_values}
use Rattle.packets.proofs.Refusing.{outcome_refused}
use Rattle.packets.proofs.mend_packets.Goals as goal

pub returns-in_err-accept : goal.returns-in_err-accept
returns-in_err-accept c = let r = c.in_err-accept.field-0.0 in
    let e : result_reply mended_packets_values c.from_residual.result ≡ refusal_of r = search rules in
    let all = outcome_refused c.args.words.now c.args.n c.args.m c.args.k c.args.lost.now c.args.packets.now c.args.odd.now r
    (unfold packets_reply in (refused_same c.args.words.now c.args.n c.args.m c.args.k r _ c.in_err-accept.ensures)) in
    record { result_value = e ∙ all.0; lost_after = all.1.0; packets_after = all.1.1.0; odd_after = all.1.1.1 }

pub mend_accepted-requires : goal.mend_accepted-requires
mend_accepted-requires c = accepted_cause c.args.words.now c.args.n c.args.m c.args.k c.in_ok-accept.ensures
