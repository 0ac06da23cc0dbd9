-- `admit` meets its contract. Assumes nothing.
use Rattle.std.proofs.Common.{rules}
use mathlib.Core.Path.{◌≡◌, ◌∙◌}
use native.Mathlib.Omega.{arith}
use Rattle.parity.specs.Causes.{refusal_of, result_reply, no_values}
use Rattle.join.proofs.Causes.{lower_refused, admits_added, admits_added_second, admits_different, admits_both}
use Rattle.join.proofs.admit.Goals as goal

pub returns-in_err-lower : goal.returns-in_err-lower
returns-in_err-lower c = let e : result_reply no_values c.from_residual.result ≡ refusal_of c.in_err-lower.field-0.0 = search rules in
    e ∙ lower_refused _ _ _ _ _ _ _ _ _ _ c.accept.ensures c.accept-2.ensures _ c.in_err-lower.ensures

pub returns-then-k1-gt0 : goal.returns-then-k1-gt0
returns-then-k1-gt0 c = admits_added _ _ _ _ _ _ _ _ _ _ c.accept.ensures c.accept-2.ensures c.in_ok-lower.ensures c.if-k1-gt0.true

pub returns-then-k2-gt0 : goal.returns-then-k2-gt0
returns-then-k2-gt0 c = admits_added_second _ _ _ _ _ _ _ _ _ _ c.accept.ensures c.accept-2.ensures c.in_ok-lower.ensures (omega (arith, c.if-k1-gt0.false)) c.if-k2-gt0.true

pub returns-then-n1-n2 : goal.returns-then-n1-n2
returns-then-n1-n2 c = admits_different _ _ _ _ _ _ _ _ _ _ c.accept.ensures c.accept-2.ensures c.in_ok-lower.ensures (omega (arith, c.if-k1-gt0.false)) (omega (arith, c.if-k2-gt0.false)) c.if-n1-n2.true

pub returns : goal.returns
returns c = admits_both _ _ _ _ _ _ _ _ _ _ c.accept.ensures c.accept-2.ensures c.in_ok-lower.ensures (omega (arith, c.if-k1-gt0.false)) (omega (arith, c.if-k2-gt0.false)) c.if-n1-n2.false
