-- `judge::checks` meets its contract. Assumes nothing.
use Rattle.std.specs.Prelude.{Err}
use Rattle.std.proofs.Common.{rules}
use mathlib.Core.Path.{◌≡◌}
use native.Mathlib.Omega.{arith}
use Rattle.reading.proofs.Judging.{reach_next, reach_stop, reach_all}
use Rattle.reading.proofs.judge.checks.Goals as goal

pub returns-in_err-place : goal.returns-in_err-place
returns-in_err-place c = let e : c.from_residual.result ≡ Err c.in_err-place.field-0.0 = search rules in
    rw e (reach_stop _ _ _ _ _ _ _ c.loop-c.invariant.1 (omega arith) c.in_err-place.ensures)

pub loop-c-preserved : goal.loop-c-preserved
loop-c-preserved c = (omega arith, reach_next _ _ _ _ _ _ _ c.loop-c.invariant.1 (omega arith) c.in_ok-place.ensures)

pub returns : goal.returns
returns c = let e : c.loop-c.c ≡ c.args.head.m = omega arith in
    reach_all _ _ _ _ _ (rw e at c.loop-c.invariant.1)
