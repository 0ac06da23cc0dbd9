-- `fill_all` meets its contract. Assumes nothing.
use Rattle.messages.proofs.Places.{start_zero}
use Rattle.messages.proofs.Fill.{filling_none, filling_all}
use native.Mathlib.Omega.{arith}
use mathlib.Core.Path.{◌≡◌, sym}
use Rattle.messages.proofs.filling.fill_all.Goals as goal

pub loop-c-init : goal.loop-c-init
loop-c-init c = (omega arith, sym (start_zero _ _), filling_none _ _ _ _ _ c.requires.0.memory.tags c.requires.0.memory.values)

pub returns : goal.returns
returns c = let l = c.loop-c in
    let e : l.c ≡ c.args.checks = omega (arith, c.loop-c-test.false, l.invariant.0) in
    record { value = rw e at l.invariant.1; holds = filling_all _ _ _ _ _ _ (rw e at l.invariant.2) }
