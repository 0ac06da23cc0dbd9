-- `lowest` meets its contract. Assumes nothing.
use mathlib.Core.Path.{◌≡◌}
use native.Mathlib.Omega.{arith}
use Rattle.parity.proofs.Matrix.Ones.{trailing_lowest}
use Rattle.pairs.proofs.Words.{clear_up, none_in, least_here}
use Rattle.pairs.proofs.held.lowest.Goals as goal

pub returns-then-x-ne0 : goal.returns-then-x-ne0
returns-then-x-ne0 c = let x = c.both_at-x in
    let l = c.loop-p in
    let s = c.args in
    least_here s.width s.a.now s.i s.b.now s.j l.p (omega arith) x.result x.ensures.0 _ (trailing_lowest 64 x.result x.ensures.1 c.if-x-ne0.true) l.invariant.1

pub loop-p-preserved : goal.loop-p-preserved
loop-p-preserved c = let x = c.both_at-x in
    let l = c.loop-p in
    let s = c.args in
    (omega arith, clear_up s.width s.a.now s.i s.b.now s.j l.p (omega arith) x.result x.ensures.0 c.if-x-ne0.false l.invariant.1)

pub returns : goal.returns
returns c = let e : c.loop-p.p ≡ c.args.width = omega arith in
    rw (none_in _ _ (rw e at c.loop-p.invariant.1))
