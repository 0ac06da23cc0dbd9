-- `highest` meets its contract. Assumes nothing.
use mathlib.Core.Path.{◌≡◌}
use Prim.Native.Nat.{◌+◌, ◌*◌, ◌-◌}
use native.Mathlib.Omega.{arith}
use lib.Count.{leading_top, count_leading_zeros}
use Rattle.pairs.proofs.Words.{clear_down, none_in, greatest_here, leading_highest}
use Rattle.pairs.proofs.held.highest.Goals as goal

pub returns-then-x-ne0 : goal.returns-then-x-ne0
returns-then-x-ne0 c = let x = c.both_at-x in
    let l = c.loop-p in
    let s = c.args in
    let t = leading_top 64 x.result (omega (arith, c.if-x-ne0.true)) x.ensures.1 in
    let e : (l.p - 1) * 64 + 63 - count_leading_zeros 64 x.result ≡ (l.p - 1) * 64 + t.0 = omega (arith, t.1) in
    rw e (greatest_here s.width s.a.now s.i s.b.now s.j (l.p - 1) (omega arith) x.result x.ensures.0 t.0 (omega (arith, t.1)) (leading_highest 64 x.result x.ensures.1 c.if-x-ne0.true t.0 t.1)
    record { none = λ d f g. l.invariant.1.none d (omega arith) g })

pub loop-p-preserved : goal.loop-p-preserved
loop-p-preserved c = let x = c.both_at-x in
    let l = c.loop-p in
    let s = c.args in
    (omega arith, clear_down s.width s.a.now s.i s.b.now s.j (l.p - 1) (omega arith) x.result x.ensures.0 c.if-x-ne0.false record { none = λ d f g. l.invariant.1.none d (omega arith) g })

pub returns : goal.returns
returns c = let e : c.loop-p.p ≡ 0 = omega arith in
    rw (none_in _ _ (rw e at c.loop-p.invariant.1))
