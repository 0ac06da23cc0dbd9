-- `fill_check` meets its contract. Assumes nothing.
use Rattle.messages.proofs.Places.{first_place}
use Rattle.messages.proofs.Fill.{place_last, filling_check}
use Rattle.parity.specs.Matrix.{lent}
use native.Mathlib.Omega.{arith}
use Prim.Native.Nat.{◌*◌}
use mathlib.Core.Path.{◌≡◌, sym, ◌∙◌}
use Rattle.messages.proofs.filling.fill_check.Goals as goal

pub loop-i-init : goal.loop-i-init
loop-i-init c = (omega arith, c.requires.c_bound.1 ∙ sym (first_place _ _ _), c.requires.c_bound.2)

pub returns : goal.returns
returns c = let l = c.loop-i in
    let e : l.i * 64 ≡ 512 = omega (arith, c.loop-i-test.false, l.invariant.0) in
    record { value = l.invariant.1 ∙ rw e (place_last (lent 8 c.args.words.now) 512 c.args.c); filling = filling_check _ _ _ _ _ _ _ l.invariant.2 (omega (arith, e)) }
