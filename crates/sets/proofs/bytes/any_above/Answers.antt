-- `bytes::any_above` meets its contract. Assumes nothing.
use mathlib.Core.Path.{◌≡◌, refl}
use native.Mathlib.Numerals.{add-one}
use native.Mathlib.Omega.{arith}
use lib.ListN.{length}
use Rattle.parity.specs.Finite.{any}
use Rattle.parity.specs.Calls.{wrong_byte}
use Rattle.sets.proofs.bytes.any_above.Goals as goal

pub loop-b-init : goal.loop-b-init
unfolding any
loop-b-init c = (omega arith, refl)

pub loop-b-preserved : goal.loop-b-preserved
unfolding any
loop-b-preserved c = let l = c.loop-b in
    (omega arith, rw (add-one l.b-index, l.invariant.1))

pub returns : goal.returns
unfolding wrong_byte
returns c = let e : c.loop-b.b-index ≡ length c.args.bytes.now = omega arith in rw e at c.loop-b.invariant.1
