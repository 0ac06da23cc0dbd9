-- `run::put_row` meets its contract. Assumes nothing.
use mathlib.Core.Path.{◌≡◌, refl}
use mathlib.Core.Bool.{◌||◌}
use native.Mathlib.Nat.{zero-mul, zero-add}
use native.Mathlib.Omega.{arith}
use lib.Bits.{bit_or}
use Rattle.parity.proofs.Matrix.Digits.{bit_of_or}
use Rattle.rows.proofs.Writing.{written_onto, combined_all}
use Rattle.lanes.proofs.run.put_row.Goals as goal

pub loop-i-preserved : goal.loop-i-preserved
loop-i-preserved c = (omega arith, written_onto bit_or _ _ _ _ _ _ c.loop-i.invariant.1 (omega arith) (rw (zero-mul c.args.width, zero-add c.loop-i.i)))

pub returns : goal.returns
returns c = let l = c.loop-i in
    let e : l.i ≡ c.args.width = omega arith in
    combined_all ◌||◌ bit_or bit_of_or refl _ _ _ _ _ _ (rw e at l.invariant.1)
