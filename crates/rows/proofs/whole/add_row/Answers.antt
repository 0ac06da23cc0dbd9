-- `whole::add_row` meets its contract. Assumes nothing.
use native.Mathlib.Omega.{arith}
use mathlib.Core.Path.{◌≡◌, refl}
use mathlib.Core.Bool.{xor}
use lib.Bits.{bit_xor}
use Rattle.parity.proofs.Words.Sets.{bit_of_xor}
use Rattle.rows.proofs.Writing.{written_onto, combined_all}
use Rattle.rows.proofs.whole.add_row.Goals as goal

pub loop-i-preserved : goal.loop-i-preserved
loop-i-preserved c = (omega arith, written_onto bit_xor _ _ _ _ _ _ c.loop-i.invariant.1 (omega arith) refl)

pub returns : goal.returns
returns c = let l = c.loop-i in
    let e : l.i ≡ c.args.width = omega arith in
    combined_all xor bit_xor bit_of_xor (unfold xor in refl) _ _ _ _ _ _ (rw e at l.invariant.1)
