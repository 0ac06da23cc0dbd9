-- `checks::add_check` meets its contract. Assumes nothing.
use mathlib.Core.Path.{◌≡◌, refl}
use mathlib.Core.Bool.{xor}
use native.Mathlib.Omega.{arith}
use lib.Bits.{bit_xor}
use Rattle.parity.proofs.Words.Sets.{bit_of_xor}
use Rattle.rows.proofs.Writing.{apart, written_onto, combined_all}
use Rattle.elimination.proofs.checks.add_check.Goals as goal

pub loop-i-preserved : goal.loop-i-preserved
loop-i-preserved c = let l = c.loop-i in
    let p-kept = l.invariant.1.else _ (λ j k. apart c.args.width c.args.p c.args.c l.i j (omega arith) (omega arith) c.requires.2) in
    (omega arith, written_onto bit_xor _ _ _ _ _ _ l.invariant.1 (omega arith) p-kept)

pub returns : goal.returns
returns c = let l = c.loop-i in
    let e : l.i ≡ c.args.width = omega arith in
    combined_all xor bit_xor bit_of_xor (unfold xor in refl) _ _ _ _ _ _ (rw e at l.invariant.1)
