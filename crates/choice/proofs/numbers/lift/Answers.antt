-- `lift` meets its contract. Assumes nothing.
use native.Mathlib.Nat.{lt_of_le_of_lt}
use native.Mathlib.Omega.{arith}
use lib.Bits.{and_le_l}
use lib.ListN.{length-set}
use Rattle.parity.proofs.Matrix.Ones.{trailing_lowest}
use Rattle.choice.proofs.Lifting.{lifted_next}
use Rattle.choice.proofs.numbers.lift.Goals as goal

pub loop-rest-preserved : goal.loop-rest-preserved
loop-rest-preserved c = let L = trailing_lowest 64 _ c.loop-rest.invariant.1 c.loop-rest-test.true in
    let l = c.loop-rest in (
      simp length-set l.invariant.0,
      lt_of_le_of_lt (and_le_l _ _) l.invariant.1,
      rw (c.max.ensures, c.number_at.ensures) (lifted_next _ _ _ _ _ _ l.invariant.2 L (omega (arith, L.short, l.invariant.0))),
    )
