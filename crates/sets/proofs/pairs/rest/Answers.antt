-- `pairs::rest` meets its contract. Assumes nothing.
use Rattle.std.proofs.Common.{rules}
use mathlib.Core.Path.{refl}
use native.Mathlib.Omega.{arith}
use Rattle.sets.proofs.Eights.{bit_one, half}
use Rattle.sets.proofs.Making.{upto_bit}
use Rattle.sets.proofs.pairs.rest.Goals as goal

pub loop-b-preserved : goal.loop-b-preserved
loop-b-preserved c = let l = c.loop-b in
    let E = c.byte-x.ensures in (
      refl,
      search rules,
      omega arith,
      omega arith,
      upto_bit _ _ _ _ _ l.invariant.4 _ (omega arith) (omega arith) (rw (← E.0) (half c.byte-x.result E.1)),
      upto_bit _ _ _ _ _ l.invariant.5 _ (omega arith) (omega arith) (rw (← E.0) (bit_one c.byte-x.result E.1)),
    )
