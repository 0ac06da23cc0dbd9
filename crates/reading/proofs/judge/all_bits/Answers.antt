-- `judge::all_bits` meets its contract. Assumes nothing.
use native.Mathlib.Omega.{arith}
use borrow.Author.Tests.{eqb-true}
use Rattle.reading.proofs.AllBits.{all_bits}
use Rattle.reading.proofs.judge.all_bits.Goals as goal

pub returns : goal.returns
returns c = record {
  all = λ t.
      let z = eqb-true _ _ t in all_bits _ _ _ _ (omega arith) (c.faults.ensures.kinds z) (c.faults.ensures.rises z) (omega (arith, c.payload.ensures, c.if-n-payload.false));
}
