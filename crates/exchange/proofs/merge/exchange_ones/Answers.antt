-- `exchange_ones` meets its contract. Assumes nothing.
use mathlib.Core.Path.{◌∙◌}
use Rattle.parity.proofs.Matrix.Ones.{trailing_lowest}
use Rattle.exchange.proofs.Exchange.{exchanging_all, exchanging_next}
use Rattle.exchange.proofs.merge.exchange_ones.Goals as goal

pub loop-rest-preserved : goal.loop-rest-preserved
loop-rest-preserved c = let l = c.loop-rest in
    let L = trailing_lowest 64 _ l.invariant.1.fits c.loop-rest-test.true in (
      c.exchange.auto.words ∙ l.invariant.0,
      rw c.exchange.ensures (exchanging_next _ _ _ _ _ _ _ _ _ l.invariant.1 L),
    )

pub returns : goal.returns
returns c = exchanging_all _ _ _ _ _ _ _ _ c.loop-rest-test.false c.loop-rest.invariant.1
