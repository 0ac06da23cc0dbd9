-- `exchange_all` meets its contract. Assumes nothing.
use mathlib.Core.Path.{◌≡◌, ◌∙◌}
use native.Mathlib.Omega.{arith}
use Rattle.exchange.proofs.Exchange.{exchanged_next, exchanged_all}
use Rattle.exchange.proofs.merge.exchange_all.Goals as goal

pub loop-i-preserved : goal.loop-i-preserved
loop-i-preserved c = let l = c.loop-i in
    let s = c.args in
    let told = c.exchange_ones in
    (omega arith, told.auto.words ∙ l.invariant.1, exchanged_next s.width s.cols.now s.row _ _ _ _ _ _ _ (omega arith) l.invariant.2 told.ensures)

pub returns : goal.returns
returns c = let s = c.args in
    let e : c.loop-i.i ≡ s.width = omega arith in
    exchanged_all s.width s.cols.now s.row _ _ _ _ _ (rw e at c.loop-i.invariant.2)
