-- `none_single` meets its contract. Assumes nothing.
use Rattle.std.proofs.Common.{rules}
use mathlib.Core.Bool.{not}
use Prim.Native.Nat.{◌*◌}
use lib.Dec.{eqb}
use Rattle.parity.specs.Matrix.{lent}
use Rattle.parity.specs.Words.{inside, stopping}
use Rattle.parity.proofs.Finite.Positions.{all_below}
use Rattle.word.proofs.none_single.Goals as goal

pub returns : goal.returns
unfolding stopping
returns c = let a = c.args in
    all_below (λ d. not (eqb (inside (lent 8 a.words.now) (a.used * 64) d (lent 8 a.set.now 0)) 1)) a.checks c.all.ensures.ran (λ x b q k. search rules)
