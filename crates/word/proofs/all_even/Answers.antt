-- `all_even` meets its contract. Assumes nothing.
use Rattle.std.proofs.Common.{rules}
use Prim.Native.Nat.{◌*◌, ◌%◌}
use lib.Dec.{eqb}
use Rattle.parity.specs.Matrix.{lent}
use Rattle.parity.specs.Words.{inside, even_checks}
use Rattle.parity.proofs.Finite.Positions.{all_below}
use Rattle.parity.proofs.Words.Sets.{even_not_odd}
use Rattle.word.proofs.all_even.Goals as goal

pub returns : goal.returns
unfolding even_checks
returns c = let a = c.args in
    all_below (λ d. eqb (inside (lent 8 a.words.now) (a.used * 64) d (lent 8 a.set.now 0) % 2) 0) a.checks c.all.ensures.ran (λ x b q k. search (rules, even_not_odd))
