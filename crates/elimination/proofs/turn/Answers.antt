-- `turn` meets its contract. Assumes nothing.
use Rattle.elimination.proofs.Echelons.{turned_none, turned_pivot}
use native.Mathlib.Omega.{arith}
use Rattle.elimination.proofs.turn.Goals as goal

pub returns-in-Some : goal.returns-in-Some
returns-in-Some c = let (F, p) = c.in-Some.ensures in
    rw c.make_pivot.ensures (turned_pivot _ _ _ _ _ _ F p (omega (arith, F.from)) c.args.first)

pub returns-in-None : goal.returns-in-None
returns-in-None c = turned_none _ _ _ _ _ c.args.first c.in-None.ensures
