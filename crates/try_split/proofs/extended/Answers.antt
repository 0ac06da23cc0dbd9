-- `extended` meets its contract. Assumes nothing.
use native.Mathlib.Omega.{arith}
use lib.ListN.{length-set}
use Rattle.try_split.proofs.extended.Goals as goal

pub bounds-words-at-in-loop-j : goal.bounds-words-at-in-loop-j
bounds-words-at-in-loop-j c = let l = c.loop-j in simp length-set (omega (arith, l.invariant.1))
