-- `dense` meets its contract. Assumes nothing.
use native.Mathlib.Omega.{arith}
use lib.ListN.{length-set}
use Rattle.try_split.proofs.dense.Goals as goal

pub bounds-words-c-in-loop-c : goal.bounds-words-c-in-loop-c
bounds-words-c-in-loop-c c = let l = c.loop-c in simp length-set (omega (arith, l.invariant.1))
