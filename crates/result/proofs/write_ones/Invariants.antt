-- What the loops of `write_ones` keep.
use Rattle.parity.specs.Matrix.{lent}
use Rattle.result.proofs.Writing.{Writing}
use Rattle.result.proofs.write_ones.Given as goal

abbrev pub invariant-loop-rest : goal.invariant-loop-rest
invariant-loop-rest l = Writing l.i l.x l.rest (lent l.width l.ones 0) l.initial.word l.word

abbrev pub decreases-loop-rest : goal.decreases-loop-rest
decreases-loop-rest l = l.rest
