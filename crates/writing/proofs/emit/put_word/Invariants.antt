-- What the loops of `put_word` keep.
use Rattle.writing.proofs.Emitting.{Emitting}
use Rattle.writing.proofs.emit.put_word.Given as goal

abbrev pub invariant-loop-rest : goal.invariant-loop-rest
invariant-loop-rest l = Emitting l.initial.target l.target l.p l.first l.x l.rest l.at

abbrev pub decreases-loop-rest : goal.decreases-loop-rest
decreases-loop-rest l = l.rest
