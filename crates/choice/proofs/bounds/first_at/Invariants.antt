-- What the loops of `first_at` keep.
use Rattle.choice.specs.Bounds.{Without}
use Rattle.choice.proofs.bounds.first_at.Given as goal

abbrev pub invariant-loop-x : goal.invariant-loop-x
invariant-loop-x l = Without l.bound l.initial.x l.cap l.x
