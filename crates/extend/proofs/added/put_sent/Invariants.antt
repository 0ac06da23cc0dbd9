-- What the loops of `put_sent` keep.
use mathlib.Core.Path.{◌≡◌}
use mathlib.Core.List.{◌++◌}
use lib.ListN.{length, take, drop}
use Rattle.extend.proofs.added.put_sent.Given as goal

abbrev pub invariant-loop-b : goal.invariant-loop-b
invariant-loop-b l = (length l.word ≡ length l.initial.word) × (l.word ≡ take l.b l.sent ++ drop l.b l.initial.word)
