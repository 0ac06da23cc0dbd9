-- What the loops of `course` keep.
use Rattle.messages.specs.Memory.{start, Holds}
use Rattle.standing.specs.Standing.{Twice}
use Rattle.parity.specs.Soft.{message_at, sent_after}
use Rattle.parity.specs.Matrix.{lent}
use lib.ListN.{length}
use Prim.Native.Nat.{◌≤◌}
use mathlib.Core.Path.{◌≡◌}
use Rattle.min_sum.proofs.rounds.course.Given as goal

abbrev pub invariant-loop-r : goal.invariant-loop-r
invariant-loop-r l = (l.w ≡ start (lent 8 l.words) 512 l.checks) × (l.r ≤ l.last) × (length l.at ≡ 512)
    × Holds (lent 8 l.words) 512 l.checks (sent_after (lent 8 l.words) 512 l.checks (message_at l.word l.floats) l.r) l.tags l.values × Twice l.w l.w l.tags l.values
