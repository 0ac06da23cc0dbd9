-- What the loops of `check_answers` keep.
use Rattle.soft.specs.Store.{Partly}
use Rattle.check_node.specs.Pass.{seen, check_answer}
use Rattle.parity.specs.Soft.{message_at}
use lib.ListN.{length}
use Prim.Native.Nat.{◌≤◌}
use mathlib.Core.Path.{◌≡◌}
use Rattle.check_node.proofs.check_answers.Given as goal

abbrev pub invariant-loop-t : goal.invariant-loop-t
invariant-loop-t l = (l.d ≡ length l.initial.tags) × (l.t ≤ l.d) × (l.s ≡ seen (length l.initial.tags) (message_at l.initial.tags l.initial.values) (length l.initial.tags))
    × Partly (length l.initial.tags) l.t (check_answer (length l.initial.tags) (message_at l.initial.tags l.initial.values)) (message_at l.initial.tags l.initial.values) l.tags l.values
