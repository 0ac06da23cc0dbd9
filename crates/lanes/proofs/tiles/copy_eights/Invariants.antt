-- What the loops of `copy_eights` keep.
use Prim.Native.Nat.{◌≤◌, ◌-◌}
use Rattle.rows.specs.Whole.{Written, word_from}
use Rattle.lanes.proofs.tiles.copy_eights.Given as goal

abbrev pub invariant-loop-done : goal.invariant-loop-done
invariant-loop-done l = (l.done ≤ l.count) × Written l.initial.to l.to l.b (word_from l.from l.a) l.done

abbrev pub decreases-loop-done : goal.decreases-loop-done
decreases-loop-done l = l.count - l.done
