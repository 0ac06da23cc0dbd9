-- What the loops of `read_words` keep.
use Prim.Native.Nat.{◌≤◌, ◌+◌, ◌*◌}
use mathlib.Core.Path.{◌≡◌}
use lib.ListN.{length, take}
use Rattle.receiver.specs.Stages.{words_in}
use Rattle.receiver.proofs.input.read_words.Given as goal

abbrev pub invariant-loop-i : goal.invariant-loop-i
invariant-loop-i l = (l.i ≤ l.w) × (4 + 4 * l.w ≤ length l.input) × (l.w ≤ length l.initial.out) × (length l.out ≡ length l.initial.out) × (take l.i l.out ≡ words_in l.input l.i)
