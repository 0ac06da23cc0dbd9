-- What the loops of `put_characters` keep.
use Prim.Native.Nat.{◌≤◌, ◌+◌}
use mathlib.Core.Path.{◌≡◌}
use lib.ListN.{length}
use Rattle.lines.specs.Lines.{word_text}
use Rattle.lines.specs.Placed.{Placed}
use Rattle.lines.proofs.put_characters.Given as goal

abbrev pub invariant-loop-b : goal.invariant-loop-b
invariant-loop-b l = (l.b ≤ l.n) × (l.at + l.n ≤ length l.initial.out) × (l.n ≤ length l.word) × (length l.out ≡ length l.initial.out) × (l.next ≡ l.at + l.b) × Placed l.initial.out l.at (word_text l.word l.b) l.out l.next
