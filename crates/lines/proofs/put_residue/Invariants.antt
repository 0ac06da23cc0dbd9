-- What the loops of `put_residue` keep.
use Prim.Native.Nat.{◌≤◌, ◌+◌}
use mathlib.Core.Path.{◌≡◌}
use lib.ListN.{length}
use Rattle.parity.specs.Mend.{residue_text}
use Rattle.lines.specs.Placed.{Placed}
use Rattle.lines.proofs.put_residue.Given as goal

abbrev pub invariant-loop-b : goal.invariant-loop-b
invariant-loop-b l = (l.b ≤ l.n) × (l.at + length (residue_text l.word l.n) ≤ length l.initial.out) × (l.n ≤ length l.word) × (length l.out ≡ length l.initial.out) × Placed l.initial.out l.at (residue_text l.word l.b) l.out l.next
