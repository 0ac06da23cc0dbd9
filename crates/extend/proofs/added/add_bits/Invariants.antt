-- What the loops of `add_bits` keep.
use mathlib.Core.Path.{◌≡◌}
use Prim.Native.Nat.{◌+◌, ◌≤◌}
use lib.ListN.{length}
use Rattle.parity.specs.Matrix.{lent}
use Rattle.extend.specs.Added.{ExtendedTo}
use Rattle.extend.proofs.added.add_bits.Given as goal

abbrev pub invariant-loop-j : goal.invariant-loop-j
invariant-loop-j l = (l.j ≤ l.k) × (length l.word ≡ l.n + l.k) × ExtendedTo (lent 8 l.words) l.n l.m l.j l.initial.word l.word
