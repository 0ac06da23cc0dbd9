-- What the loops of `first_with` keep.
use Rattle.parity.specs.Matrix.{lent}
use mathlib.Core.Bool.{false}
use mathlib.Core.Path.{◌≡◌}
use Prim.Native.Nat.{ℕ, ◌≤◌, ◌<◌}
use Rattle.elimination.proofs.checks.first_with.Given as goal

abbrev pub invariant-loop-c : goal.invariant-loop-c
invariant-loop-c l = (l.first ≤ l.c) × (l.c ≤ l.checks) × ((i : ℕ) → l.first ≤ i → i < l.c → lent l.width l.rows i l.b ≡ false)
