-- What the loops of `generate` keep.
use mathlib.Core.Path.{◌≡◌}
use Prim.Native.Nat.{◌≤◌, ◌<◌}
use Rattle.parity.specs.House.{table_word}
use Rattle.house.specs.Names.{code}
use Rattle.house.proofs.rule.generate.Given as goal

abbrev pub invariant-loop-b : goal.invariant-loop-b
invariant-loop-b l = (l.b ≤ l.b-end) × (l.b-end ≡ (code l.name).n) × (l.b-end < 32) × (l.x ≡ table_word l.b (code l.name).matrix l.c.0)
