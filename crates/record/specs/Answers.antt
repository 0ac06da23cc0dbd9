-- The values that loading answers. Assumes nothing.
use Rattle.std.specs.Prelude.{ℕ, List, [], ◌∷◌}
use Rattle.record.specs.declared.Sizes.{Sizes}

abbrev pub sizes_values : Sizes → List ℕ
sizes_values s = s.n ∷ s.m ∷ s.k ∷ []
