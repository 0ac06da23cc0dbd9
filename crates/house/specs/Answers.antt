-- What copying a house code answers, as the values carried. Assumes nothing.
use Rattle.std.specs.Prelude.{List, ℕ, [], ◌∷◌}
use Rattle.house.specs.declared.Size.{Size}

-- n and m
abbrev pub size_values : Size → List ℕ
size_values s = s.n ∷ s.m ∷ []
