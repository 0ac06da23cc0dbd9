-- What orthogonalising answers, as the values that document 01 carries. Assumes nothing.
use Rattle.std.specs.Prelude.{ℕ, List, ◌∷◌}
use Rattle.parity.specs.Causes.{held_values}
use Rattle.orthogonalise.specs.declared.Orthogonalised.{Orthogonalised}

abbrev pub orthogonalised_values : Orthogonalised → List ℕ
orthogonalised_values o = o.splits ∷ o.sum ∷ o.k ∷ held_values o.held
