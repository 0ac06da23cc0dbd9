-- Document 02, M-104: what is promised of copying a house code, over what the call answers and leaves. Assumes nothing.
use Rattle.std.specs.Prelude.{ℕ, ◌≡◌, List, [], ◌∷◌}
use Rattle.parity.specs.Causes.{answer}
use Rattle.parity.specs.Matrix.{lent, cause}
use Rattle.parity.specs.House.{house_code}
use Rattle.parity.specs.Calls.{house_outcome}

-- M-104: a house code that is copied is accepted with k = 0, and its words hold the matrix that its rule says.
abbrev pub HouseCopied : Type 0
HouseCopied = (ws : List ℕ) (name n m : ℕ) → (house_outcome name ws).reply ≡ answer (n ∷ m ∷ [])
    → (cause (house_outcome name ws).after n m 0 ≡ 0) × (lent 8 (house_outcome name ws).after ≡ (house_code name).matrix)
