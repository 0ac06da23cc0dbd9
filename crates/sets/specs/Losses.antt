-- Losses, on sets of bits. Assumes nothing.
use Rattle.std.specs.Prelude.{Bool, not, ◌&&◌, List, [], ◌∷◌, ℕ, ◌+◌}
use Rattle.parity.specs.Finite.{count}

-- `losses` (parity, Words) of the set s of lost bits and the set t of those that are left: the first n are sent bits, the k after them added ones
unfoldable pub set_losses : ℕ → ℕ → (ℕ → Bool) → (ℕ → Bool) → List ℕ
set_losses n k s t =
    count n (λ b. s b && not (t b)) ∷ count k (λ j. s (n + j) && not (t (n + j)))
    ∷ count n t ∷ count k (λ j. t (n + j)) ∷ []
