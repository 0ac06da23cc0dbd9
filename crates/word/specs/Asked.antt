-- What is asked of all checks at once. Assumes nothing.
use Rattle.std.specs.Prelude.{◌≡◌, List, ℕ, ◌≤◌, length}

-- the words of a matrix, its first checks, and a set of bits, of which the first words are in use
abbrev pub AllAsked : List ℕ → ℕ → List ℕ → ℕ → Type 0
AllAsked ws checks set used = (length ws ≡ 4096) × (checks ≤ 512) × (length set ≡ 8) × (used ≤ 8)
