-- A message placed at the bits that are no pivots. Assumes nothing.
use Rattle.std.specs.Prelude.{ℕ, ◌≤◌, ◌<◌, ◌≡◌, not, cond, List, get_or, length}
use Rattle.parity.specs.Finite.{count}
use Rattle.elimination.specs.Reduction.{pivot}

-- the pivot of check c
abbrev pub pivot_at : List ℕ → ℕ → ℕ
pivot_at pivots c = get_or pivots c 0

-- r bits below n, in rising order
pub record Rising (n r : ℕ) (pivots : List ℕ) : Type 0 where
  pub low : (c : ℕ) → c < r → pivot_at pivots c < n
  pub rise : (c d : ℕ) → c < d → d < r → pivot_at pivots c < pivot_at pivots d

-- what stands at bit b of a word whose pivots are 0 and whose other bits, rising, hold the message
unfoldable pub placed : ℕ → List ℕ → (ℕ → ℕ) → ℕ → ℕ
placed r pivots message b = cond (pivot r (pivot_at pivots) b) 0 (message (count b (λ i. not (pivot r (pivot_at pivots) i))))

-- The first b places of u are placed: p pivots and q bytes of the message are used.
pub record Placing (n r : ℕ) (pivots : List ℕ) (message : ℕ → ℕ) (u : List ℕ) (b p q : ℕ) : Type 0 where
  pub long : length u ≡ n
  pub used : p ≤ r
  pub past : (c : ℕ) → c < p → pivot_at pivots c < b
  pub next : (c : ℕ) → p ≤ c → c < r → b ≤ pivot_at pivots c
  pub others : q ≡ count b (λ i. not (pivot r (pivot_at pivots) i))
  pub done : (j : ℕ) → j < b → get_or u j 0 ≡ placed r pivots message j
