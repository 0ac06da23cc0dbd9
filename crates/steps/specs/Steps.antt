-- Peeling on the sets of a word's erased bits and of its ones, with N bits and M checks. Assumes nothing.
use Rattle.std.specs.Prelude.{◌≡◌, Bool, not, ◌&&◌, ◌||◌, ℕ, eqb}
use Rattle.parity.specs.Matrix.{Matrix}
use Rattle.parity.specs.Words.{inside, odd}
use Rattle.search.specs.Next.{Lone, NoSingle}

-- Bit b of check c is solved: it is erased no more, and becomes the sum modulo 2 of the check's ones.
pub record Solved (h : Matrix) (N c b : ℕ) (e o e' o' : ℕ → Bool) : Type 0 where
  pub gone : (a : ℕ) → e' a ≡ (e a && not (eqb a b))
  pub value : (a : ℕ) → o' a ≡ (o a || (eqb a b && odd (inside h N c o)))

-- the sets that solving steps lead to
pub data Reached (h : Matrix) (N M : ℕ) (e o : ℕ → Bool) : (ℕ → Bool) → (ℕ → Bool) → Type 0 where
  start : Reached h N M e o e o
  next : {e₁ o₁ e₂ o₂ : ℕ → Bool} → Reached h N M e o e₁ o₁ → (c b : ℕ) → Lone h N M e₁ c b → Solved h N c b e₁ o₁ e₂ o₂ → Reached h N M e o e₂ o₂

-- steps lead there, and no check has exactly one erased bit
pub record Settled (h : Matrix) (N M : ℕ) (e o e' o' : ℕ → Bool) : Type 0 where
  pub reached : Reached h N M e o e' o'
  pub over : NoSingle h N M 0 e'
