-- What is read off reduced rows, of B bits. Assumes nothing.
use Rattle.std.specs.Prelude.{◌≡◌, Bool, true, false, not, ◌&&◌, ◌||◌, List, ℕ, ◌%◌, ◌≤◌, ◌<◌, eqb, get_or}
use Rattle.parity.specs.Finite.{any}
use Rattle.parity.specs.Matrix.{Matrix}
use Rattle.parity.specs.Words.{inside, odd}

-- r says whether the rows from `first` up to `end` are even in the bits o
pub record EvenFrom (g : Matrix) (B first end : ℕ) (o : ℕ → Bool) (r : Bool) : Type 0 where
  pub even : r ≡ true → (c : ℕ) → first ≤ c → c < end → inside g B c o % 2 ≡ 0
  pub uneven : r ≡ false → (c : ℕ) × (first ≤ c) × (c < end) × (inside g B c o % 2 ≡ 0 → ⊥)

-- Row c has exactly one of the bits e; and besides an odd number of the bits o.
abbrev pub alone : Matrix → ℕ → (ℕ → Bool) → ℕ → Bool
alone g B e c = eqb (inside g B c e) 1

abbrev pub alone_odd : Matrix → ℕ → (ℕ → Bool) → (ℕ → Bool) → ℕ → Bool
alone_odd g B e o c = alone g B e c && odd (inside g B c o)

-- Of the sets l and v, bit b leaves the one if row c has no other of the bits e, and then enters the other if the row's bits o are odd.
pub record PivotWritten (g : Matrix) (B : ℕ) (e o : ℕ → Bool) (c b : ℕ) (l v l' v' : ℕ → Bool) : Type 0 where
  pub left : (a : ℕ) → l' a ≡ (l a && not (eqb b a && alone g B e c))
  pub value : (a : ℕ) → v' a ≡ (v a || (eqb b a && alone_odd g B e o c))

-- and so do the pivots of the first i rows
pub record PivotsWritten (g : Matrix) (B : ℕ) (e o : ℕ → Bool) (at : List ℕ) (i : ℕ) (l v l' v' : ℕ → Bool) : Type 0 where
  pub left : (a : ℕ) → l' a ≡ (l a && not (any i (λ c. eqb (get_or at c 0) a && alone g B e c)))
  pub value : (a : ℕ) → v' a ≡ (v a || any i (λ c. eqb (get_or at c 0) a && alone_odd g B e o c))

-- the first r numbers of a list are below n
pub record Low (r n : ℕ) (at : List ℕ) : Type 0 where
  pub low : (c : ℕ) → c < r → get_or at c 0 < n
