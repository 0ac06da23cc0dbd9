-- Elimination: adding checks to others, and the form that a reduced matrix has. Assumes nothing.
use Rattle.std.specs.Prelude.{ℕ, ◌+◌, ◌≤◌, ◌<◌, ◌≡◌, Bool, true, false, cond, ◌&&◌, List, eqb, ltb, leb, get_or, Option, Some, None}
use Rattle.std.specs.Bool.{xor}
use Rattle.parity.specs.Finite.{any}
use Rattle.parity.specs.Matrix.{Matrix}
use Rattle.parity.specs.Words.{even_checks}
use Rattle.rows.specs.Whole.{plus}

-- the row if x is true, and else nothing
abbrev pub when : Bool → (ℕ → Bool) → ℕ → Bool
when x row b = x && row b

-- the row added to each check from `first` up to `end` that contains bit b
unfoldable pub cleared : (ℕ → Bool) → ℕ → ℕ → ℕ → Matrix → Matrix
cleared row b first end g i j = cond (leb first i && ltb i end) (xor (g i j) (when (g i b) row j)) (g i j)

-- p is the first check from `first` on that contains bit b, or m if none of the m checks does
pub record FirstIn (g : Matrix) (m first b p : ℕ) : Type 0 where
  pub from : first ≤ p
  pub to : p ≤ m
  pub none : (c : ℕ) → first ≤ c → c < p → g c b ≡ false
  pub found : p < m → g p b ≡ true

-- the first such check, or none
abbrev pub FirstOf : Matrix → ℕ → ℕ → ℕ → Option ℕ → Type 0
FirstOf g m first b (Some p) = FirstIn g m first b p × (p < m)
FirstOf g m first b None = (c : ℕ) → first ≤ c → c < m → g c b ≡ false

-- The two matrices have the same codewords, in their first n bits and m checks.
abbrev pub Same : Matrix → Matrix → ℕ → ℕ → Type 0
Same h g n m = (x : ℕ → Bool) → even_checks h n m x ≡ even_checks g n m x

-- check p is added to check r, if it is another one
unfoldable pub lifted : ℕ → ℕ → Matrix → Matrix
lifted p r g = cond (eqb p r) g (plus r (g p) g)

-- check r is added to each other check from `first` up to m that contains bit b
unfoldable pub around : ℕ → ℕ → ℕ → ℕ → Matrix → Matrix
around first m r b g i j = cond (eqb i r) (g i j) (cleared (g r) b first m g i j)

-- Of the columns below b, those of the bits e are reduced. Each check c below r has a pivot, `at c`, a bit of e; the pivots rise.
-- No other check contains it, and check c contains no lower bit of e. The checks from r on contain no bit of e below b.
pub record Reduced (g : Matrix) (m : ℕ) (e : ℕ → Bool) (b r : ℕ) (at : ℕ → ℕ) : Type 0 where
  pub few : r ≤ m
  pub low : (c : ℕ) → c < r → at c < b
  pub among : (c : ℕ) → c < r → e (at c) ≡ true
  pub rise : (c d : ℕ) → c < d → d < r → at c < at d
  pub own : (c : ℕ) → c < r → g c (at c) ≡ true
  pub alone : (c d : ℕ) → c < r → d < m → (d ≡ c → ⊥) → g d (at c) ≡ false
  pub first : (c j : ℕ) → c < r → j < at c → e j ≡ true → g c j ≡ false
  pub rest : (c j : ℕ) → r ≤ c → c < m → j < b → e j ≡ true → g c j ≡ false

-- the bit is the pivot of one of the checks below r
unfoldable pub pivot : ℕ → (ℕ → ℕ) → ℕ → Bool
pivot r at b = any r (λ c. eqb (at c) b)

-- g has the codewords of h, in n bits and m checks, and is reduced in the bits of e below b; the list has the pivots.
pub record Reduction (h g : Matrix) (n m : ℕ) (e : ℕ → Bool) (b r : ℕ) (at : List ℕ) : Type 0 where
  pub same : Same h g n m
  pub form : Reduced g m e b r (λ c. get_or at c 0)

abbrev pub every_bit : ℕ → Bool
every_bit b = true

-- The echelon form: g has the codewords of h, in n bits and m checks. Each check c below r has a pivot, in the list, and no lower bit.
-- The checks from r on are those of a matrix, `whole`, that h can be reduced to in all bits below b, with the same pivots.
pub record Echelon (h g : Matrix) (n m b r : ℕ) (at : List ℕ) : Type 0 where
  pub same : Same h g n m
  pub own : (c : ℕ) → c < r → g c (get_or at c 0) ≡ true
  pub first : (c j : ℕ) → c < r → j < get_or at c 0 → g c j ≡ false
  pub whole : Matrix
  pub reduction : Reduction h whole n m every_bit b r at
  pub rest : (c j : ℕ) → r ≤ c → g c j ≡ whole c j

-- The turn of bit b, which is cleared from the checks from `first` on. Where these are all checks, what was reduced in the bits below b is afterwards reduced
-- in b too, if it is one of those to reduce in; where they are those from r on, what was in echelon form is afterwards so in b too.
pub record Turned (first : ℕ) (g k : Matrix) (m b r : ℕ) (at : List ℕ) (s : ℕ) (to : List ℕ) : Type 0 where
  pub whole : first ≡ 0 → (h : Matrix) (n : ℕ) (e : ℕ → Bool) → e b ≡ true → Reduction h g n m e b r at → Reduction h k n m e (b + 1) s to
  pub below : first ≡ r → (h : Matrix) (n : ℕ) → Echelon h g n m b r at → Echelon h k n m (b + 1) s to
