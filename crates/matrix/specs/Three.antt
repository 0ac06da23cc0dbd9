-- What rule A asks of an added check: its three bits, and the pairs of lower bits. Assumes nothing.
use Rattle.std.specs.Prelude.{◌≡◌, Bool, true, false, cond, ◌&&◌, List, ℕ, ◌+◌, ◌*◌, ◌-◌, ◌<◌, ltb}
use Rattle.parity.specs.Matrix.{Matrix, lent, rule_at}
use Rattle.columns.specs.Three.{two, NoneIn}

-- No check, of M, other than c contains two of them.
pub record OnlyIn (h : Matrix) (M c x y z : ℕ) : Type 0 where
  pub only : (d : ℕ) → d < M → (d ≡ c → ⊥) → two h x y z d ≡ false

-- Check c contains the bits x < y < z, and no other.
pub record Three (h : Matrix) (c x y z : ℕ) : Type 0 where
  pub xy : x < y
  pub yz : y < z
  pub in_x : h c x ≡ true
  pub in_y : h c y ≡ true
  pub in_z : h c z ≡ true
  pub others : (b : ℕ) → (b ≡ x → ⊥) → (b ≡ y → ⊥) → (b ≡ z → ⊥) → h c b ≡ false

-- None of the first j added checks contains both bits.
pub record NoneOf (h : Matrix) (m j x y : ℕ) : Type 0 where
  pub none : (i : ℕ) → i < j → (h (m + i) x && h (m + i) y) ≡ false

-- Added check j has three bits, its own the highest, no given check contains two of them, and no added check before it its two lower ones.
pub record Passed (h : Matrix) (n m j : ℕ) : Type 0 where
  pub x : ℕ
  pub y : ℕ
  pub three : Three h (m + j) x y (n + j)
  pub given : NoneIn h m x y (n + j)
  pub before : NoneOf h m j x y

-- A table of pairs of bits below 64 W, 32 W + 1 rows of W words: those of a bit in the upper half, with lower bits, have a row, and those of a bit in the
-- lower half the rest of another's.
unfoldable pub row_of : ℕ → ℕ → ℕ
row_of W b = cond (ltb b (32 * W)) (32 * W - b) (b - 32 * W)

unfoldable pub place_of : ℕ → ℕ → ℕ → ℕ
place_of W a b = cond (ltb b (32 * W)) (64 * W - 1 - a) a

-- whether the table has the pair of a and b, a being the lower one
unfoldable pub paired : ℕ → List ℕ → ℕ → ℕ → Bool
paired W ps a b = lent W ps (row_of W b) (place_of W a b)

-- The pair of a and b is put into a table.
pub record PairIn (W : ℕ) (ps₀ ps₁ : List ℕ) (a b : ℕ) : Type 0 where
  pub here : paired W ps₁ a b ≡ true
  pub other : (c d : ℕ) → c < d → d < 64 * W → ((c ≡ a) × (d ≡ b) → ⊥) → paired W ps₁ c d ≡ paired W ps₀ c d

-- The table has the lower bits of the first j added checks, and no pair that none of these checks contains.
pub record Seen (W : ℕ) (h : Matrix) (n m j : ℕ) (ps : List ℕ) : Type 0 where
  pub there : (i x y : ℕ) → i < j → Three h (m + i) x y (n + i) → paired W ps x y ≡ true
  pub found : (a b : ℕ) → a < b → b < 64 * W → NoneOf h m j a b → paired W ps a b ≡ false

-- The first j added checks pass, and the table has their lower bits.
pub record Passing (W : ℕ) (h : Matrix) (n m j : ℕ) (ps : List ℕ) : Type 0 where
  pub passed : (i : ℕ) → i < j → Passed h n m i
  pub seen : Seen W h n m j ps

-- r says whether no added check before j contains its lower bits x and y, which are in the table then.
pub record Fresh (W : ℕ) (h : Matrix) (n m j x y : ℕ) (ps : List ℕ) (r : Bool) : Type 0 where
  pub yes_none : r ≡ true → NoneOf h m j x y
  pub yes_seen : r ≡ true → Seen W h n m (j + 1) ps
  pub none_yes : NoneOf h m j x y → r ≡ true

-- r says that added check j passes too, or rule A does not hold for it.
pub record Judged (W : ℕ) (h : Matrix) (n m k j : ℕ) (ps : List ℕ) (r : Bool) : Type 0 where
  pub yes : r ≡ true → Passing W h n m (j + 1) ps
  pub no : r ≡ false → rule_at h n m k j ≡ false
