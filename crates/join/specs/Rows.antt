-- Rows of U words while checks are joined, and the words, W for each check, that they are written to. Assumes nothing.
use Rattle.std.specs.Prelude.{◌≡◌, Bool, cond, ◌&&◌, List, Option, Some, None, ℕ, ◌+◌, ◌*◌, ◌/◌, ◌%◌, ◌≤◌, ◌<◌, eqb, ltb, get_or}
use Rattle.parity.specs.Matrix.{Matrix, lent, word_of}
use Rattle.parity.specs.Joining.{Joined, join_check}

-- Row d, of two words, has the words x and y.
unfoldable pub is_row : List ℕ → ℕ → ℕ → ℕ → Bool
is_row rows x y d = eqb (get_or rows (d * 2) 0) x && eqb (get_or rows (d * 2 + 1) 0) y

-- The first M rows are the first words of the checks of h.
pub record HasRows (U W : ℕ) (h : Matrix) (M : ℕ) (rows : List ℕ) : Type 0 where
  pub at : (c i : ℕ) → c < M → i < U → get_or rows (c * U + i) 0 ≡ word_of W h (c * W + i)

-- The rows are the r checks of the result.
pub record AllRows (j : Joined) (rows : List ℕ) (r : ℕ) : Type 0 where
  pub few : r ≤ 120
  pub number : r ≡ j.checks
  pub held : HasRows 2 8 j.matrix r rows

-- There is room for the checks of the result, which are the rows, or there are more than 120.
abbrev pub Gathered : Joined → List ℕ → Option ℕ → Type 0
Gathered j rows (Some r) = AllRows j rows r
Gathered j rows None = 120 < j.checks

-- Check c is added to rows that are the checks of a result, as `join_check` says.
pub record Added (ws : List ℕ) (c : ℕ) (before : List ℕ) (at : ℕ) (after : List ℕ) (r : Option ℕ) : Type 0 where
  pub added : (j : Joined) → at ≡ j.checks → HasRows 2 8 j.matrix at before → Gathered (join_check 128 j (lent 8 ws c)) after r

-- The words are those of the first M rows, each in its place, and else 0.
pub record Spread (U W : ℕ) (rows : List ℕ) (M : ℕ) (words : List ℕ) : Type 0 where
  pub at : (i : ℕ) → i < 512 * W → get_or words i 0 ≡ cond (ltb (i / W) M && ltb (i % W) U) (get_or rows (i / W * U + i % W) 0) 0
