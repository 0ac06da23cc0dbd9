-- Document 02, 'Splits carried in the record' (M-107): lists of splits, taking all splits back, the recovered list, and the matrices that no splits
-- made. Assumes nothing.
use Rattle.std.specs.Prelude.{ℕ, zero, suc, ◌+◌, Bool, true, not, ◌&&◌, List, [], ◌∷◌, ltb, length}
use Rattle.std.specs.Bool.{beq}
use Rattle.parity.specs.Finite.{all}
use Rattle.parity.specs.Matrix.{Matrix, rule_a}
use Rattle.parity.specs.Cycles.{share, pairs, split_of, taken_back, lower_of, higher_of}

-- two bits that are split
pub record Pair : Type 0 where
  pub lower : ℕ
  pub higher : ℕ

-- A list of splits has the newest first, so that k is its length. The matrix after them, from one with k = 0:
unfoldable pub split_all : Matrix → ℕ → ℕ → List Pair → Matrix
split_all g n m [] = g
split_all g n m (p ∷ ps) = split_of (split_all g n m ps) (n + length ps) (m + length ps) p.lower p.higher

-- a split that would not be refused, of a lower bit below the higher
unfoldable pub split_right : Matrix → ℕ → ℕ → ℕ → Pair → Bool
split_right h n m k p = ltb p.lower p.higher && ltb p.higher (n + k) && ltb 1 (share h (m + k) p.lower p.higher) && ltb k 392

unfoldable pub splits_right : Matrix → ℕ → ℕ → List Pair → Bool
splits_right g n m [] = true
splits_right g n m (p ∷ ps) = splits_right g n m ps && split_right (split_all g n m ps) n m (length ps) p

-- the sum of s (s - 1) / 2 over them
unfoldable pub sum_all : Matrix → ℕ → ℕ → List Pair → ℕ
sum_all g n m [] = 0
sum_all g n m (p ∷ ps) = sum_all g n m ps + pairs (share (split_all g n m ps) (m + length ps) p.lower p.higher)

-- All splits taken back, one by one: the checks before the splits, with k = 0,
unfoldable pub all_back : Matrix → ℕ → ℕ → ℕ → Matrix
all_back h n m zero = h
all_back h n m (suc k) = all_back (taken_back h (n + k) (m + k)) n m k

-- and the recovered list: the two lower bits of each added check at its turn.
unfoldable pub pair_of : Matrix → ℕ → ℕ → Pair
pair_of h N M = record { lower = lower_of h N M; higher = higher_of h N M }

unfoldable pub recovered_list : Matrix → ℕ → ℕ → ℕ → List Pair
recovered_list h n m zero = []
recovered_list h n m (suc k) = pair_of h (n + k) (m + k) ∷ recovered_list (taken_back h (n + k) (m + k)) n m k

-- the sum of s (s - 1) / 2 over the splits of a matrix
unfoldable pub splits_sum : Matrix → ℕ → ℕ → ℕ → ℕ
splits_sum h n m k = sum_all (all_back h n m k) n m (recovered_list h n m k)

-- none of these takings back would be refused 16
unfoldable pub back_right : Matrix → ℕ → ℕ → ℕ → Bool
back_right h n m zero = true
back_right h n m (suc k) = rule_a (taken_back h (n + k) (m + k)) n m k && back_right (taken_back h (n + k) (m + k)) n m k

-- two matrices are the same in their first N bits and M checks
unfoldable pub same_matrix : ℕ → ℕ → Matrix → Matrix → Bool
same_matrix N M g h = all M (λ c. all N (λ b. beq (g c b) (h c b)))

-- The recovered list rebuilds the matrix: no split of it would be refused, and they give the matrix.
unfoldable pub rebuilds : Matrix → ℕ → ℕ → ℕ → Bool
rebuilds h n m k =
    let g = all_back h n m k in
    let ps = recovered_list h n m k in
    splits_right g n m ps && same_matrix (n + k) (m + k) (split_all g n m ps) h

-- cause 16 in writing: some taking back on the way would be refused 16, or the recovered list does not rebuild the matrix
unfoldable pub not_built : Matrix → ℕ → ℕ → ℕ → Bool
not_built h n m k = not (back_right h n m k && rebuilds h n m k)
