-- What taking all splits back comes to. Assumes nothing.
use Rattle.std.specs.Prelude.{◌≡◌, Bool, true, false, not, cond, ◌&&◌, ℕ, ◌+◌, ◌≤◌, ◌<◌, ltb, List, length}
use Rattle.parity.specs.Matrix.{Matrix}
use Rattle.parity.specs.Cycles.{taken_back, others}
use Rattle.parity.specs.Splits.{all_back, not_built}
use Rattle.parity.specs.Sound.{Clean, Sound, Newest}

-- the words of a matrix, and columns of two words
abbrev pub WithColumns : List ℕ → List ℕ → Type 0
WithColumns ws cols = (length ws ≡ 4096) × (length cols ≡ 1024)

-- the matrix with m given checks, which have the columns g, and with the k added ones of h
unfoldable pub standing : Matrix → Matrix → ℕ → ℕ → Matrix
standing h g m k c b = cond (ltb c m) (g b c) (ltb c (m + k) && h c b)

-- Some splits of an accepted matrix are taken back, and k are left in g: the added checks that are left are as they were. Whether the newest of
-- them keeps rule A is not known.
pub record Raw (g : Matrix) (n m k : ℕ) : Type 0 where
  pub origin : Matrix
  pub size : ℕ
  pub sound : Sound origin n m size
  pub less : k ≤ size
  pub clean : Clean g (n + k) (m + k)
  pub added : (i b : ℕ) → i < k → g (m + i) b ≡ origin (m + i) b

-- r says whether the newest added check M of g keeps rule A and two or more other checks contain its bit N; it is taken back then
pub record BackOne (g g' : Matrix) (N M : ℕ) (r : Bool) : Type 0 where
  pub newest : r ≡ true → Newest g N M
  pub two : r ≡ true → 2 ≤ others g N M
  pub matrix : r ≡ true → g' ≡ taken_back g N M
  pub stops : r ≡ false → Newest g N M → others g N M < 2

-- r says whether splits made h, and g is the matrix before them if they did
pub record AllBack (h g : Matrix) (n m k : ℕ) (r : Bool) : Type 0 where
  pub decides : not_built h n m k ≡ not r
  pub matrix : r ≡ true → g ≡ all_back h n m k
