-- Columns that are sums of lower columns, as facts; and the bits of a check that are in a set, below a bound. Assumes nothing.
use mathlib.Core.Path.{◌≡◌, ap, ◌∙◌}
use mathlib.Core.Bool.{Bool, true, false, ◌&&◌, and-false}
use Prim.Native.Nat.{ℕ, suc, ◌+◌, ◌%◌, ◌≤◌, ◌<◌}
use borrow.Author.Tests.{eq-eqb, eqb-true}
use Rattle.parity.specs.Finite.{one, count}
use Rattle.parity.specs.Matrix.{Matrix}
use Rattle.parity.specs.Words.{inside}
use Rattle.parity.specs.Encoding.{dependent}
use Rattle.parity.proofs.Finite.Sums.{is_true, is_false, is, all_at, all_of, sum_zero, count_suc, count_end}
use Rattle.parity.proofs.Words.Extend.{inside_cong}
use Rattle.parity.proofs.Words.Residue.{below_at, any_set_of, any_set_at}

module _ (h : Matrix) where
  pub inside_suc : (j c : ℕ) (s : ℕ → Bool) → inside h (suc j) c s ≡ inside h j c s + one (h c j && s j)
  unfolding inside
  inside_suc j c s = count_suc j (λ b. h c b && s b)

  pub inside_end : (a n c : ℕ) (s : ℕ → Bool) → a ≤ n → ((b : ℕ) → a ≤ b → b < n → s b ≡ false) → inside h n c s ≡ inside h a c s
  unfolding inside
  inside_end a n c s k f = count_end a n (λ b. h c b && s b) k (λ b l m. rw (f b l m, and-false))

  pub inside_zero : (n c : ℕ) (s : ℕ → Bool) → ((b : ℕ) → b < n → h c b ≡ true → s b ≡ false) → inside h n c s ≡ 0
  unfolding inside count
  inside_zero n c s f = sum_zero n (λ b k. elim (is (h c b)) [ is_true q ↦ rw (q, f b k q) | is_false q ↦ rw q ])

-- The columns of the set s, of bits below b, sum to t.
abbrev pub Sums : Matrix → ℕ → ℕ → (ℕ → Bool) → (ℕ → Bool) → Type 0
Sums h m b s t = (c : ℕ) → c < m → inside h b c s % 2 ≡ one (t c)

pub depends_at : (h : Matrix) (m b : ℕ) → dependent h m b ≡ true → (s : ℕ → Bool) × Sums h m b s (λ c. h c b)
unfolding dependent
depends_at h m b e = let (s, t) = any_set_at b _ e in (s, λ c k. eqb-true _ _ (all_at m _ t c k))

pub depends_of : (h : Matrix) (m b : ℕ) (s : ℕ → Bool) → Sums h m b s (λ c. h c b) → dependent h m b ≡ true
unfolding dependent
depends_of h m b s t = any_set_of b _ s (all_of m _ (λ c k. eq-eqb _ _ (ap (◌% 2) (inside_cong h b c (below_at b s)) ∙ t c k)))
