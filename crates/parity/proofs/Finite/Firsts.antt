-- The largest of some numbers, the smallest that passes a test, the one that passes after t others, and tests that agree. Assumes nothing.
use mathlib.Core.Path.{◌≡◌, refl, sym, ◌∙◌}
use mathlib.Core.Bool.{Bool, true, false, true≢false, false≢true}
use native.Mathlib.Nat.{not-suc-le-zero}
use Prim.Native.Nat.{ℕ, zero, suc, ◌≤◌, ◌<◌}
use native.Mathlib.Omega.{arith}
use native.Mathlib.Decide.{ℕ_discrete, dec_le, dec_lt}
use Rattle.parity.specs.Finite.{count, all, any, most, least}
use Rattle.parity.proofs.Finite.Sums.{is_true, is_false, is, any_of, any_at, count_suc, count_mono, count_bound}

-- the largest
pub most_le : (n : ℕ) (f : ℕ → ℕ) (i : ℕ) → i < n → f i ≤ most n f
unfolding most
most_le zero f i k = absurd (not-suc-le-zero k)
most_le (suc n) f i k =
    elim (ℕ_discrete i n) [ yes q ↦ rw q (omega arith) | no d ↦ omega (arith, most_le n f i (omega arith)) ]

pub most_at : (n : ℕ) (f : ℕ → ℕ) → 0 < most n f → (i : ℕ) × (i < n) × (f i ≡ most n f)
unfolding most
most_at zero f k = absurd (not-suc-le-zero k)
most_at (suc n) f k =
    elim (dec_le (most n f) (f n)) [
      | yes l ↦ (n, omega arith, omega arith)
      | no l ↦ let (i, j, e) = most_at n f (omega arith) in (i, omega arith, omega arith)
    ]

-- the smallest
pub least_at : (n : ℕ) (p : ℕ → Bool) → any n p ≡ true → (least n p < n) × (p (least n p) ≡ true)
unfolding any least
least_at zero p e = absurd (false≢true e)
least_at (suc n) p e =
    elim (is (any n p)) [
      | is_true q ↦ let (k, r) = least_at n p q in rw q (omega arith, r)
      | is_false q ↦ let r : p n ≡ true = rw q at e in rw (q, r) (omega arith, r)
    ]

pub least_min : (n : ℕ) (p : ℕ → Bool) (i : ℕ) → i < n → p i ≡ true → least n p ≤ i
unfolding any least
least_min zero p i k e = absurd (not-suc-le-zero k)
least_min (suc n) p i k e =
    elim (ℕ_discrete i n) [
      | yes q ↦ elim (is (any n p)) [
        | is_true r ↦ rw r (omega (arith, (least_at n p r).0))
        | is_false r ↦ rw (r, ← q, e) (omega arith)
      ]
      | no d ↦ rw (any_of n p i (omega arith) e) (least_min n p i (omega arith) e)
    ]

pub all_cong : (n : ℕ) {p q : ℕ → Bool} → ((i : ℕ) → i < n → p i ≡ q i) → all n p ≡ all n q
unfolding all
all_cong zero h = refl
all_cong (suc n) {p} {q} h = rw (all_cong n {p = p} {q = q} (λ i k. h i (omega arith)), h n (omega arith))

pub any_cong : (n : ℕ) (p q : ℕ → Bool) → ((i : ℕ) → i < n → p i ≡ q i) → any n p ≡ any n q
unfolding any
any_cong zero p q h = refl
any_cong (suc n) p q h = rw (any_cong n p q (λ i k. h i (omega arith)), h n (omega arith))

-- no number passes
pub none_at : (n : ℕ) (p : ℕ → Bool) → any n p ≡ false → (i : ℕ) → i < n → p i ≡ false
none_at n p e i k = elim (is (p i)) [ is_false q ↦ q | is_true q ↦ absurd (true≢false (sym (any_of n p i k q) ∙ e)) ]

pub any_none : (n : ℕ) (p : ℕ → Bool) → ((i : ℕ) → i < n → p i ≡ false) → any n p ≡ false
any_none n p h =
    elim (is (any n p)) [
      | is_false q ↦ q
      | is_true q ↦ let (i, k, e) = any_at n p q in absurd (true≢false (sym e ∙ h i k))
    ]

pub least_none : (n : ℕ) (p : ℕ → Bool) → any n p ≡ false → least n p ≡ n
unfolding any least
least_none zero p e = refl
least_none (suc n) p e =
    elim (is (any n p)) [
      | is_true q ↦ absurd (true≢false (rw q at e))
      | is_false q ↦ let r : p n ≡ false = rw q at e in rw (q, r)
    ]

-- the first that passes
pub least_is : (n : ℕ) (p : ℕ → Bool) (i : ℕ) → i < n → p i ≡ true → ((j : ℕ) → j < i → p j ≡ false) → least n p ≡ i
least_is n p i k e h =
    let (l, r) = least_at n p (any_of n p i k e) in
    let m = least_min n p i k e in
    elim (ℕ_discrete (least n p) i) [
      | yes q ↦ q
      | no d ↦ absurd (true≢false (sym r ∙ h (least n p) (omega arith)))
    ]

-- whether one passes, from the smallest
pub least_in : (n : ℕ) (p : ℕ → Bool) → least n p < n → any n p ≡ true
least_in n p k = elim (is (any n p)) [ is_true q ↦ q | is_false q ↦ absurd (omega (arith, least_none n p q)) ]

pub least_out : (n : ℕ) (p : ℕ → Bool) → (least n p < n → ⊥) → any n p ≡ false
least_out n p k = elim (is (any n p)) [ is_false q ↦ q | is_true q ↦ absurd (k (least_at n p q).0) ]

-- A number a that passes comes after count a p others: fewer than there are below a number above it,
pub nth_below : (p : ℕ → Bool) (a b : ℕ) → a < b → p a ≡ true → count a p < count b p
nth_below p a b k e = omega (arith, rw e at (count_suc a p), count_mono (suc a) b p k)

-- no other number that passes comes after as many,
pub nth_only : (p : ℕ → Bool) (a b : ℕ) → p a ≡ true → p b ≡ true → count a p ≡ count b p → a ≡ b
nth_only p a b q r e =
    elim (dec_lt a b) [
      | yes k ↦ absurd (omega (arith, nth_below p a b k q))
      | no k ↦ elim (dec_lt b a) [ yes l ↦ absurd (omega (arith, nth_below p b a l r)) | no l ↦ omega arith ]
    ]

-- and after each number of others that are fewer than all, some number does.
pub nth_at : (p : ℕ → Bool) (n t : ℕ) → t < count n p → (b : ℕ) × (b < n) × (p b ≡ true) × (count b p ≡ t)
nth_at p zero t k = absurd (omega (arith, count_bound 0 p))
nth_at p (suc n) t k =
    elim (dec_lt t (count n p)) [
      | yes l ↦ let (b, m, q, e) = nth_at p n t l in (b, omega arith, q, e)
      | no l ↦ elim (is (p n)) [
        | is_true q ↦ (n, omega arith, q, omega (arith, rw q at (count_suc n p)))
        | is_false q ↦ absurd (omega (arith, rw q at (count_suc n p)))
      ]
    ]
