-- Extending writes the one extended word whose added checks are even. Assumes nothing.
use mathlib.Core.Path.{◌≡◌, refl, sym, ap, ◌∙◌}
use mathlib.Core.Bool.{Bool, true, false, ◌&&◌}
use Prim.Native.Nat.{ℕ, zero, suc, ◌+◌, ◌%◌, ◌≤◌, ◌<◌}
use native.Mathlib.Nat.{add-suc, add-zero}
use native.Mathlib.Omega.{arith}
use native.Mathlib.Decide.{ℕ_discrete}
use lib.Arith.{le-zero}
use borrow.Author.Tests.{eq-eqb, ne_eqb}
use Rattle.parity.specs.Finite.{one}
use Rattle.parity.specs.Matrix.{Matrix, rule_a}
use Rattle.parity.specs.Words.{inside, odd, extended}
use Rattle.parity.proofs.Finite.Sums.{all_at, count_cong, count_suc, count_tail}
use Rattle.parity.proofs.Matrix.Rule.{rule}

-- the added checks are even
abbrev pub Added : Matrix → ℕ → ℕ → ℕ → (ℕ → Bool) → Type 0
Added h n m k x = (j : ℕ) → j < k → inside h (n + k) (m + j) x % 2 ≡ 0

-- a number and its remainder modulo 2 make an even sum
pub odd_added : (s : ℕ) → (s + one (odd s)) % 2 ≡ 0
unfolding odd
odd_added s = elim (ℕ_discrete (s % 2) 1) [ yes q ↦ rw (eq-eqb _ _ q) (omega arith) | no d ↦ rw (ne_eqb _ _ d) (omega arith) ]

pub odd_only : (s : ℕ) (b : Bool) → (s + one b) % 2 ≡ 0 → b ≡ odd s
unfolding odd
odd_only s true e = sym (eq-eqb (s % 2) 1 (omega arith))
odd_only s false e = sym (ne_eqb (s % 2) 1 (λ q. omega arith))

pub inside_cong : (h : Matrix) (N c : ℕ) {w x : ℕ → Bool} → ((b : ℕ) → b < N → w b ≡ x b) → inside h N c w ≡ inside h N c x
unfolding inside
inside_cong h N c f = count_cong N (λ b k. ap (h c b &&◌) (f b k))

module _ (h : Matrix) (n m : ℕ) (x : ℕ → Bool) where
  pub extend_base : (k b : ℕ) → b < n → extended h n m k x b ≡ x b
  unfolding extended
  extend_base zero b l = refl
  extend_base (suc k) b l = rw (ne_eqb b (n + k) (λ q. omega arith)) (extend_base k b l)

  keep : (k j b : ℕ) → j ≤ k → b < n + j → extended h n m k x b ≡ extended h n m j x b
  unfolding extended
  keep zero j b l q = rw (le-zero l)
  keep (suc k) j b l q =
      elim (ℕ_discrete j (suc k)) [ yes e ↦ rw e | no d ↦ rw (ne_eqb b (n + k) (λ e. omega arith)) (keep k j b (omega arith) q) ]

  at : (k j : ℕ) → j < k → extended h n m k x (n + j) ≡ odd (inside h (n + j) (m + j) (extended h n m k x))
  unfolding extended
  at k j l =
      keep k (suc j) (n + j) l (omega (arith, add-suc n j))
      ∙ (rw (eq-eqb (n + j) (n + j) refl) (ap odd (sym (inside_cong h (n + j) (m + j) (λ b q. keep k j b (omega arith) q)))))

module _ (h : Matrix) (n m k : ℕ) (A : rule_a h n m k ≡ true) where
  -- an added check contains lower bits and its own, and no other
  pub own_check : (j : ℕ) → j < k → (y : ℕ → Bool) → inside h (n + k) (m + j) y ≡ inside h (n + j) (m + j) y + one (y (n + j))
  unfolding inside rule_a
  own_check j l y =
      let r = (rule h n m k j l).0 (all_at k _ A j l) in
      let s = count_suc (n + j) (h (m + j)) in
      count_tail (suc (n + j)) (n + k) (h (m + j)) y (omega arith) (omega (arith, rw r.own at s, r.all3, r.two))
      ∙ count_suc (n + j) (λ b. h (m + j) b && y b) ∙ (rw r.own)

  pub extend_added : (x : ℕ → Bool) → Added h n m k (extended h n m k x)
  extend_added x j l = rw (own_check j l (extended h n m k x), at h n m x k j l) (odd_added (inside h (n + j) (m + j) (extended h n m k x)))

  pub extend_only : (x y : ℕ → Bool) → Added h n m k y → ((b : ℕ) → b < n → y b ≡ x b) → (b : ℕ) → b < n + k → y b ≡ extended h n m k x b
  extend_only x y a f = go k (omega arith)
    where
      go : (i : ℕ) → i ≤ k → (b : ℕ) → b < n + i → y b ≡ extended h n m k x b
      go zero l b q = f b (omega (arith, add-zero n)) ∙ sym (extend_base h n m x k b (omega (arith, add-zero n)))
      go (suc i) l b q =
          elim (ℕ_discrete b (n + i)) [
            | no d ↦ go i (omega arith) b (omega (arith, add-suc n i))
            | yes e ↦ rw e
                (odd_only _ (y (n + i)) (rw (own_check i l y) at (a i l))
                ∙ ap odd (inside_cong h (n + i) (m + i) (go i (omega arith))) ∙ sym (at h n m x k i l))
          ]
