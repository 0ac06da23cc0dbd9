-- What a split does to a check, and so to stopping sets and codewords. Assumes nothing.
use mathlib.Core.Path.{◌≡◌, refl, ◌∙◌}
use mathlib.Core.Bool.{Bool, true, false, not, cond, ◌&&◌, ◌||◌, xor, and-false, or-true, and-eq-true_iff, true≢false, false≢true}
use Prim.Native.Nat.{ℕ, suc, ◌+◌, ◌%◌, ◌<◌}
use mathlib.Core.Logic.{◌↔◌}
use native.Mathlib.Omega.{arith}
use native.Mathlib.Decide.{ℕ_discrete}
use lib.Dec.{eqb}
use borrow.Author.Tests.{eq-eqb, ne_eqb, eqb-true, eqb-false, not-true}
use Rattle.parity.specs.Finite.{one, sum, count}
use Rattle.parity.specs.Matrix.{Matrix}
use Rattle.parity.specs.Cycles.{split_of}
use Rattle.parity.specs.Words.{inside, stopping, even_checks}
use Rattle.parity.proofs.Finite.Sums.{one≤1, sum_cong, sum_zero, sum_two, is_true, is_false, is, all_at, all_of}

module _ (h : Matrix) (N M u v : ℕ) where
  -- the entries of the split matrix
  pub at_new_bit : (c : ℕ) → (c ≡ M → ⊥) → split_of h N M u v c N ≡ (h c u && h c v)
  unfolding split_of
  at_new_bit c d = rw (ne_eqb c M d, eq-eqb N N refl)

  pub at_other : (c b : ℕ) → (c ≡ M → ⊥) → (b ≡ N → ⊥) → (b ≡ u → ⊥) → (b ≡ v → ⊥) → split_of h N M u v c b ≡ h c b
  unfolding split_of
  at_other c b d dn du dv = simp (ne_eqb c M d, ne_eqb b N dn, ne_eqb b u du, ne_eqb b v dv)

  pub at_apart : (c b : ℕ) → (c ≡ M → ⊥) → (b ≡ N → ⊥) → (h c u && h c v) ≡ false → split_of h N M u v c b ≡ h c b
  unfolding split_of
  at_apart c b d dn e = rw (ne_eqb c M d, ne_eqb b N dn, e) (rw and-false)

  module _ (un : u < N) (vn : v < N) where
    pub at_u : (c : ℕ) → (c ≡ M → ⊥) → split_of h N M u v c u ≡ (h c u && not (h c v))
    unfolding split_of
    at_u c d = rw (ne_eqb c M d, ne_eqb u N (λ q. omega arith), eq-eqb u u refl) (go (h c u) (h c v))
      where
        go : (a b : Bool) → cond (a && b) false a ≡ (a && not b)
        go true true = refl
        go true false = refl
        go false b = refl

    pub at_v : (c : ℕ) → (c ≡ M → ⊥) → split_of h N M u v c v ≡ (h c v && not (h c u))
    unfolding split_of
    at_v c d = rw (ne_eqb c M d, ne_eqb v N (λ q. omega arith), eq-eqb v v refl, or-true) (go (h c u) (h c v))
      where
        go : (a b : Bool) → cond (a && b) false b ≡ (b && not a)
        go true true = refl
        go true false = refl
        go false true = refl
        go false false = refl

    module _ (uv : u ≡ v → ⊥) (w : ℕ → Bool) where
      -- A check that contains both counts the new bit for the two, and the rest as before.
      pub inside_both : (c : ℕ) → (c ≡ M → ⊥) → h c u ≡ true → h c v ≡ true
          → (r : ℕ) × (inside (split_of h N M u v) (suc N) c w ≡ r + one (w N)) × (inside h N c w ≡ r + (one (w u) + one (w v)))
      unfolding inside count sum
      inside_both c d hu hv =
          let p = sum_two N u v {f = λ b. one (split_of h N M u v c b && w b)} {g = λ b. one (h c b && w b)} un vn uv
          (λ b k du dv. rw (at_other c b d (λ q. omega arith) du dv)) in
          (sum N (λ b. one (split_of h N M u v c b && w b)), rw (at_new_bit c d, hu, hv), omega (arith, rw (at_u c d, at_v c d, hu, hv) at p))

      -- Any other old check counts what it counted.
      pub inside_apart : (c : ℕ) → (c ≡ M → ⊥) → (h c u && h c v) ≡ false
          → inside (split_of h N M u v) (suc N) c w ≡ inside h N c w
      unfolding inside count sum
      inside_apart c d e =
          let p = sum_cong N {f = λ b. one (split_of h N M u v c b && w b)} {g = λ b. one (h c b && w b)}
          (λ b k. rw (at_apart c b d (λ q. omega arith) e)) in
          rw (at_new_bit c d, e) (omega arith)

      -- The new check counts u, v and the new bit.
      pub inside_new : inside (split_of h N M u v) (suc N) M w ≡ one (w u) + one (w v) + one (w N)
      unfolding inside count sum split_of
      inside_new =
          let p = sum_two N u v {f = λ b. one ((eqb b u || eqb b v || eqb b N) && w b)} {g = λ b. 0} un vn uv
          (λ b k du dv. rw (ne_eqb b u du, ne_eqb b v dv, ne_eqb b N (λ q. omega arith))) in
          rw (eq-eqb M M refl, eq-eqb N N refl, or-true)
          (omega (arith, simp (eq-eqb u u refl, eq-eqb v v refl, or-true) at p, sum_zero N {f = λ b. 0} (λ i k. refl)))

-- Stopping sets and codewords, as statements about each check.
abbrev pub Stops : Matrix → ℕ → ℕ → (ℕ → Bool) → Type 0
Stops h N M s = (c : ℕ) → c < M → inside h N c s ≡ 1 → ⊥

abbrev pub Even : Matrix → ℕ → ℕ → (ℕ → Bool) → Type 0
Even h N M x = (c : ℕ) → c < M → inside h N c x % 2 ≡ 0

pub stops : (h : Matrix) (N M : ℕ) (s : ℕ → Bool) → (stopping h N M s ≡ true) ↔ Stops h N M s
unfolding stopping
stops h N M s = (
  λ e c k. eqb-false (inside h N c s) 1 (not-true _ (all_at M _ e c k)),
  λ f. all_of M _ (λ c k. rw (ne_eqb (inside h N c s) 1 (f c k))),
)

pub evens : (h : Matrix) (N M : ℕ) (x : ℕ → Bool) → (even_checks h N M x ≡ true) ↔ Even h N M x
unfolding even_checks
evens h N M x = (
  λ e c k. eqb-true (inside h N c x % 2) 0 (all_at M _ e c k),
  λ f. all_of M _ (λ c k. rw (eq-eqb (inside h N c x % 2) 0 (f c k))),
)

pub sum_even : (a b z : Bool) → (z ≡ xor a b) ↔ ((one a + one b + one z) % 2 ≡ 0)
unfolding xor
sum_even true true true = (λ e. absurd (true≢false e), λ e. absurd (omega arith))
sum_even true true false = (λ e. refl, λ e. refl)
sum_even true false true = (λ e. refl, λ e. refl)
sum_even true false false = (λ e. absurd (false≢true e), λ e. absurd (omega arith))
sum_even false true true = (λ e. refl, λ e. refl)
sum_even false true false = (λ e. absurd (false≢true e), λ e. absurd (omega arith))
sum_even false false true = (λ e. absurd (true≢false e), λ e. absurd (omega arith))
sum_even false false false = (λ e. refl, λ e. refl)

module _ (h : Matrix) (N M u v : ℕ) (un : u < N) (vn : v < N) (uv : u ≡ v → ⊥) where
  -- Theorem 6, for one split: a stopping set of the split matrix is one of the matrix, without the new bit.
  pub split_stops : (s : ℕ → Bool) → Stops (split_of h N M u v) (suc N) (suc M) s → Stops h N M s
  split_stops s t c k e =
      let d : c ≡ M → ⊥ = λ q. omega arith in
      elim (is (h c u && h c v)) [
        | is_false q ↦ t c (omega arith) (inside_apart h N M u v un vn uv s c d q ∙ e)
        | is_true q ↦
            let (hu, hv) = (and-eq-true_iff (h c u) (h c v)).0 q in
            let (r, p, p') = inside_both h N M u v un vn uv s c d hu hv in
            omega (arith, t M (omega arith), t c (omega arith), inside_new h N M u v un vn uv s, one≤1 (s u), one≤1 (s v), one≤1 (s N))
      ]

  -- A word is a codeword of the split matrix exactly if it is one of the matrix and the new bit is the sum of the two.
  pub split_even : (x : ℕ → Bool) → Even (split_of h N M u v) (suc N) (suc M) x ↔ (Even h N M x × (x N ≡ xor (x u) (x v)))
  split_even x = (
    λ t. let n = rw (inside_new h N M u v un vn uv x) at (t M (omega arith)) in
        (λ c k. (step c k n).0 (t c (omega arith)), (sum_even (x u) (x v) (x N)).1 n),
    λ t c k. let n = (sum_even (x u) (x v) (x N)).0 t.1 in
        elim (ℕ_discrete c M) [
          | yes q ↦ rw q (rw (inside_new h N M u v un vn uv x) n)
          | no q ↦ (step c (omega arith) n).1 (t.0 c (omega arith))
        ],
  )
    where
      step : (c : ℕ) → c < M → (one (x u) + one (x v) + one (x N)) % 2 ≡ 0
          → (inside (split_of h N M u v) (suc N) c x % 2 ≡ 0) ↔ (inside h N c x % 2 ≡ 0)
      step c k n =
          let d : c ≡ M → ⊥ = λ q. omega arith in
          elim (is (h c u && h c v)) [
            | is_false q ↦ rw (inside_apart h N M u v un vn uv x c d q) (λ z. z, λ z. z)
            | is_true q ↦
                let (hu, hv) = (and-eq-true_iff (h c u) (h c v)).0 q in
                let (r, p, p') = inside_both h N M u v un vn uv x c d hu hv in
                omega arith
          ]
