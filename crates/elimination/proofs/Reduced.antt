-- The pivots, and what a reduced matrix says of its codewords. Assumes nothing.
use mathlib.Core.Path.{◌≡◌, refl, sym, ap, ◌∙◌}
use mathlib.Core.Logic.{◌↔◌}
use mathlib.Core.Bool.{Bool, true, false, cond, ◌&&◌, ◌||◌, and-eq-true_iff}
use Prim.Native.Nat.{ℕ, zero, suc, ◌+◌, ◌%◌, ◌≤◌, ◌<◌}
use native.Mathlib.Omega.{arith}
use native.Mathlib.Decide.{ℕ_discrete, dec_lt}
use lib.Dec.{eqb}
use borrow.Author.Tests.{eq-eqb, ne_eqb, eqb-true}
use Rattle.parity.specs.Finite.{one, count, any}
use Rattle.parity.specs.Matrix.{Matrix}
use Rattle.parity.specs.Words.{inside, odd}
use Rattle.parity.proofs.Finite.Sums.{Is, is_true, is_false, is, any_of, any_at, count_cong, sum_cong, sum_zero, sum_point, sum_add, sum_at}
use Rattle.parity.proofs.Splits.Split.{Even}
use Rattle.parity.proofs.Words.Extend.{odd_added, odd_only}
use Rattle.elimination.specs.Reduction.{Reduced, pivot}

pub pivot_at_lem : (r : ℕ) (at : ℕ → ℕ) (c : ℕ) → c < r → pivot r at (at c) ≡ true
unfolding pivot
pivot_at_lem r at c k = any_of r _ c k (eq-eqb (at c) (at c) refl)

pub pivot_of : (r : ℕ) (at : ℕ → ℕ) (b : ℕ) → pivot r at b ≡ true → (c : ℕ) × (c < r) × (at c ≡ b)
unfolding pivot
pivot_of r at b e = let (c, k, q) = any_at r _ e in (c, k, eqb-true (at c) b q)

one_or : (a b : Bool) → (a ≡ true → b ≡ true → ⊥) → one (a || b) ≡ one a + one b
one_or true true h = absurd (h refl refl)
one_or true false h = refl
one_or false true h = refl
one_or false false h = refl

one_eqb : (a j : ℕ) → one (eqb a j) ≡ cond (eqb j a) 1 0
one_eqb a j = elim (ℕ_discrete a j) [ yes q ↦ rw (eq-eqb a j q, eq-eqb j a (sym q)) | no d ↦ rw (ne_eqb a j d, ne_eqb j a (λ q. d (sym q))) ]

-- there are as many pivots as checks that have one
pub pivot_count : (n r : ℕ) (at : ℕ → ℕ) → ((c : ℕ) → c < r → at c < n) → ((c d : ℕ) → c < d → d < r → at c < at d) → count n (pivot r at) ≡ r
unfolding pivot any count
pivot_count n zero at l u = sum_zero n (λ i k. refl)
pivot_count n (suc r) at l u =
    sum_cong n {f = λ j. one (any r (λ c. eqb (at c) j) || eqb (at r) j)} {g = λ j. one (any r (λ c. eqb (at c) j)) + cond (eqb j (at r)) 1 0}
    (λ j k. one_or (any r (λ c. eqb (at c) j)) (eqb (at r) j) (λ p q. let (c, i, s) = any_at r (λ c. eqb (at c) j) p in omega (arith, u c r i (omega arith), eqb-true (at c) j s, eqb-true (at r) j q))
    ∙ ap (one (any r (λ c. eqb (at c) j)) +◌) (one_eqb (at r) j))
    ∙ omega (
      arith,
      sum_add n (λ j. one (any r (λ c. eqb (at c) j))) (λ j. cond (eqb j (at r)) 1 0),
      sum_at n (at r) 1 (l r (omega arith)),
      pivot_count n r at (λ c k. l c (omega arith)) (λ c d k i. u c d k (omega arith)),
    )

module _ (g : Matrix) (n m : ℕ) (e : ℕ → Bool) (r : ℕ) (at : ℕ → ℕ) (R : Reduced g m e n r at) where
  -- a pivot has one check
  pub the_row : (c d : ℕ) → c < r → d < r → at c ≡ at d → c ≡ d
  the_row c d k l q =
      elim (dec_lt c d) [
        | yes p ↦ absurd (omega (arith, R.rise c d p l))
        | no p ↦ elim (dec_lt d c) [ yes s ↦ absurd (omega (arith, R.rise d c s k)) | no s ↦ omega arith ]
      ]

  -- z is y but for the pivots, at which y is false
  pub record Over (y z : ℕ → Bool) : Type 0 where
    pub none : (c : ℕ) → c < r → y (at c) ≡ false
    pub same : (b : ℕ) → b < n → pivot r at b ≡ false → z b ≡ y b

  module _ (y z : ℕ → Bool) (o : Over y z) where
    -- check c counts what it counts of y, and its pivot
    pub inside_own : (c : ℕ) → c < r → inside g n c z ≡ inside g n c y + one (z (at c))
    unfolding inside count
    inside_own c k =
        let p = sum_point n (at c) {f = λ b. one (g c b && z b)} {g = λ b. one (g c b && y b)} (R.low c k) other in
        omega (arith, rw (R.own c k, o.none c k) at p)
      where
        other : (b : ℕ) → b < n → (b ≡ at c → ⊥) → one (g c b && z b) ≡ one (g c b && y b)
        other b l d =
            elim (is (pivot r at b)) [
              | is_false q ↦ rw (o.same b l q)
              | is_true q ↦
                  let (i, il, ie) = pivot_of r at b q in
                  let f : g c b ≡ false = rw (← ie) (R.alone i c il (omega (arith, R.few)) (λ s. d (sym ie ∙ ap at (sym s)))) in
                  rw f
            ]

    pub inside_rest : (c : ℕ) → r ≤ c → c < m → inside g n c z ≡ inside g n c y
    unfolding inside
    inside_rest c k l = count_cong n (λ b bl.
        elim (is (pivot r at b)) [
          | is_false q ↦ rw (o.same b bl q)
          | is_true q ↦
              let (i, il, ie) = pivot_of r at b q in
              let f : g c b ≡ false = rw (← ie) (R.alone i c il l (λ s. omega arith)) in
              rw f
        ])

    -- The law of a reduced matrix: a word is a codeword exactly if each pivot is the parity of its check without it,
    -- and the checks without a pivot are even.
    pub solutions : Even g n m z ↔ (((c : ℕ) → c < r → z (at c) ≡ odd (inside g n c y)) × ((c : ℕ) → r ≤ c → c < m → inside g n c y % 2 ≡ 0))
    solutions = (
      λ t. (
        λ c k. odd_only (inside g n c y) (z (at c)) (rw (inside_own c k) at (t c (omega (arith, R.few)))),
        λ c k l. rw (inside_rest c k l) at (t c l),
      ),
      λ t c k. elim (dec_lt c r) [
        | yes l ↦ rw (inside_own c l, t.0 c l) (odd_added (inside g n c y))
        | no l ↦ rw (inside_rest c (omega arith) k) (t.1 c (omega arith) k)
      ],
    )

  -- y, and at the pivots what makes their checks even
  pub solved : (ℕ → Bool) → ℕ → Bool
  solved y b = cond (pivot r at b) (any r (λ c. eqb (at c) b && odd (inside g n c y))) (y b)

  pub solved_at : (y : ℕ → Bool) (c : ℕ) → c < r → solved y (at c) ≡ odd (inside g n c y)
  unfolding solved
  solved_at y c k = rw (pivot_at_lem r at c k) (go (is (odd (inside g n c y))))
    where
      go : Is (odd (inside g n c y)) → any r (λ d. eqb (at d) (at c) && odd (inside g n d y)) ≡ odd (inside g n c y)
      go (is_true q) = any_of r _ c k (rw (eq-eqb (at c) (at c) refl) q) ∙ sym q
      go (is_false q) =
          elim (is (any r (λ d. eqb (at d) (at c) && odd (inside g n d y)))) [
            | is_false p ↦ p ∙ sym q
            | is_true p ↦
                let (d, l, s) = any_at r _ p in
                let (s₁, s₂) = (and-eq-true_iff (eqb (at d) (at c)) _).0 s in
                let i : d ≡ c = the_row d c l k (eqb-true _ _ s₁) in
                p ∙ sym (rw i at s₂)
          ]

  pub solved_else : (y : ℕ → Bool) (b : ℕ) → pivot r at b ≡ false → solved y b ≡ y b
  unfolding solved
  solved_else y b q = rw q

  pub solved_over : (y : ℕ → Bool) → ((c : ℕ) → c < r → y (at c) ≡ false) → Over y (solved y)
  solved_over y f = record { none = f; same = λ b k q. solved_else y b q }

  pub solved_even : (y : ℕ → Bool) → ((c : ℕ) → c < r → y (at c) ≡ false) → ((c : ℕ) → r ≤ c → c < m → inside g n c y % 2 ≡ 0) → Even g n m (solved y)
  solved_even y f t = (solutions y (solved y) (solved_over y f)).1 (solved_at y, t)
