-- What a matrix that is reduced in the erased bits of a word says of the codewords that agree with it. Assumes nothing.
use mathlib.Core.Path.{◌≡◌, refl, sym, ap, ◌∙◌}
use mathlib.Core.Bool.{Bool, true, false, not, ◌&&◌, ◌||◌, or-true, or-false, and-eq-true_iff, false≢true}
use Prim.Native.Nat.{ℕ, ◌+◌, ◌%◌, ◌≤◌, ◌<◌}
use native.Mathlib.Omega.{arith}
use native.Mathlib.Decide.{ℕ_discrete}
use lib.Dec.{eqb}
use borrow.Author.Tests.{eq-eqb, ne_eqb, eqb-true}
use Rattle.parity.specs.Finite.{one, count}
use Rattle.parity.specs.Matrix.{Matrix}
use Rattle.parity.specs.Words.{erased, is_one, inside, odd}
use Rattle.parity.specs.Determining.{some_agrees, determined}
use Rattle.parity.proofs.Finite.Sums.{is_true, is_false, is, count_cong, count_at, count_two, sum_point}
use Rattle.parity.proofs.Words.Extend.{odd_only}
use Rattle.parity.proofs.Words.Agreeing.{Agree, some_of, stays_open, one_value}
use Rattle.elimination.specs.Reduction.{Reduced, pivot}
use Rattle.elimination.proofs.Reduced.{pivot_at_lem, pivot_of, solved, solved_at, solved_else, solved_even}

-- only the bits that the check contains count
pub inside_in : (h : Matrix) (N c : ℕ) (x y : ℕ → Bool) → ((b : ℕ) → b < N → h c b ≡ true → x b ≡ y b) → inside h N c x ≡ inside h N c y
unfolding inside
inside_in h N c x y f = count_cong N (λ b k. elim (is (h c b)) [ is_true q ↦ rw (q, f b k q) | is_false q ↦ rw q ])

-- two words that differ, within the check, at bit u at most
inside_point : (h : Matrix) (N c u : ℕ) (x y : ℕ → Bool) → u < N → h c u ≡ true → ((b : ℕ) → b < N → (b ≡ u → ⊥) → h c b ≡ true → x b ≡ y b)
    → inside h N c x + one (y u) ≡ inside h N c y + one (x u)
unfolding inside count
inside_point h N c u x y k q f =
    let p = sum_point N u {f = λ b. one (h c b && x b)} {g = λ b. one (h c b && y b)} k
    (λ b l d. elim (is (h c b)) [ is_true z ↦ rw (z, f b l d z) | is_false z ↦ rw z ]) in
    rw q at p

-- where not just one passes, another than u does
count_other : (n : ℕ) (p : ℕ → Bool) (u : ℕ) → u < n → p u ≡ true → (count n p ≡ 1 → ⊥) → (i : ℕ) × (i < n) × (i ≡ u → ⊥) × (p i ≡ true)
unfolding count
count_other n p u k t l =
    let s = sum_point n u {f = λ i. one (p i)} {g = λ i. one (not (eqb i u) && p i)} k (λ i m d. rw (ne_eqb i u d)) in
    let (i, j, q) = count_at n (λ i. not (eqb i u) && p i) (omega (arith, rw (eq-eqb u u refl, t) at s, l)) in
    let (q₁, q₂) = (and-eq-true_iff (not (eqb i u)) (p i)).0 q in
    (i, j, λ e. false≢true (rw (eq-eqb i u e) at q₁), q₂)

odd_next : (s : ℕ) → odd (s + 1) ≡ not (odd s)
unfolding odd
odd_next s = elim (ℕ_discrete (s % 2) 1)
    [ yes q ↦ rw (eq-eqb (s % 2) 1 q) (ne_eqb ((s + 1) % 2) 1 (λ z. omega arith)) | no d ↦ rw (ne_eqb (s % 2) 1 d) (eq-eqb ((s + 1) % 2) 1 (omega arith)) ]

-- an erased bit is no one
not_one : (w : ℕ → ℕ) (b : ℕ) → erased w b ≡ true → is_one w b ≡ false
not_one w b q = ne_eqb (w b) 1 (λ e. omega (arith, eqb-true (w b) 2 q))

module _ (g : Matrix) (N L : ℕ) (w : ℕ → ℕ) (r : ℕ) (at : ℕ → ℕ) (R : Reduced g L (erased w) N r at) where
  -- the rows without a pivot are even in the known bits
  abbrev pub Consistent : Type 0
  Consistent = (c : ℕ) → r ≤ c → c < L → inside g N c (is_one w) % 2 ≡ 0

  -- which is so where some codeword agrees
  pub consistent : (y : ℕ → Bool) → Agree g N L w y → Consistent
  consistent y a c k l =
      rw (inside_in g N c (is_one w) y (λ b i p. elim (is (erased w b)) [
        | is_false q ↦ sym (a.known b i q)
        | is_true q ↦ absurd (false≢true (sym (R.rest c b k l i q) ∙ p))
      ])) (a.even c l)

  module _ (t : Consistent) where
    -- the known ones, and any of the erased bits that are no pivots: the pivots are filled in
    with : (ℕ → Bool) → ℕ → Bool
    with f b = is_one w b || f b

    abbrev full : (ℕ → Bool) → ℕ → Bool
    full f = solved g N L (erased w) r at R (with f)

    build : (f : ℕ → Bool) → ((b : ℕ) → b < N → f b ≡ true → (erased w b ≡ true) × (pivot r at b ≡ false)) → Agree g N L w (full f)
    unfolding with
    build f u = record {
      even = solved_even g N L (erased w) r at R (with f) none rest;
      known = λ b k q. elim (is (pivot r at b)) [
        | is_true p ↦ let (c, l, i) = pivot_of r at b p in absurd (false≢true (sym q ∙ (rw i at (R.among c l))))
        | is_false p ↦ solved_else g N L (erased w) r at R (with f) b p ∙ rw (only b k q) (or-false (is_one w b))
      ];
    }
      where
        only : (b : ℕ) → b < N → erased w b ≡ false → f b ≡ false
        only b k q = elim (is (f b)) [ is_false p ↦ p | is_true p ↦ absurd (false≢true (sym q ∙ (u b k p).0)) ]

        none : (c : ℕ) → c < r → with f (at c) ≡ false
        none c k = rw (not_one w (at c) (R.among c k)) (elim (is (f (at c))) [
          | is_false p ↦ p
          | is_true p ↦ absurd (false≢true (sym (u (at c) (R.low c k) p).1 ∙ pivot_at_lem r at c k))
        ])

        rest : (c : ℕ) → r ≤ c → c < L → inside g N c (with f) % 2 ≡ 0
        rest c k l = rw (inside_in g N c (with f) (is_one w) (λ b i p. elim (is (erased w b)) [
          | is_false q ↦ rw (only b i q) (or-false (is_one w b))
          | is_true q ↦ absurd (false≢true (sym (R.rest c b k l i q) ∙ p))
        ])) (t c k l)

    -- none of them, or just one
    zero : ℕ → Bool
    zero b = false

    agree_zero : Agree g N L w (full zero)
    agree_zero = build zero (λ b k p. absurd (false≢true (unfold zero in p)))

    pub some_agrees_lem : some_agrees g N L w ≡ true
    some_agrees_lem = some_of g N L w (full zero) agree_zero

    agree_point : (j : ℕ) → j < N → erased w j ≡ true → pivot r at j ≡ false → Agree g N L w (full (λ b. eqb b j))
    agree_point j k q p = build (λ b. eqb b j) (λ b l e. let i : b ≡ j = eqb-true b j e in (rw i q, rw i p))

    -- two codewords that agree and differ at a bit
    both : (b : ℕ) → b < N → (y z : ℕ → Bool) → Agree g N L w y → Agree g N L w z → z b ≡ not (y b) → determined g N L w b ≡ 2
    both b k y z a d q = elim (is (y b)) [
      | is_true p ↦ stays_open g N L w b k y z a d p (q ∙ rw p)
      | is_false p ↦ stays_open g N L w b k z y d a (q ∙ rw p) p
    ]

    -- a pivot whose row has no other erased bit is written
    pub at_pivot : (c : ℕ) → c < r → inside g N c (erased w) ≡ 1 → determined g N L w (at c) ≡ one (odd (inside g N c (is_one w)))
    at_pivot c k q = one_value g N L w (at c) (R.low c k) (odd (inside g N c (is_one w))) (full zero) agree_zero (λ y a.
        odd_only (inside g N c (is_one w)) (y (at c)) (
        let p = inside_point g N c (at c) y (is_one w) (R.low c k) (R.own c k) (λ b l d z. elim (is (erased w b)) [
          | is_false i ↦ a.known b l i
          | is_true i ↦ absurd (omega (arith, several b l d z i))
        ]) in
        omega (arith, rw (not_one w (at c) (R.among c k)) at p, a.even c (omega (arith, R.few)))))
      where
        several : (b : ℕ) → b < N → (b ≡ at c → ⊥) → g c b ≡ true → erased w b ≡ true → 2 ≤ inside g N c (erased w)
        several b l d z i = unfold inside in count_two N (λ b. g c b && erased w b) b (at c) l (R.low c k) d (rw (z, i)) (rw (R.own c k, R.among c k))

    -- an erased bit that is no pivot is free
    pub at_free : (j : ℕ) → j < N → erased w j ≡ true → pivot r at j ≡ false → determined g N L w j ≡ 2
    unfolding with zero
    at_free j k q p = both j k (full zero) (full (λ b. eqb b j)) agree_zero (agree_point j k q p)
        (solved_else g N L (erased w) r at R (with (λ b. eqb b j)) j p
        ∙ rw (eq-eqb j j refl, or-true, solved_else g N L (erased w) r at R (with zero) j p, not_one w j q))

    -- so is a pivot whose row has another erased bit
    pub at_bound : (c : ℕ) → c < r → (inside g N c (erased w) ≡ 1 → ⊥) → determined g N L w (at c) ≡ 2
    unfolding inside with zero
    at_bound c k q =
        let (j, l, d, z) = count_other N (λ b. g c b && erased w b) (at c) (R.low c k) (rw (R.own c k, R.among c k)) q in
        let (z₁, z₂) = (and-eq-true_iff (g c j) (erased w j)).0 z in
        let p : pivot r at j ≡ false = elim (is (pivot r at j)) [
          | is_false p ↦ p
          | is_true p ↦ let (i, il, ie) = pivot_of r at j p in
              absurd (false≢true (sym (R.alone i c il (omega (arith, R.few)) (λ s. d (sym ie ∙ ap at (sym s)))) ∙ (rw ie z₁)))
        ] in
        let e : inside g N c (with (λ b. eqb b j)) ≡ inside g N c (with zero) + 1 =
        let s = inside_point g N c j (with (λ b. eqb b j)) (with zero) l z₁ (λ b i u v. rw (ne_eqb b j u)) in
        omega (arith, rw (not_one w j z₂, eq-eqb j j refl) at s) in
        both (at c) (R.low c k) (full zero) (full (λ b. eqb b j)) agree_zero (agree_point j l z₂ p)
        (solved_at g N L (erased w) r at R (with (λ b. eqb b j)) c k ∙ rw e (odd_next (inside g N c (with zero)))
        ∙ ap not (sym (solved_at g N L (erased w) r at R (with zero) c k)))
