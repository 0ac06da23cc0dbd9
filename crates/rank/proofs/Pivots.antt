-- Where all columns are reduced, the pivots are the parity bits, and their number is the rank. Assumes nothing.
use mathlib.Core.Path.{◌≡◌, refl, sym, ◌∙◌}
use mathlib.Core.Logic.{◌↔◌}
use mathlib.Core.Bool.{Bool, true, false, not, cond, and-true, false≢true}
use Prim.Native.Nat.{ℕ, suc, ◌%◌, ◌≤◌, ◌<◌}
use native.Mathlib.Omega.{arith}
use lib.Dec.{eqb, ltb}
use borrow.Author.Tests.{eq-eqb, ne_eqb, lt-ltb, le-ltb}
use Rattle.parity.specs.Matrix.{Matrix}
use Rattle.parity.specs.Words.{inside, odd}
use Rattle.parity.specs.Encoding.{dependent, parity_bit, rank_of}
use Rattle.parity.proofs.Finite.Sums.{is_true, is_false, is, one≤1, count_cong}
use Rattle.parity.proofs.Splits.Split.{Even}
use Rattle.parity.proofs.Words.Extend.{inside_cong}
use Rattle.parity.proofs.Encoding.Dependent.{inside_suc, inside_end, inside_zero, depends_at, depends_of}
use Rattle.elimination.specs.Reduction.{Same, Reduced, pivot, every_bit}
use Rattle.elimination.proofs.Clearing.{same_at}
use Rattle.elimination.proofs.Reduced.{pivot_at_lem, pivot_of, pivot_count, solved, solved_at, solved_else, solved_even}

module _ (h g : Matrix) (n m r : ℕ) (at : ℕ → ℕ) (R : Reduced g m every_bit n r at) (S : Same h g n m) where
  shared : (x : ℕ → Bool) → Even h n m x ↔ Even g n m x
  shared = same_at h g n m S

  -- the column of a pivot is no sum of lower ones
  pivot_free : (c : ℕ) → c < r → dependent h m (at c) ≡ true → ⊥
  pivot_free c k t =
      let (s, u) = depends_at h m (at c) t in
      let x : ℕ → Bool = λ b. cond (ltb b j) (s b) (eqb b j) in
      let low : (b : ℕ) → b < j → x b ≡ s b = λ b l. rw (lt-ltb b j l) in
      let top : x j ≡ true = rw (le-ltb j j (omega arith), eq-eqb j j refl) in
      let past : (b : ℕ) → suc j ≤ b → b < n → x b ≡ false = λ b l q. rw (le-ltb b j (omega arith), ne_eqb b j (λ z. omega arith)) in
      let whole : Even h n m x = λ d l. rw (inside_end h (suc j) n d x (R.low c k) past, inside_suc h j d x, top, and-true, inside_cong h j d low)
      (omega (arith, u d l, one≤1 (h d j))) in
      let z = (shared x).0 whole c (omega (arith, R.few)) in
      let z' = rw (inside_end g (suc j) n c x (R.low c k) past, inside_suc g j c x, top, and-true, R.own c k) at z in
      let w : inside g j c x ≡ 0 = inside_zero g j c x (λ b l q. absurd (false≢true (sym (R.first c b k l refl) ∙ q))) in
      omega arith
    where
      j : ℕ
      j = at c

  -- any other column is
  other_bound : (j : ℕ) → j < n → pivot r at j ≡ false → dependent h m j ≡ true
  other_bound j jn q =
      let y : ℕ → Bool = λ b. eqb b j in
      let out : (c : ℕ) → c < r → y (at c) ≡ false = λ c k. ne_eqb (at c) j (λ i. false≢true (sym q ∙ (rw i at (pivot_at_lem r at c k)))) in
      let z = solved g n m every_bit r at R y in
      let none : (c : ℕ) → r ≤ c → c < m → inside g n c y % 2 ≡ 0 =
      λ c k l. rw (inside_zero g n c y (λ b bl p. absurd (false≢true (sym (R.rest c b k l bl refl) ∙ p)))) in
      let even : Even h n m z = (shared z).1 (solved_even g n m every_bit r at R y out none) in
      let top : z j ≡ true = solved_else g n m every_bit r at R y j q ∙ eq-eqb j j refl in
      let past : (b : ℕ) → suc j ≤ b → b < n → z b ≡ false = λ b l bn.
      elim (is (pivot r at b)) [
        | is_false p ↦ solved_else g n m every_bit r at R y b p ∙ ne_eqb b j (λ i. omega arith)
        | is_true p ↦
            let (c, k, i) = pivot_of r at b p in
            let w : inside g n c y ≡ 0 = inside_zero g n c y (λ a al s. ne_eqb a j (λ v.
            false≢true (sym (R.first c a k (omega arith) refl) ∙ s))) in
            rw (← i) (solved_at g n m every_bit r at R y c k ∙ (rw w (unfold odd in refl)))
      ] in
      depends_of h m j z (λ c k.
      let a = rw (inside_end h (suc j) n c z jn past, inside_suc h j c z, top, and-true) at (even c k) in
      omega (arith, one≤1 (h c j)))

  -- the parity bits are the pivots
  pub dependents : (j : ℕ) → j < n → dependent h m j ≡ not (pivot r at j)
  dependents j k =
      elim (is (pivot r at j)) [
        | is_false q ↦ other_bound j k q ∙ (rw q)
        | is_true q ↦
            let (c, l, i) = pivot_of r at j q in
            elim (is (dependent h m j)) [ is_false p ↦ p ∙ (rw q) | is_true p ↦ absurd (pivot_free c l (rw i p)) ]
      ]

  pub ranks : rank_of h n m ≡ r
  unfolding rank_of
  ranks =
      count_cong n {p = parity_bit h m} {q = pivot r at} (λ j k. rw (dependents j k) (twice (pivot r at j)))
      ∙ pivot_count n r at (λ c k. R.low c k) (λ c d k l. R.rise c d k l)
    where
      twice : (a : Bool) → not (not a) ≡ a
      twice true = refl
      twice false = refl
