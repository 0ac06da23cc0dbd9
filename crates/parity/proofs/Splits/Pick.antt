-- The pair that orthogonalising splits, and when there is none. Assumes nothing.
use mathlib.Core.Path.{◌≡◌, refl, sym, ◌∙◌}
use mathlib.Core.Bool.{◌&&◌, and-eq-true_iff}
use Prim.Native.Nat.{ℕ, zero, suc, ◌≤◌, ◌<◌}
use mathlib.Core.Logic.{◌↔◌}
use native.Mathlib.Omega.{arith}
use native.Mathlib.Decide.{dec_lt}
use lib.Dec.{eqb, ltb}
use borrow.Author.Tests.{eq-eqb, eqb-true, lt-ltb, ltb-true}
use Rattle.parity.specs.Finite.{sum, any, most}
use Rattle.parity.specs.Matrix.{Matrix}
use Rattle.parity.specs.Cycles.{share, pairs, cycles, largest_share, lower_bit, higher_bit}
use Rattle.parity.proofs.Finite.Sums.{sum_zero, sum_ge, any_of}
use Rattle.parity.proofs.Finite.Firsts.{most_le, most_at, least_at, least_min}
use Rattle.parity.proofs.Splits.Pairs.{pairs_two}

-- The pair of the largest share, then of the smallest lower bit, then of the smallest higher bit.
pub record Chosen (h : Matrix) (N M u v : ℕ) : Type 0 where
  pub low : u < v
  pub high : v < N
  pub largest : (i j : ℕ) → i < j → j < N → share h M i j ≤ share h M u v
  pub lower : (i j : ℕ) → i < j → j < N → share h M i j ≡ share h M u v → u ≤ i
  pub higher : (j : ℕ) → u < j → j < N → share h M u j ≡ share h M u v → v ≤ j

module _ (h : Matrix) (N M : ℕ) where
  pub top_le : (i j : ℕ) → i < j → j < N → share h M i j ≤ largest_share h N M
  unfolding largest_share
  top_le i j l k = omega (arith, most_le N (λ j. most j (λ i. share h M i j)) j k, most_le j (λ i. share h M i j) i l)

  top_at : 0 < largest_share h N M → (i j : ℕ) × (i < j) × (j < N) × (share h M i j ≡ largest_share h N M)
  unfolding largest_share
  top_at k =
      let (j, jn, e) = most_at N (λ j. most j (λ i. share h M i j)) k in
      let (i, ij, f) = most_at j (λ i. share h M i j) (omega arith) in
      (i, j, ij, jn, f ∙ e)

  pub picked : 0 < largest_share h N M → (lower_bit h N M < higher_bit h N M) × (higher_bit h N M < N) × (share h M (lower_bit h N M) (higher_bit h N M) ≡ largest_share h N M)
  unfolding lower_bit higher_bit
  picked k =
      let (i, j, ij, jn, e) = top_at k in
      let t = least_at N (λ i. any N (λ j. ltb i j && eqb (share h M i j) (largest_share h N M)))
      (any_of N _ i (omega arith) (any_of N _ j jn (rw (lt-ltb i j ij, eq-eqb _ _ e)))) in
      let (l, r) = least_at N (λ j. ltb (lower_bit h N M) j && eqb (share h M (lower_bit h N M) j) (largest_share h N M)) t.1 in
      let (a, b) = (and-eq-true_iff (ltb (lower_bit h N M) (higher_bit h N M)) _).0 r in
      (ltb-true _ _ a, l, eqb-true _ _ b)

  -- The chosen pair is the one that document 01 names.
  pub chosen : 0 < largest_share h N M → Chosen h N M (lower_bit h N M) (higher_bit h N M)
  unfolding lower_bit higher_bit
  chosen k =
      let (l, r, e) = picked k in
      record {
        low = l;
        high = r;
        largest = λ i j ij jn. omega (arith, top_le i j ij jn);
        lower = λ i j ij jn q. least_min N _ i (omega arith) (any_of N _ j jn (rw (lt-ltb i j ij, eq-eqb _ _ (q ∙ e))));
        higher = λ j uj jn q. least_min N _ j jn (rw (lt-ltb _ j uj, eq-eqb _ _ (q ∙ e)));
      }

  -- and only that one is
  pub chosen_only : (u v : ℕ) → Chosen h N M u v → 0 < share h M u v
      → (largest_share h N M ≡ share h M u v) × (lower_bit h N M ≡ u) × (higher_bit h N M ≡ v)
  chosen_only u v C p =
      let t = top_le u v C.low C.high in
      let (l, r, e) = picked (omega arith) in
      let D = chosen (omega arith) in
      let s : largest_share h N M ≡ share h M u v = omega (arith, C.largest _ _ l r) in
      let a : lower_bit h N M ≡ u = omega (arith, C.lower _ _ l r (e ∙ s), D.lower u v C.low C.high (sym s ∙ sym e)) in
      let b : higher_bit h N M ≡ v = omega (arith, C.higher (higher_bit h N M) (rw a at l) r ((rw a at e) ∙ s), D.higher v (rw a C.low) C.high (rw a (sym s ∙ sym (rw a at e)))) in
      (s, a, b)

  -- Theorem 1's count is zero exactly if no pair has share two.
  pub no_cycles : largest_share h N M < 2 → cycles h N M ≡ 0
  unfolding cycles
  no_cycles k = sum_zero N (λ j jn. sum_zero j (λ i ij. small (share h M i j) (omega (arith, top_le i j ij jn))))
    where
      small : (s : ℕ) → s < 2 → pairs s ≡ 0
      small zero l = unfold pairs in refl
      small (suc zero) l = unfold pairs in refl
      small (suc (suc s)) l = absurd (omega arith)

  pub some_cycles : 2 ≤ largest_share h N M → 1 ≤ cycles h N M
  unfolding cycles
  some_cycles k =
      let (i, j, ij, jn, e) = top_at (omega arith) in
      omega (arith, sum_ge N (λ j. sum j (λ i. pairs (share h M i j))) j jn, sum_ge j (λ i. pairs (share h M i j)) i ij, pairs_two (share h M i j) (omega arith))

  -- no pair has share two or more exactly if the cycle count is 0
  pub none_left : (largest_share h N M < 2) ↔ (cycles h N M ≡ 0)
  none_left = (no_cycles, λ e. elim (dec_lt (largest_share h N M) 2) [ yes l ↦ l | no l ↦ absurd (omega (arith, some_cycles (omega arith))) ])
