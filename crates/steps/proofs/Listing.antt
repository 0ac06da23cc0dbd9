-- The list of the checks that may still have an erased bit, after a solving step. Assumes nothing.
use mathlib.Core.Path.{◌≡◌, refl, sym, ◌∙◌}
use mathlib.Core.Bool.{Bool, not, ◌&&◌, and-true, and-false, and-eq-true_iff}
use mathlib.Core.List.{List}
use mathlib.Core.Logic.{inl, inr, ⊎_elim}
use Prim.Native.Nat.{ℕ, ◌+◌}
use native.Mathlib.Omega.{arith}
use lib.Dec.{eqb}
use lib.ListN.{get_or}
use borrow.Author.Tests.{eq-eqb, ne_eqb}
use Rattle.parity.specs.Matrix.{Matrix}
use Rattle.parity.specs.Words.{inside}
use Rattle.parity.proofs.Finite.Sums.{count_le}
use Rattle.search.specs.Next.{Lone}
use Rattle.search.specs.Live.{Placed, Live}
use Rattle.search.proofs.Listing.{placed_later}
use Rattle.steps.specs.Steps.{Solved}
use Rattle.steps.proofs.Held.{one_less}

-- a solving step takes the one erased bit from its check, and adds none to another
module _ (h : Matrix) (N M c b : ℕ) (e o e' o' : ℕ → Bool) (L : Lone h N M e c b) (S : Solved h N c b e o e' o') where
  solved_none : inside h N c e' ≡ 0
  unfolding inside
  solved_none =
      let f = one_less N b (λ t. h c t && e t) (λ t. h c t && e' t) L.bit (λ i d. rw (S.gone i, ne_eqb i b d, and-true)) (rw (L.has, L.gone)) (rw (S.gone b, eq-eqb b b refl, and-false, and-false)) in
      omega (arith, L.only)

  solved_fewer : (d : ℕ) → inside h N d e ≡ 0 → inside h N d e' ≡ 0
  unfolding inside
  solved_fewer d z =
      let f = count_le N (λ t. h d t && e' t) (λ t. h d t && e t) (λ i k q.
      let (p, r) = (and-eq-true_iff (h d i) (e' i)).0 q in
      rw (p, ((and-eq-true_iff (e i) (not (eqb i b))).0 (sym (S.gone i) ∙ r)).0)) in
      omega arith

  -- so the check leaves the list
  pub live_solved : (l : List ℕ) (k a n : ℕ) → get_or l a 0 ≡ c → Live h N M e l k a n → Live h N M e' l k (a + 1) n
  live_solved l k a n q G = record {
    low = G.low;
    every = λ d m z. ⊎_elim (λ (P : Placed l 0 k d). inl P) (λ (P : Placed l a n d). inr (placed_later l a n d P (λ r. z (rw (sym r ∙ q) solved_none)))) (G.every d m (λ y. z (solved_fewer d y)));
  }
