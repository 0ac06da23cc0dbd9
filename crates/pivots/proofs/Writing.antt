-- Bits that leave the one set and enter the other, pivot by pivot. Assumes nothing.
use mathlib.Core.Path.{◌≡◌, refl, sym, ap, ◌∙◌}
use mathlib.Core.Bool.{Bool, true, false, not, ◌&&◌, ◌||◌, and-true, and-false, or-true, or-false}
use mathlib.Core.List.{List}
use Prim.Native.Nat.{ℕ, ◌+◌, ◌≤◌}
use native.Mathlib.Numerals.{add-one}
use native.Mathlib.Decide.{ℕ_discrete}
use lib.Dec.{eqb}
use lib.ListN.{get_or, length, take}
use lib.Seq.{length-take-le, get_or-take}
use borrow.Author.Tests.{eq-eqb, ne_eqb}
use Rattle.parity.specs.Finite.{count, any}
use Rattle.parity.specs.Matrix.{Matrix, put}
use Rattle.parity.specs.Words.{inside, odd}
use Rattle.parity.proofs.Finite.Firsts.{any_cong}
use Rattle.parity.proofs.Matrix.Lent.{put_here, put_place}
use Rattle.pivots.specs.Pivots.{alone, alone_odd, PivotWritten, PivotsWritten, Low}

-- Row c and the set e have s bits in common.
module _ (g : Matrix) (B : ℕ) (e o : ℕ → Bool) (c b s : ℕ) (common : s ≡ count B (λ t. g c t && e t)) (l v : Matrix) where
  -- none, or several
  pub pivot_stays : (s ≡ 1 → ⊥) → PivotWritten g B e o c b (l 0) (v 0) (l 0) (v 0)
  unfolding inside
  pivot_stays d =
      let q : alone g B e c ≡ false = ne_eqb (inside g B c e) 1 (λ t. d (common ∙ t)) in
      record { left = λ a. rw (q, and-false, and-true); value = λ a. rw (q, and-false, or-false) }

  -- one
  module _ (t : s ≡ 1) (l' : Matrix) (p : l' ≡ put 0 b false l) where
    single : alone g B e c ≡ true
    unfolding inside
    single = eq-eqb (inside g B c e) 1 (sym common ∙ t)

    leaves : (a : ℕ) → l' 0 a ≡ (l 0 a && not (eqb b a && alone g B e c))
    leaves a = ap (λ (h : Matrix). h 0 a) p ∙ rw single (elim (ℕ_discrete b a) [
      | yes s ↦ rw (← s, eq-eqb b b refl, and-false) (put_here 0 b false l)
      | no d ↦ rw (ne_eqb b a d, and-true) (put_place 0 b false l 0 a (λ s. d (sym s)))
    ])

    pub pivot_one : odd (inside g B c o) ≡ true → (v' : Matrix) → v' ≡ put 0 b true v → PivotWritten g B e o c b (l 0) (v 0) (l' 0) (v' 0)
    pivot_one t v' r = record {
      left = leaves;
      value = λ a. ap (λ (h : Matrix). h 0 a) r ∙ rw (single, t) (elim (ℕ_discrete b a) [
        | yes s ↦ rw (← s, eq-eqb b b refl, or-true) (put_here 0 b true v)
        | no d ↦ rw (ne_eqb b a d, or-false) (put_place 0 b true v 0 a (λ s. d (sym s)))
      ]);
    }

    pub pivot_zero : odd (inside g B c o) ≡ false → PivotWritten g B e o c b (l 0) (v 0) (l' 0) (v 0)
    pivot_zero t = record { left = leaves; value = λ a. rw (t, and-false, and-false, or-false) }

module _ (g : Matrix) (B : ℕ) (e o : ℕ → Bool) (at : List ℕ) (l v : ℕ → Bool) where
  pub pivots_none : PivotsWritten g B e o at 0 l v l v
  unfolding any
  pivots_none = record { left = λ a. rw and-true; value = λ a. rw or-false }

  pub pivots_more : (i : ℕ) (l₁ v₁ l₂ v₂ : ℕ → Bool) → PivotsWritten g B e o at i l v l₁ v₁ → PivotWritten g B e o i (get_or at i 0) l₁ v₁ l₂ v₂
      → PivotsWritten g B e o at (i + 1) l v l₂ v₂
  unfolding any
  pivots_more i l₁ v₁ l₂ v₂ P Q = rw (add-one i) record {
    left = λ a. Q.left a ∙ rw (P.left a) (left (l a) (any i (λ c. eqb (get_or at c 0) a && alone g B e c)) (eqb (get_or at i 0) a && alone g B e i));
    value = λ a. Q.value a ∙ rw (P.value a) (value (v a) (any i (λ c. eqb (get_or at c 0) a && alone_odd g B e o c)) (eqb (get_or at i 0) a && alone_odd g B e o i));
  }
    where
      left : (x p q : Bool) → (x && not p && not q) ≡ (x && not (p || q))
      left true true q = refl
      left true false q = refl
      left false p q = refl

      value : (x p q : Bool) → (x || p || q) ≡ (x || (p || q))
      value true p q = refl
      value false p q = refl

-- the same of the first numbers of a list
module _ (r : ℕ) (at : List ℕ) (k : r ≤ length at) where
  pub low_front : (n : ℕ) → Low r n at → Low (length (take r at)) n (take r at)
  low_front n L = rw (length-take-le r at k) record { low = λ c i. rw (get_or-take r at c 0 i) (L.low c i) }

  pub pivots_front : (g : Matrix) (B : ℕ) (e o l v l' v' : ℕ → Bool) → PivotsWritten g B e o (take r at) (length (take r at)) l v l' v' → PivotsWritten g B e o at r l v l' v'
  pivots_front g B e o l v l' v' P =
      let Q = rw (length-take-le r at k) at P in
      record {
        left = λ a. Q.left a ∙ ap (λ x. l a && not x) (any_cong r _ (λ c. eqb (get_or at c 0) a && alone g B e c) (λ c i. rw (get_or-take r at c 0 i)));
        value = λ a. Q.value a ∙ ap (λ x. v a || x) (any_cong r _ (λ c. eqb (get_or at c 0) a && alone_odd g B e o c) (λ c i. rw (get_or-take r at c 0 i)));
      }
