-- Counts over all places but one. Assumes nothing.
use mathlib.Core.Path.{◌≡◌, refl, sym, ap, ◌∙◌}
use mathlib.Core.Bool.{Bool, true, false, not, cond, ◌&&◌, ◌||◌, and-eq-true_iff, true≢false, false≢true}
use Prim.Native.Nat.{ℕ, ◌+◌, ◌%◌, ◌<◌}
use native.Mathlib.Decide.{ℕ_discrete}
use native.Mathlib.Omega.{arith}
use lib.Dec.{eqb}
use borrow.Author.Tests.{eq-eqb, ne_eqb}
use Rattle.parity.specs.Finite.{one, count, all, any}
use Rattle.parity.specs.Words.{odd}
use Rattle.parity.proofs.Finite.Sums.{is_true, is_false, is, sum_point, any_of, any_at, all_of, all_at, count_pos, count_at}
use Rattle.parity.specs.Soft.{is_erased, is_soft, is_sure, but}
use Rattle.parity.specs.declared.Channel.{Channel}
use Rattle.parity.specs.declared.Channel.TheVariants.{Sure, Soft, Erased}

pub but_at : (t : ℕ) → but t t ≡ false
but_at t = rw (eq-eqb t t refl)

pub but_other : (t i : ℕ) → (i ≡ t → ⊥) → but t i ≡ true
but_other t i n = rw (ne_eqb i t n)

-- all places but t, and t
pub count_but : (n t : ℕ) (p : ℕ → Bool) → t < n → count n (λ i. but t i && p i) + one (p t) ≡ count n p
unfolding count
count_but n t p k =
    let q = sum_point n t {f = λ i. one (but t i && p i)} {g = λ i. one (p i)} k (λ i l d. rw (but_other t i d)) in
    omega (arith, rw (but_at t) at q)

-- some place passes exactly if the count is not 0
pub any_count : (n : ℕ) (p : ℕ → Bool) → any n p ≡ not (eqb (count n p) 0)
any_count n p =
    elim (is (any n p)) [
      | is_true e ↦
          let (i, k, q) = any_at n p e in
          e ∙ (rw (ne_eqb (count n p) 0 (λ z. omega (arith, count_pos n p i k q))))
      | is_false e ↦ e ∙ sym (ap not (eq-eqb (count n p) 0 (none e)))
    ]
  where
    none : any n p ≡ false → count n p ≡ 0
    none e = elim (ℕ_discrete (count n p) 0) [
      | yes q ↦ q
      | no d ↦ let (i, k, q) = count_at n p (omega arith) in absurd (true≢false (sym (any_of n p i k q) ∙ e))
    ]

-- a value that is not erased is sure or soft
sure_soft : (v : Channel) → is_erased v ≡ false → is_sure v ≡ not (is_soft v)
sure_soft (Sure b) e = refl
sure_soft (Soft x) e = refl
sure_soft Erased e = absurd (true≢false e)

-- Where none of those that pass is erased, all of them are sure exactly if none is soft.
pub all_sure : (n : ℕ) (p : ℕ → Bool) (f : ℕ → Channel) → any n (λ i. p i && is_erased (f i)) ≡ false
    → all n (λ i. not (p i) || is_sure (f i)) ≡ not (any n (λ i. p i && is_soft (f i)))
all_sure n p f e =
    elim (is (any n (λ i. p i && is_soft (f i)))) [
      | is_true q ↦
          let (i, k, r) = any_at n (λ i. p i && is_soft (f i)) q in
          let (r₁, r₂) = (and-eq-true_iff (p i) (is_soft (f i))).0 r in
          rw q (refused i k r₁ r₂)
      | is_false q ↦ rw q (all_of n (λ i. not (p i) || is_sure (f i)) (λ i k. passes q i k))
    ]
  where
    plain : (i : ℕ) → i < n → p i ≡ true → is_erased (f i) ≡ false
    plain i k r = elim (is (is_erased (f i))) [
      | is_false g ↦ g
      | is_true g ↦ absurd (true≢false (sym (any_of n (λ i. p i && is_erased (f i)) i k (rw (r, g))) ∙ e))
    ]

    refused : (i : ℕ) → i < n → p i ≡ true → is_soft (f i) ≡ true → all n (λ i. not (p i) || is_sure (f i)) ≡ false
    refused i k r s = elim (is (all n (λ i. not (p i) || is_sure (f i)))) [
      | is_false g ↦ g
      | is_true g ↦
          let a = all_at n (λ i. not (p i) || is_sure (f i)) g i k in
          absurd (false≢true (rw (r, sure_soft (f i) (plain i k r), s) at a))
    ]

    passes : any n (λ i. p i && is_soft (f i)) ≡ false → (i : ℕ) → i < n → not (p i) || is_sure (f i) ≡ true
    passes q i k = elim (is (p i)) [
      | is_false r ↦ rw r
      | is_true r ↦ elim (is (is_soft (f i))) [
        | is_true s ↦ absurd (true≢false (sym (any_of n (λ i. p i && is_soft (f i)) i k (rw (r, s))) ∙ q))
        | is_false s ↦ rw (r, sure_soft (f i) (plain i k r), s)
      ]
    ]

-- one more, or one less, turns an odd number into an even one
pub odd_less : (a b : ℕ) (x : Bool) → a + one x ≡ b → odd a ≡ cond x (not (odd b)) (odd b)
unfolding odd
odd_less a b true e = elim (ℕ_discrete (a % 2) 1) [
  | yes q ↦ rw (eq-eqb _ _ q, ne_eqb (b % 2) 1 (λ z. omega arith))
  | no q ↦ rw (ne_eqb _ _ q, eq-eqb (b % 2) 1 (omega arith))
]
odd_less a b false e = let q : a ≡ b = omega arith in rw q

pub odd_more : (a : ℕ) (x : Bool) → odd (a + one x) ≡ cond x (not (odd a)) (odd a)
unfolding odd
odd_more a true = elim (ℕ_discrete (a % 2) 1) [
  | yes q ↦ rw (eq-eqb _ _ q, ne_eqb ((a + 1) % 2) 1 (λ z. omega arith))
  | no q ↦ rw (ne_eqb _ _ q, eq-eqb ((a + 1) % 2) 1 (omega arith))
]
odd_more a false = let q : a + 0 ≡ a = omega arith in rw q
