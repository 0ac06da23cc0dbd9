-- Those that pass a test, counted through: what is sent is told by the values in a row. Assumes nothing.
-- D holds in a row the values f of the numbers below N that pass p.
use mathlib.Core.Path.{◌≡◌, refl, ◌∙◌}
use mathlib.Core.Bool.{Bool, true, false, not, ◌&&◌, ◌||◌, or-false, and-true}
use Prim.Native.Nat.{ℕ, zero, suc, ◌<◌}
use native.Mathlib.Decide.{ℕ_discrete}
use native.Mathlib.Numerals.{add-one}
use native.Mathlib.Nat.{add-zero}
use native.Mathlib.Omega.{arith}
use borrow.Author.Tests.{eq-eqb, ne_eqb}
use Rattle.parity.specs.Finite.{sum, count, all, any}
use Rattle.parity.proofs.Finite.Sums.{is_true, is_false, is, count_suc}
use Rattle.parity.proofs.Finite.Firsts.{nth_only}
use Rattle.parity.specs.Soft.{is_erased, is_sure, turns_sign, least_soft, turns_odd, check_sends, gathered, but}
use Rattle.parity.specs.declared.Channel.{Channel}
use Rattle.parity.proofs.Soft.Cong.{check_cong, gathered_cong}

-- ---- values in a row
module _ (p : ℕ → Bool) (f D : ℕ → Channel) where
  abbrev Row : ℕ → Type 0
  Row N = (i : ℕ) → i < N → p i ≡ true → D (count i p) ≡ f i

  abbrev shorter : (N : ℕ) → Row (suc N) → Row N
  shorter N R i k = R i (omega arith)

  none_more : (N : ℕ) → p N ≡ false → count (suc N) p ≡ count N p
  none_more N e = count_suc N p ∙ (rw e (add-zero (count N p)))

  one_more : (N : ℕ) → p N ≡ true → count (suc N) p ≡ suc (count N p)
  one_more N e = count_suc N p ∙ (rw e (add-one (count N p)))

  module _ (q : ℕ → Bool) where
    -- the test in the row, and among all
    abbrev through : ℕ → Bool
    through i = p i && q (count i p)

    row_any : (e : Channel → Bool) (N : ℕ) → Row N → any (count N p) (λ j. q j && e (D j)) ≡ any N (λ i. through i && e (f i))
    unfolding any
    row_any e zero R = unfold count sum in refl
    row_any e (suc N) R = elim (is (p N)) [
      | is_true t ↦ rw (one_more N t, t, R N (omega arith) t, row_any e N (shorter N R))
      | is_false t ↦ rw (none_more N t, t, or-false, row_any e N (shorter N R))
    ]

    row_all : (e : Channel → Bool) (N : ℕ) → Row N → all (count N p) (λ j. not (q j) || e (D j)) ≡ all N (λ i. not (through i) || e (f i))
    unfolding all
    row_all e zero R = unfold count sum in refl
    row_all e (suc N) R = elim (is (p N)) [
      | is_true t ↦ rw (one_more N t, t, R N (omega arith) t, row_all e N (shorter N R))
      | is_false t ↦ rw (none_more N t, t, and-true, row_all e N (shorter N R))
    ]

    row_count : (e : Channel → Bool) (N : ℕ) → Row N → count (count N p) (λ j. q j && e (D j)) ≡ count N (λ i. through i && e (f i))
    row_count e zero R = unfold count sum in refl
    row_count e (suc N) R = elim (is (p N)) [
      | is_true t ↦
          rw (one_more N t, count_suc (count N p) (λ j. q j && e (D j)), count_suc N (λ i. through i && e (f i)), t, R N (omega arith) t, row_count e N (shorter N R))
      | is_false t ↦ rw (none_more N t, count_suc N (λ i. through i && e (f i)), t, add-zero) (row_count e N (shorter N R))
    ]

    row_least : (N : ℕ) → Row N → least_soft (count N p) q D ≡ least_soft N through f
    unfolding least_soft
    row_least zero R = unfold count sum in refl
    row_least (suc N) R = elim (is (p N)) [
      | is_true t ↦ rw (one_more N t, t, R N (omega arith) t, row_least N (shorter N R))
      | is_false t ↦ rw (none_more N t, t, row_least N (shorter N R))
    ]

    pub row_check : (N : ℕ) → Row N → check_sends (count N p) q D ≡ check_sends N through f
    unfolding check_sends turns_odd
    row_check N R = rw (row_any is_erased N R, row_all is_sure N R, row_count turns_sign N R, row_least N R)

    pub row_gathered : (v : Channel) (N : ℕ) → Row N → gathered v (count N p) q D ≡ gathered v N through f
    unfolding gathered
    row_gathered v zero R = unfold count sum in refl
    row_gathered v (suc N) R = elim (is (p N)) [
      | is_true t ↦ rw (one_more N t, t, R N (omega arith) t, row_gathered v N (shorter N R))
      | is_false t ↦ rw (none_more N t, t, row_gathered v N (shorter N R))
    ]

-- ---- the place of a number in the row
rank_but : (p : ℕ → Bool) (b i : ℕ) → p b ≡ true → p i && but (count b p) (count i p) ≡ p i && but b i
rank_but p b i e = elim (is (p i)) [
  | is_false t ↦ rw t
  | is_true t ↦ rw t (elim (ℕ_discrete i b) [
    | yes z ↦ rw (z, eq-eqb b b refl, eq-eqb (count b p) (count b p) refl)
    | no z ↦ rw (ne_eqb i b z, ne_eqb (count i p) (count b p) (λ y. z (nth_only p i b t e y)))
  ])
]

-- What a check sends to bit b, from its row.
pub check_row : (p : ℕ → Bool) (f D : ℕ → Channel) (N b : ℕ) → p b ≡ true → ((i : ℕ) → i < N → p i ≡ true → D (count i p) ≡ f i)
    → check_sends (count N p) (but (count b p)) D ≡ check_sends N (λ a. p a && but b a) f
check_row p f D N b e R = row_check p f D (but (count b p)) N R ∙ check_cong N _ _ f f (λ i k. rank_but p b i e) (λ i k. refl)

-- What a bit sends to check c, from its row.
pub gathered_row : (p : ℕ → Bool) (f D : ℕ → Channel) (v : Channel) (N c : ℕ) → p c ≡ true → ((i : ℕ) → i < N → p i ≡ true → D (count i p) ≡ f i)
    → gathered v (count N p) (but (count c p)) D ≡ gathered v N (λ d. p d && but c d) f
gathered_row p f D v N c e R = row_gathered p f D (but (count c p)) v N R ∙ gathered_cong v N _ _ f f (λ i k. rank_but p c i e) (λ i k. refl)

-- What all of them come to.
pub all_row : (p : ℕ → Bool) (f D : ℕ → Channel) (v : Channel) (N : ℕ) → ((i : ℕ) → i < N → p i ≡ true → D (count i p) ≡ f i)
    → gathered v (count N p) (λ i. true) D ≡ gathered v N p f
all_row p f D v N R = row_gathered p f D (λ i. true) v N R ∙ gathered_cong v N _ _ f f (λ i k. and-true (p i)) (λ i k. refl)
