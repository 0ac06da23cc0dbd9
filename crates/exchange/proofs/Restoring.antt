-- Taking back made of single bits: the given checks one after the other, and the newest added check emptied. Assumes nothing.
use mathlib.Core.Path.{◌≡◌, refl, sym, ◌∙◌, fun_ext}
use mathlib.Core.Bool.{Bool, true, false, cond, ◌&&◌, ◌||◌, and-false, or-false, true≢false}
use Prim.Native.Nat.{ℕ, ◌+◌, ◌≤◌}
use native.Mathlib.Omega.{arith}
use native.Mathlib.Numerals.{add-one}
use native.Mathlib.Decide.{ℕ_discrete, dec_lt}
use lib.Dec.{eqb, ltb}
use borrow.Author.Tests.{eq-eqb, ne_eqb, lt-ltb, le-ltb}
use Rattle.parity.specs.Finite.{count}
use Rattle.parity.specs.Matrix.{Matrix, put}
use Rattle.parity.specs.Cycles.{taken_back, others}
use Rattle.parity.proofs.Finite.Sums.{is_true, is_false, is, below_next, count_suc, count_end, count_bound}
use Rattle.parity.proofs.Matrix.Lent.{put_row}
use Rattle.parity.proofs.Splits.Back.{back_check, back_bit, back_at}
use Rattle.exchange.specs.Back.{Restored, Newer}

pub restored_none : (h : Matrix) (u v z : ℕ) → Restored h h 0 u v z 0
unfolding count
restored_none h u v z = record { at = λ c b. rw (le-ltb c 0 (omega arith)); holders = refl }

-- one more check, which contains z or not
module _ (h g : Matrix) (i u v z s : ℕ) (R : Restored h g i u v z s) where
  pub still : (b : ℕ) → g i b ≡ h i b
  still b = R.at i b ∙ rw (le-ltb i i (omega arith))

  elsewhere : (c b : ℕ) → (c ≡ i → ⊥) → g c b ≡ cond (ltb c (i + 1) && h c z) (cond (eqb b u || eqb b v) true (cond (eqb b z) false (h c b))) (h c b)
  elsewhere c b d = R.at c b ∙ rw (below_next c i d)

  pub restored_skip : h i z ≡ false → Restored h g (i + 1) u v z s
  restored_skip e = record {
    at = λ c b. elim (ℕ_discrete c i) [ yes q ↦ rw (q, still b, e, and-false) | no d ↦ elsewhere c b d ];
    holders = R.holders ∙ sym (rw add-one (count_suc i (λ c. h c z) ∙ rw e (omega arith)));
  }

  here : (b : ℕ) → put i v true (put i u true (put i z false g)) i b ≡ cond (eqb b u || eqb b v) true (cond (eqb b z) false (h i b))
  unfolding put
  here b = rw (eq-eqb i i refl, still b) (go (eqb b v) (eqb b u) (eqb b z))
    where
      go : (p q r : Bool) → cond p true (cond q true (cond r false (h i b))) ≡ cond (q || p) true (cond r false (h i b))
      go true true r = refl
      go true false r = refl
      go false true r = refl
      go false false r = refl

  pub restored_next : h i z ≡ true → Restored h (put i v true (put i u true (put i z false g))) (i + 1) u v z (s + 1)
  restored_next e = record {
    at = λ c b. elim (ℕ_discrete c i) [
      | yes q ↦ rw (q, lt-ltb i (i + 1) (omega arith), e) (here b)
      | no d ↦ put_row _ _ _ _ c b d ∙ put_row _ _ _ _ c b d ∙ put_row _ _ _ _ c b d ∙ elsewhere c b d
    ];
    holders = rw R.holders (sym (rw (add-one i) (count_suc i (λ c. h c z) ∙ rw e)));
  }

pub restored_few : (h g : Matrix) (i u v z s : ℕ) → Restored h g i u v z s → s ≤ i
restored_few h g i u v z s R = rw R.holders (count_bound i (λ c. h c z))

-- the given checks, and the newest added check emptied, are the matrix with z taken back
module _ (h g : Matrix) (m u v z M s : ℕ) (R : Restored h g m u v z s) (N : Newer h m z M u v) where
  emptied : (b : ℕ) → put M z false (put M v false (put M u false g)) M b ≡ false
  unfolding put
  emptied b = rw (eq-eqb M M refl, R.at M b, le-ltb M m N.behind, N.own b) (go (eqb b u) (eqb b v) (eqb b z))
    where
      go : (p q r : Bool) → cond r false (cond q false (cond p false (p || q || r))) ≡ false
      go true true true = refl
      go true true false = refl
      go true false true = refl
      go true false false = refl
      go false true true = refl
      go false true false = refl
      go false false true = refl
      go false false false = refl

  given : (c b : ℕ) → (c ≡ M → ⊥) → g c b ≡ taken_back h z M c b
  given c b d =
      elim (is (h c z)) [
        | is_false e ↦ R.at c b ∙ rw (e, and-false) (elim (ℕ_discrete b z) [
          | yes q ↦ rw q (e ∙ sym (back_bit h z M c))
          | no n ↦ sym (back_at h z M c b d n ∙ rw (e, or-false))
        ])
        | is_true e ↦ elim (dec_lt c m) [
          | no l ↦ absurd (true≢false (sym e ∙ N.alone c (omega arith) d))
          | yes l ↦ R.at c b ∙ rw (lt-ltb c m l, e) (elim (ℕ_discrete b z) [
            | yes q ↦ rw (q, ne_eqb z u (λ q. omega (arith, N.below.0)), ne_eqb z v (λ q. omega (arith, N.below.1)), eq-eqb z z refl) (sym (back_bit h z M c))
            | no n ↦ sym (back_at h z M c b d n ∙ rw (e, N.own b, ne_eqb b z n) (go (h c b) (eqb b u) (eqb b v)))
          ])
        ]
      ]
    where
      go : (x p q : Bool) → (x || (p || q || false)) ≡ cond (p || q) true x
      go true true q = refl
      go true false true = refl
      go true false false = refl
      go false true q = refl
      go false false true = refl
      go false false false = refl

  pub restored_back : (f : Matrix) → f ≡ put M z false (put M v false (put M u false g)) → f ≡ taken_back h z M
  restored_back f e = e ∙ fun_ext (λ c. fun_ext (λ b. at c b))
    where
      at : (c b : ℕ) → put M z false (put M v false (put M u false g)) c b ≡ taken_back h z M c b
      at c b =
          elim (ℕ_discrete c M) [
            | yes q ↦ rw q (emptied b ∙ sym (back_check h z M b))
            | no d ↦ put_row _ _ _ _ c b d ∙ put_row _ _ _ _ c b d ∙ put_row _ _ _ _ c b d ∙ given c b d
          ]

  pub restored_others : s ≡ others h z M
  unfolding others
  restored_others = R.holders ∙ sym (count_end m M (λ c. h c z) N.behind (λ c a l. N.alone c a (λ q. omega arith)))
