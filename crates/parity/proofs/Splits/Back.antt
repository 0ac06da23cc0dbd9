-- Taking back undoes a split. Assumes nothing.
use mathlib.Core.Path.{◌≡◌, refl, sym, ◌∙◌, fun_ext}
use mathlib.Core.Bool.{true, false, ◌&&◌, ◌||◌, and-false, or-true, or-false, and-eq-true_iff}
use Prim.Native.Nat.{ℕ, suc, ◌+◌, ◌<◌}
use native.Mathlib.Omega.{arith}
use native.Mathlib.Decide.{ℕ_discrete}
use borrow.Author.Tests.{eq-eqb, ne_eqb}
use Rattle.parity.specs.Matrix.{Matrix, rule_a}
use Rattle.parity.specs.Cycles.{share, split_of, taken_back, others}
use Rattle.parity.specs.Sound.{Clean, Sound}
use Rattle.parity.proofs.Finite.Sums.{is_true, is_false, is, count_cong}
use Rattle.parity.proofs.Splits.Split.{at_new_bit, at_other, at_apart}
use Rattle.parity.proofs.Splits.Cycles.{new_other, new_u, new_v}

-- the entries after taking back
module _ (h : Matrix) (N M : ℕ) where
  pub back_check : (b : ℕ) → taken_back h N M M b ≡ false
  unfolding taken_back
  back_check b = rw (eq-eqb M M refl)

  pub back_bit : (c : ℕ) → taken_back h N M c N ≡ false
  unfolding taken_back
  back_bit c = rw (eq-eqb N N refl, or-true)

  pub back_at : (c b : ℕ) → (c ≡ M → ⊥) → (b ≡ N → ⊥) → taken_back h N M c b ≡ (h c b || (h c N && h M b))
  unfolding taken_back
  back_at c b d e = rw (ne_eqb c M d, ne_eqb b N e)

  pub back_clean : Clean h (suc N) (suc M) → Clean (taken_back h N M) N M
  back_clean K = record {
    checks = λ c b l. elim (ℕ_discrete c M) [
      | yes q ↦ rw q (back_check b)
      | no d ↦ elim (ℕ_discrete b N) [
        | yes q ↦ rw q (back_bit c)
        | no e ↦ back_at c b d e ∙ rw (K.checks c b (omega arith), K.checks c N (omega arith))
      ]
    ];
    bits = λ c b l. elim (ℕ_discrete b N) [
      | yes q ↦ rw q (back_bit c)
      | no e ↦ elim (ℕ_discrete c M) [
        | yes q ↦ rw q (back_check b)
        | no d ↦ back_at c b d e ∙ rw (K.bits c b (omega arith), K.bits M b (omega arith), and-false)
      ]
    ];
  }

-- A split followed by taking back gives the same matrix, and s is the share.
module _ (h : Matrix) (N M u v : ℕ) (un : u < N) (vn : v < N) where
  module _ (K : Clean h N M) where
    restored : (c b : ℕ) → taken_back (split_of h N M u v) N M c b ≡ h c b
    restored c b =
        elim (ℕ_discrete c M) [
          | yes q ↦ rw q (back_check (split_of h N M u v) N M b ∙ sym (K.checks M b (omega arith)))
          | no d ↦ elim (ℕ_discrete b N) [
            | yes q ↦ rw q (back_bit (split_of h N M u v) N M c ∙ sym (K.bits c N (omega arith)))
            | no e ↦ back_at (split_of h N M u v) N M c b d e ∙ rw (at_new_bit h N M u v c d) (elim (is (h c u && h c v)) [
              | is_false q ↦ rw (q, at_apart h N M u v c b d e q, or-false)
              | is_true q ↦
                  let (p, r) = (and-eq-true_iff (h c u) (h c v)).0 q in
                  elim (ℕ_discrete b u) [
                    | yes x ↦ rw (x, q, new_u h N M u v, or-true, p)
                    | no x ↦ elim (ℕ_discrete b v) [
                      | yes y ↦ rw (y, q, new_v h N M u v, or-true, r)
                      | no y ↦ rw (at_other h N M u v c b d e x y, new_other h N M u v b x y e, and-false, or-false)
                    ]
                  ]
            ])
          ]
        ]

    pub split_back : taken_back (split_of h N M u v) N M ≡ h
    split_back = fun_ext (λ c. fun_ext (λ b. restored c b))

  pub split_others : others (split_of h N M u v) N M ≡ share h M u v
  unfolding others share
  split_others = count_cong M (λ c l. at_new_bit h N M u v c (λ q. omega arith))

-- The resulting matrix is accepted if rule A holds.
pub back_sound : (h : Matrix) (n m k : ℕ) → Sound h n m (suc k) → rule_a (taken_back h (n + k) (m + k)) n m k ≡ true
    → Sound (taken_back h (n + k) (m + k)) n m k
back_sound h n m k S e =
    let a : n + suc k ≡ suc (n + k) = omega arith in
    let b : m + suc k ≡ suc (m + k) = omega arith in
    record {
      n1 = S.n1;
      n120 = S.n120;
      m120 = S.m120;
      k392 = omega (arith, S.k392);
      clean = back_clean h (n + k) (m + k) (rw (a, b) at S.clean);
      rule = e;
    }
