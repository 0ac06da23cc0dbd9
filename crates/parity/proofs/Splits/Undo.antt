-- A matrix that taking back gives is split again, on the two lower bits of the newest added check, into the matrix. Assumes nothing.
use mathlib.Core.Path.{◌≡◌, refl, sym, ◌∙◌, fun_ext}
use mathlib.Core.Bool.{Bool, true, false, not, cond, ◌&&◌, ◌||◌, and-false, or-true, or-false, and-eq-true_iff, true≢false}
use Prim.Native.Nat.{ℕ, suc, ◌+◌, ◌<◌}
use native.Mathlib.Omega.{arith}
use native.Mathlib.Decide.{ℕ_discrete, dec_lt}
use lib.Dec.{eqb, ltb}
use borrow.Author.Tests.{eq-eqb, ne_eqb, lt-ltb, ltb-true, eqb-false, not-true}
use Rattle.parity.specs.Finite.{one, count, least}
use Rattle.parity.specs.Matrix.{Matrix}
use Rattle.parity.specs.Cycles.{share, split_of, taken_back, others, lower_of, higher_of}
use Rattle.parity.specs.Sound.{Sound, Newest}
use Rattle.parity.proofs.Finite.Sums.{is_true, is_false, is, sum_point, sum_two, sum_ge, count_cong, count_suc, count_pos, count_at, any_of}
use Rattle.parity.proofs.Finite.Firsts.{least_at, least_min}
use Rattle.parity.proofs.Splits.Split.{at_new_bit, at_other, at_apart, at_u, at_v}
use Rattle.parity.proofs.Splits.Cycles.{new_other, new_u, new_v, new_z}
use Rattle.parity.proofs.Matrix.Sound.{sound_rule, split_clean}
use Rattle.parity.proofs.Splits.Back.{back_at, back_clean}

-- the two numbers below N that pass a test that two pass
module _ (N : ℕ) (p : ℕ → Bool) (two : count N p ≡ 2) where
  abbrev a : ℕ
  a = least N p

  abbrev b : ℕ
  b = least N (λ i. ltb a i && p i)

  pub lower_at : (a < N) × (p a ≡ true)
  lower_at = let (i, l, e) = count_at N p (omega arith) in least_at N p (any_of N p i l e)

  another : (i : ℕ) × (i < N) × ((not (eqb i a) && p i) ≡ true)
  unfolding count
  another =
      let q = sum_point N a {f = λ i. one (p i)} {g = λ i. one (not (eqb i a) && p i)} lower_at.0 (λ i l d. rw (ne_eqb i a d)) in
      count_at N (λ i. not (eqb i a) && p i) (omega (arith, rw (eq-eqb a a refl, lower_at.1) at q))

  pub higher_at : (a < b) × (b < N) × (p b ≡ true)
  higher_at =
      let (i, l, e) = another in
      let (x, y) = (and-eq-true_iff (not (eqb i a)) (p i)).0 e in
      let d = eqb-false i a (not-true (eqb i a) x) in
      let (s, t) = least_at N (λ i. ltb a i && p i) (any_of N (λ i. ltb a i && p i) i l (rw (lt-ltb a i (omega (arith, least_min N p i l y)), y))) in
      let (u, v) = (and-eq-true_iff (ltb a b) (p b)).0 t in
      (ltb-true a b u, s, v)

  pub no_third : (i : ℕ) → i < N → (i ≡ a → ⊥) → (i ≡ b → ⊥) → p i ≡ false
  unfolding count
  no_third i l da db =
      let g : ℕ → ℕ = λ t. cond (eqb t a || eqb t b) 0 (one (p t)) in
      let q = sum_two N a b {f = λ t. one (p t)} {g = g} lower_at.0 higher_at.1 (λ e. omega (arith, higher_at.0)) (λ t k x y. rw (ne_eqb t a x, ne_eqb t b y)) in
      let r = rw (eq-eqb a a refl, eq-eqb b b refl, or-true, lower_at.1, higher_at.2) at q in
      elim (is (p i)) [
        | is_false e ↦ e
        | is_true e ↦ absurd (omega (arith, r, rw (ne_eqb i a da, ne_eqb i b db, e) at (sum_ge N g i l)))
      ]

-- two bits of check M whose share is 1 are in no lower check together
alone_below : (h : Matrix) (M a b : ℕ) → share h (suc M) a b ≡ 1 → h M a ≡ true → h M b ≡ true → (c : ℕ) → c < M → (h c a && h c b) ≡ false
unfolding share
alone_below h M a b e p q c l =
    elim (is (h c a && h c b)) [
      | is_false t ↦ t
      | is_true t ↦ absurd (omega (arith, rw (p, q) at (count_suc M (λ c. h c a && h c b)), count_pos M (λ c. h c a && h c b) c l t))
    ]

-- rule A of the newest added check
pub newest : (h : Matrix) (n m k : ℕ) → Sound h n m (suc k) → Newest h (n + k) (m + k)
newest h n m k S =
    let R = sound_rule h n m (suc k) k S (omega arith) in
    let x : n + suc k ≡ suc (n + k) = omega arith in
    let y : m + suc k ≡ suc (m + k) = omega arith in
    record { clean = rw (x, y) at S.clean; own = R.own; two = R.two; alone = rw (x, y) at R.alone }

module _ (h : Matrix) (N M : ℕ) (R : Newest h N M) where
  abbrev u : ℕ
  u = lower_of h N M

  abbrev v : ℕ
  v = higher_of h N M

  abbrev t : Matrix
  t = taken_back h N M

  pub pair_lower : u < v
  unfolding lower_of higher_of
  pair_lower = (higher_at N (h M) R.two).0

  pub pair_higher : v < N
  unfolding lower_of higher_of
  pair_higher = (higher_at N (h M) R.two).1

  has_u : h M u ≡ true
  unfolding lower_of higher_of
  has_u = (lower_at N (h M) R.two).1

  has_v : h M v ≡ true
  unfolding lower_of higher_of
  has_v = (higher_at N (h M) R.two).2

  has_no_other : (b : ℕ) → (b ≡ u → ⊥) → (b ≡ v → ⊥) → (b ≡ N → ⊥) → h M b ≡ false
  unfolding lower_of higher_of
  has_no_other b du dv dn =
      elim (dec_lt b N) [ yes l ↦ no_third N (h M) R.two b l du dv | no l ↦ R.clean.bits M b (omega arith) ]

  -- the newest added check contains the two and its own bit
  pub pair_own : (b : ℕ) → h M b ≡ (eqb b u || eqb b v || eqb b N)
  pair_own b =
      elim (ℕ_discrete b u) [
        | yes x ↦ rw x (has_u ∙ sym (rw (eq-eqb u u refl)))
        | no x ↦ elim (ℕ_discrete b v) [
          | yes y ↦ rw y (has_v ∙ sym (rw (eq-eqb v v refl, or-true)))
          | no y ↦ elim (ℕ_discrete b N) [
            | yes z ↦ rw z (R.own ∙ sym (rw (eq-eqb N N refl, or-true)))
            | no z ↦ has_no_other b x y z ∙ sym (rw (ne_eqb b u x, ne_eqb b v y, ne_eqb b N z))
          ]
        ]
      ]

  apart_uv : (c : ℕ) → c < M → (h c u && h c v) ≡ false
  apart_uv = alone_below h M u v (R.alone u v pair_lower (omega (arith, pair_higher)) has_u has_v) has_u has_v

  apart_u : (c : ℕ) → c < M → (h c u && h c N) ≡ false
  apart_u = alone_below h M u N (R.alone u N (omega (arith, pair_lower, pair_higher)) (omega arith) has_u R.own) has_u R.own

  apart_v : (c : ℕ) → c < M → (h c v && h c N) ≡ false
  apart_v = alone_below h M v N (R.alone v N pair_higher (omega arith) has_v R.own) has_v R.own

  -- a check without the newest bit is left
  without : (c b : ℕ) → c < M → (b ≡ N → ⊥) → h c N ≡ false → t c b ≡ h c b
  without c b l d e = back_at h N M c b (λ q. omega arith) d ∙ rw (e, or-false)

  -- in a check with it, the two come in its place
  with_u : (c : ℕ) → c < M → h c N ≡ true → t c u ≡ true
  with_u c l e = back_at h N M c u (λ q. omega arith) (λ q. omega (arith, pair_lower, pair_higher)) ∙ rw (e, has_u, or-true)

  with_v : (c : ℕ) → c < M → h c N ≡ true → t c v ≡ true
  with_v c l e = back_at h N M c v (λ q. omega arith) (λ q. omega (arith, pair_higher)) ∙ rw (e, has_v, or-true)

  un : u < N
  un = omega (arith, pair_lower, pair_higher)

  du : u ≡ N → ⊥
  du q = omega (arith, un)

  dv : v ≡ N → ⊥
  dv q = omega (arith, pair_higher)

  pub both : (c : ℕ) → c < M → (t c u && t c v) ≡ h c N
  both c l =
      elim (is (h c N)) [
        | is_true e ↦ rw (with_u c l e, with_v c l e, e)
        | is_false e ↦ rw (without c u l du e, without c v l dv e, e) (apart_uv c l)
      ]

  left_out : (x y : Bool) → (x && y) ≡ false → y ≡ true → x ≡ false
  left_out true y e f = absurd (true≢false (sym f ∙ e))
  left_out false y e f = refl

  again : (c b : ℕ) → split_of t N M u v c b ≡ h c b
  again c b =
      elim (ℕ_discrete c M) [
        | yes q ↦ rw q (elim (ℕ_discrete b u) [
          | yes x ↦ rw x (new_u t N M u v ∙ sym has_u)
          | no x ↦ elim (ℕ_discrete b v) [
            | yes y ↦ rw y (new_v t N M u v ∙ sym has_v)
            | no y ↦ elim (ℕ_discrete b N) [
              | yes z ↦ rw z (new_z t N M u v ∙ sym R.own)
              | no z ↦ new_other t N M u v b x y z ∙ sym (has_no_other b x y z)
            ]
          ]
        ])
        | no d ↦ elim (dec_lt c M) [
          | no g ↦ (split_clean t N M u v un pair_higher (back_clean h N M R.clean)).checks c b (omega arith) ∙ sym (R.clean.checks c b (omega arith))
          | yes l ↦ elim (ℕ_discrete b N) [
            | yes z ↦ rw z (at_new_bit t N M u v c d ∙ both c l)
            | no z ↦ elim (is (h c N)) [
              | is_false e ↦ at_apart t N M u v c b d z (both c l ∙ e) ∙ without c b l z e
              | is_true e ↦ elim (ℕ_discrete b u) [
                | yes x ↦ rw x (at_u t N M u v un pair_higher c d ∙ rw (with_v c l e, and-false) (sym (left_out (h c u) (h c N) (apart_u c l) e)))
                | no x ↦ elim (ℕ_discrete b v) [
                  | yes y ↦ rw y (at_v t N M u v un pair_higher c d ∙ rw (with_u c l e, and-false) (sym (left_out (h c v) (h c N) (apart_v c l) e)))
                  | no y ↦ at_other t N M u v c b d z x y ∙ back_at h N M c b d z ∙ rw (has_no_other b x y z, and-false, or-false)
                ]
              ]
            ]
          ]
        ]
      ]

  pub back_split : split_of t N M u v ≡ h
  back_split = fun_ext (λ c. fun_ext (λ b. again c b))

  pub back_share : share t M u v ≡ others h N M
  unfolding share others
  back_share = count_cong M (λ c l. both c l)
