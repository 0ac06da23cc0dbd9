-- What a check and a bit send depends only on the values that are looked at, and not on bits that no check contains. Assumes nothing.
use mathlib.Core.Path.{◌≡◌, refl, sym, ap, ◌∙◌}
use mathlib.Core.Bool.{Bool, true, false, not, ◌&&◌, ◌||◌, or-false, and-true, and-eq-true_iff}
use Prim.Native.Nat.{ℕ, zero, suc, ◌+◌, ◌-◌, ◌<◌, ◌≤◌}
use native.Mathlib.Nat.{add-zero, zero-add}
use native.Mathlib.Omega.{arith}
use Rattle.parity.specs.Finite.{any, all}
use Rattle.parity.specs.Matrix.{Matrix}
use Rattle.parity.specs.Soft.{Messages, is_erased, is_sure, turns_sign, least_soft, turns_odd, check_sends, gathered, settled, bit_sends, but, to_bits, to_checks, sent_after, result_after}
use Rattle.parity.specs.declared.Channel.{Channel}
use Rattle.parity.proofs.Finite.Sums.{is_true, is_false, is, count_suc, count_cong}
use Rattle.parity.proofs.Finite.Firsts.{all_cong, any_cong}

-- ---- only the numbers below n count
least_cong : (n : ℕ) (p q : ℕ → Bool) (f g : ℕ → Channel) → ((i : ℕ) → i < n → p i ≡ q i) → ((i : ℕ) → i < n → f i ≡ g i) → least_soft n p f ≡ least_soft n q g
unfolding least_soft
least_cong zero p q f g e h = refl
least_cong (suc n) p q f g e h = rw (least_cong n p q f g (λ i k. e i (omega arith)) (λ i k. h i (omega arith)), e n (omega arith), h n (omega arith))

pub check_cong : (n : ℕ) (p q : ℕ → Bool) (f g : ℕ → Channel) → ((i : ℕ) → i < n → p i ≡ q i) → ((i : ℕ) → i < n → f i ≡ g i) → check_sends n p f ≡ check_sends n q g
unfolding check_sends turns_odd
check_cong n p q f g e h =
    rw (
      any_cong n (λ i. p i && is_erased (f i)) (λ i. q i && is_erased (g i)) (λ i k. rw (e i k, h i k)),
      all_cong n {p = λ i. not (p i) || is_sure (f i)} {q = λ i. not (q i) || is_sure (g i)} (λ i k. rw (e i k, h i k)),
      count_cong n {p = λ i. p i && turns_sign (f i)} {q = λ i. q i && turns_sign (g i)} (λ i k. rw (e i k, h i k)),
      least_cong n p q f g e h,
    )

-- only the places below n count
pub gathered_cong : (v : Channel) (n : ℕ) (p q : ℕ → Bool) (f g : ℕ → Channel) → ((i : ℕ) → i < n → p i ≡ q i) → ((i : ℕ) → i < n → f i ≡ g i)
    → gathered v n p f ≡ gathered v n q g
unfolding gathered
gathered_cong v zero p q f g e h = refl
gathered_cong v (suc n) p q f g e h = rw (e n (omega arith), h n (omega arith), gathered_cong v n p q f g (λ i k. e i (omega arith)) (λ i k. h i (omega arith)))

-- only those that pass count
pub gathered_at : (v : Channel) (n : ℕ) (p : ℕ → Bool) (f g : ℕ → Channel) → ((i : ℕ) → i < n → p i ≡ true → f i ≡ g i) → gathered v n p f ≡ gathered v n p g
unfolding gathered
gathered_at v zero p f g h = refl
gathered_at v (suc n) p f g h =
    let q = gathered_at v n p f g (λ i k. h i (omega arith)) in
    elim (is (p n)) [ is_true e ↦ rw (e, h n (omega arith) e, q) | is_false e ↦ rw (e, q) ]

-- ---- only those that pass count
least_at' : (n : ℕ) (p : ℕ → Bool) (f g : ℕ → Channel) → ((i : ℕ) → i < n → p i ≡ true → f i ≡ g i) → least_soft n p f ≡ least_soft n p g
unfolding least_soft
least_at' zero p f g h = refl
least_at' (suc n) p f g h =
    let q = least_at' n p f g (λ i k. h i (omega arith)) in
    elim (is (p n)) [ is_true e ↦ rw (e, h n (omega arith) e, q) | is_false e ↦ rw (e, q) ]

pub check_at' : (n : ℕ) (p : ℕ → Bool) (f g : ℕ → Channel) → ((i : ℕ) → i < n → p i ≡ true → f i ≡ g i) → check_sends n p f ≡ check_sends n p g
unfolding check_sends turns_odd
check_at' n p f g h =
    rw (
      any_cong n (λ i. p i && is_erased (f i)) (λ i. p i && is_erased (g i)) (λ i k. elim (is (p i)) [ is_true e ↦ rw (e, h i k e) | is_false e ↦ rw e ]),
      all_cong n {p = λ i. not (p i) || is_sure (f i)} {q = λ i. not (p i) || is_sure (g i)} (λ i k. elim (is (p i)) [ is_true e ↦ rw (e, h i k e) | is_false e ↦ rw e ]),
      count_cong n {p = λ i. p i && turns_sign (f i)} {q = λ i. p i && turns_sign (g i)} (λ i k. elim (is (p i)) [ is_true e ↦ rw (e, h i k e) | is_false e ↦ rw e ]),
      least_at' n p f g h,
    )

-- ---- bits that no check has do not count
check_suc : (n : ℕ) (p : ℕ → Bool) (f : ℕ → Channel) → p n ≡ false → check_sends (suc n) p f ≡ check_sends n p f
unfolding check_sends turns_odd any all least_soft
check_suc n p f e = rw (count_suc n (λ i. p i && turns_sign (f i)), e, or-false, and-true, add-zero)

check_end : (d n : ℕ) (p : ℕ → Bool) (f : ℕ → Channel) → ((i : ℕ) → n ≤ i → p i ≡ false) → check_sends (d + n) p f ≡ check_sends n p f
check_end zero n p f e = ap (λ z. check_sends z p f) (zero-add n)
check_end (suc d) n p f e = ap (λ z. check_sends z p f) (shift d n) ∙ check_suc (d + n) p f (e (d + n) (omega arith)) ∙ check_end d n p f e
  where
    shift : (d n : ℕ) → suc d + n ≡ suc (d + n)
    shift d n = omega arith

module _ (h : Matrix) (N M : ℕ) (k : N ≤ 512) (out : (c b : ℕ) → N ≤ b → h c b ≡ false) (channel : ℕ → Channel) where
  heard_same : (m m' : Messages) (c b : ℕ) → ((a : ℕ) → a < 512 → h c a ≡ true → m c a ≡ m' c a) → to_bits h 512 m c b ≡ to_bits h N m' c b
  unfolding to_bits
  heard_same m m' c b e =
      let p : ℕ → Bool = λ a. h c a && but b a in
      let l : 512 - N + N ≡ 512 = omega arith in
      check_at' 512 p (m c) (m' c) (λ a i t. e a i ((and-eq-true_iff (h c a) (but b a)).0 t).0)
      ∙ ap (λ z. check_sends z p (m' c)) (sym l) ∙ check_end (512 - N) N p (m' c) (λ i j. rw (out c i j))

  sent_same : (r c b : ℕ) → sent_after h 512 M channel r c b ≡ sent_after h N M channel r c b
  unfolding sent_after to_checks bit_sends
  sent_same zero c b = refl
  sent_same (suc r) c b =
      ap settled (gathered_at (channel b) M (λ d. h d b && but c d) (λ d. to_bits h 512 (sent_after h 512 M channel r) d b) (λ d. to_bits h N (sent_after h N M channel r) d b)
      (λ d i t. heard_same (sent_after h 512 M channel r) (sent_after h N M channel r) d b (λ a j e. sent_same r d a)))

  -- The result is that of n + k bits.
  pub result_same : (r b : ℕ) → result_after h 512 M channel r b ≡ result_after h N M channel r b
  unfolding result_after bit_sends
  result_same r b =
      ap settled (gathered_at (channel b) M (λ d. h d b) (λ d. to_bits h 512 (sent_after h 512 M channel (r - 1)) d b) (λ d. to_bits h N (sent_after h N M channel (r - 1)) d b)
      (λ d i t. heard_same (sent_after h 512 M channel (r - 1)) (sent_after h N M channel (r - 1)) d b (λ a j e. sent_same (r - 1) d a)))
