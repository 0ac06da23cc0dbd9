-- What a bit and an even check send of values that are erased or right. Assumes nothing.
use mathlib.Core.Path.{◌≡◌, refl, sym, ◌∙◌}
use mathlib.Core.Bool.{Bool, true, false, not, ◌&&◌, ◌||◌, and-eq-true_iff, true≢false, false≢true}
use Prim.Native.Nat.{ℕ, zero, suc, ◌%◌, ◌<◌}
use native.Mathlib.Decide.{ℕ_discrete}
use native.Mathlib.Omega.{arith}
use Rattle.parity.specs.Finite.{count, any, all}
use Rattle.parity.specs.Matrix.{Matrix}
use Rattle.parity.specs.Words.{inside}
use Rattle.parity.proofs.Finite.Sums.{is_true, is_false, is, any_of, any_at, all_of, count_cong}
use Rattle.parity.proofs.Words.Extend.{odd_only}
use Rattle.parity.specs.Soft.{is_erased, is_sure, turns_sign, turns_odd, check_sends, with_next, gathered, settled, but}
use Rattle.parity.specs.declared.Channel.{Channel}
use Rattle.parity.specs.declared.Channel.TheVariants.{Sure, Erased}
use Rattle.parity.proofs.Soft.Counts.{but_at, but_other, count_but}

-- erased, or sure with the value y
pub data Right (y : Bool) : Channel → Type 0 where
  unknown : Right y Erased
  known : Right y (Sure y)

pub right_sure : {y : Bool} {v : Channel} → Right y v → is_erased v ≡ false → v ≡ Sure y
right_sure unknown e = absurd (true≢false e)
right_sure known e = refl

right_joined : {y : Bool} {v u : Channel} → Right y v → Right y u → Right y (with_next v u)
right_joined unknown r = r
right_joined known r = known

pub right_settled : {y : Bool} {v : Channel} → Right y v → Right y (settled v)
right_settled unknown = unknown
right_settled known = known

pub of_sure : {y : Bool} {v : Channel} → v ≡ Sure y → Right y v
of_sure e = rw e known

-- ---- a bit: values that are erased or right
module _ (y : Bool) (v : Channel) (R : Right y v) (f : ℕ → Channel) (p : ℕ → Bool) where
  pub gathered_right : (n : ℕ) → ((i : ℕ) → i < n → p i ≡ true → Right y (f i)) → Right y (gathered v n p f)
  unfolding gathered
  gathered_right zero S = R
  gathered_right (suc n) S = elim (is (p n)) [
    | is_true e ↦ rw e (right_joined (gathered_right n (λ i k. S i (omega arith))) (S n (omega arith) e))
    | is_false e ↦ rw e (gathered_right n (λ i k. S i (omega arith)))
  ]

  -- one sure value is enough
  pub gathered_sure : (n : ℕ) → ((i : ℕ) → i < n → p i ≡ true → Right y (f i)) → (i : ℕ) → i < n → p i ≡ true → f i ≡ Sure y → gathered v n p f ≡ Sure y
  unfolding gathered
  gathered_sure zero S i k e q = absurd (omega arith)
  gathered_sure (suc n) S i k e q = elim (ℕ_discrete i n) [
    | yes z ↦ rw (rw z at e, rw z at q) (last (gathered_right n (λ j l. S j (omega arith))))
    | no z ↦
        let g = gathered_sure n (λ j l. S j (omega arith)) i (omega arith) e q in
        elim (is (p n)) [ is_true t ↦ rw (t, g) | is_false t ↦ rw (t, g) ]
  ]
    where
      last : {u : Channel} → Right y u → with_next u (Sure y) ≡ Sure y
      last unknown = refl
      last known = refl

-- a sure channel value stays
pub sure_first : (y : Bool) (f : ℕ → Channel) (p : ℕ → Bool) (n : ℕ) → gathered (Sure y) n p f ≡ Sure y
unfolding gathered
sure_first y f p zero = refl
sure_first y f p (suc n) = elim (is (p n)) [ is_true e ↦ rw (e, sure_first y f p n) | is_false e ↦ rw (e, sure_first y f p n) ]

-- nothing but erased
pub all_erased : (f : ℕ → Channel) (p : ℕ → Bool) (n : ℕ) → ((i : ℕ) → i < n → p i ≡ true → f i ≡ Erased) → gathered Erased n p f ≡ Erased
unfolding gathered
all_erased f p zero S = refl
all_erased f p (suc n) S =
    let g = all_erased f p n (λ i k. S i (omega arith)) in
    elim (is (p n)) [ is_true e ↦ rw (e, g, S n (omega arith) e) | is_false e ↦ rw (e, g) ]

-- ---- a check that is even
module _ (h : Matrix) (N c : ℕ) (x : ℕ → Bool) (even : inside h N c x % 2 ≡ 0) (b : ℕ) (k : b < N) (hb : h c b ≡ true) (sent : ℕ → Channel) where
  -- its other bits
  abbrev others : ℕ → Bool
  others a = h c a && but b a

  -- one of them is erased
  pub check_erased : (a : ℕ) → a < N → (a ≡ b → ⊥) → h c a ≡ true → sent a ≡ Erased → check_sends N others sent ≡ Erased
  unfolding check_sends
  check_erased a l n ha e = rw (any_of N (λ i. others i && is_erased (sent i)) a l (rw (ha, but_other b a n, e)))

  -- all of them are sure, and right
  pub check_sure : ((a : ℕ) → a < N → (a ≡ b → ⊥) → h c a ≡ true → sent a ≡ Sure (x a)) → check_sends N others sent ≡ Sure (x b)
  unfolding check_sends turns_odd inside
  check_sure S =
      rw (none, sures, value)
    where
      at : (a : ℕ) → a < N → others a ≡ true → sent a ≡ Sure (x a)
      at a l e =
          let (e₁, e₂) = (and-eq-true_iff (h c a) (but b a)).0 e in
          S a l (λ z. true≢false (sym e₂ ∙ (rw z (but_at b)))) e₁

      none : any N (λ i. others i && is_erased (sent i)) ≡ false
      none = elim (is (any N (λ i. others i && is_erased (sent i)))) [
        | is_false e ↦ e
        | is_true e ↦
            let (a, l, q) = any_at N (λ i. others i && is_erased (sent i)) e in
            let (q₁, q₂) = (and-eq-true_iff (others a) (is_erased (sent a))).0 q in
            absurd (false≢true (rw (at a l q₁) at q₂))
      ]

      sures : all N (λ i. not (others i) || is_sure (sent i)) ≡ true
      sures = all_of N (λ i. not (others i) || is_sure (sent i)) (λ a l. elim (is (others a)) [ is_true e ↦ rw (e, at a l e) | is_false e ↦ rw e ])

      same : count N (λ i. others i && turns_sign (sent i)) ≡ count N (λ i. but b i && (h c i && x i))
      same = count_cong N (λ a l. elim (is (others a)) [
        | is_true e ↦
            let (e₁, e₂) = (and-eq-true_iff (h c a) (but b a)).0 e in
            rw (at a l e, e₁, e₂)
        | is_false e ↦ rw e (sym (swap (h c a) (but b a) (x a) e))
      ])
        where
          swap : (p q r : Bool) → p && q ≡ false → q && (p && r) ≡ false
          swap true true r e = absurd (true≢false e)
          swap true false r e = refl
          swap false true r e = refl
          swap false false r e = refl

      value : turns_odd N others sent ≡ x b
      value =
          let e = rw hb at (count_but N b (λ i. h c i && x i) k) in
          rw same (sym (odd_only (count N (λ i. but b i && (h c i && x i))) (x b) (omega (arith, e, even))))
