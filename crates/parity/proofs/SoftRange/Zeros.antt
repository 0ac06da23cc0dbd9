-- A zero of either sign is the same value: the call answers or refuses alike. Assumes nothing.
use mathlib.Core.Path.{◌≡◌, refl, sym, ap, ◌∙◌}
use mathlib.Core.Bool.{Bool, true, false, not, cond, ◌&&◌, and-eq-true_iff, true≢false}
use mathlib.Core.List.{List, [], ◌∷◌}
use Prim.Native.Nat.{ℕ, zero, suc, ◌+◌, ◌-◌, ◌<◌, max}
use native.Mathlib.Omega.{arith}
use lib.Dec.{eqb, ltb}
use lib.ListN.{get_or, length}
use borrow.Author.Tests.{eqb-true, eqb-false, not-true}
use lib.Ieee.{Float, nan, inf, fin, binary32, fits, eq, le, lt}
use Rattle.parity.specs.Finite.{any, least}
use Rattle.parity.specs.Causes.{Reply, answer, refusal, refuse}
use Rattle.parity.specs.Floats.{positive_zero, plus_zero, finite, magnitude, limit, too_large}
use Rattle.parity.specs.SoftRange.{sends_for_two, ends_at, combined, range_to, wrong_sizes, unfit, crossed, min_sum_range_reply, RangeOutcome, min_sum_range_outcome}
use Rattle.parity.specs.SoftRangePromises.{SameValues, ZerosAlike}
use Rattle.parity.specs.declared.Ends.{Ends}
use Rattle.parity.proofs.Finite.Sums.{is_true, is_false, is}
use Rattle.parity.proofs.Soft.Numbers.{zero_is}
use Rattle.parity.proofs.Finite.Firsts.{any_cong}
use Rattle.parity.proofs.Soft.Sound.{limit_finite}
use Rattle.parity.proofs.Soft.Fits.{limit_fit}
use Rattle.parity.proofs.Soft.Outcomes.{finite_zero}
use Rattle.parity.proofs.SoftRange.Keys.{bound, key, le_key, same_key}
use Rattle.parity.proofs.SoftRange.Pairs.{Real, lt_keys, key_zero, zero_twice, real_magnitude, key_magnitude, real_pair, key_pair}
use Rattle.parity.proofs.SoftRange.Law.{Proper, range_first, range_suc, range_real}
use Rattle.parity.proofs.SoftRange.Outcomes.{facts, low_finite_lem, high_finite_lem, proper}

-- ---- two floats that differ at most in the sign of a zero
zero_finite : (s : Bool) (x : Float) → finite x ≡ true → finite (cond s positive_zero x) ≡ true
zero_finite true x e = finite_zero
zero_finite false x e = e

finite_zeroed : (x : Float) → finite (plus_zero x) ≡ finite x
unfolding eq
finite_zeroed nan = refl
finite_zeroed (inf s) = rw zero_is
finite_zeroed (fin s m e) = zero_finite (eq (fin s m e) positive_zero) (fin s m e) refl

zero_kept : (x : Float) → finite x ≡ false → plus_zero x ≡ x
unfolding eq
zero_kept nan e = refl
zero_kept (inf s) e = rw zero_is
zero_kept (fin s m e) p = absurd (true≢false p)

record Keyed (x y : Float) : Type 0 where
  first : Real x
  second : Real y
  same : key x ≡ key y

keyed : (x y : Float) → fits binary32 x ≡ true → fits binary32 y ≡ true → plus_zero x ≡ plus_zero y → finite x ≡ true → Keyed x y
keyed x y f g q a =
    let p : finite x ≡ finite y = sym (finite_zeroed x) ∙ ap (λ (z : Float). finite z) q ∙ finite_zeroed y in
    let R : Real x = record { finite' = a; fits' = f } in
    let S : Real y = record { finite' = sym p ∙ a; fits' = g } in
    record { first = R; second = S; same = sym (key_zero R) ∙ ap (λ (z : Float). key z) q ∙ key_zero S }

level : (x y : Float) → Keyed x y → le (magnitude x) limit ≡ le (magnitude y) limit
level x y K =
    let R = real_magnitude K.first in
    let S = real_magnitude K.second in
    let m : key (magnitude x) ≡ key (magnitude y) = key_magnitude K.first ∙ ap (λ (k : ℕ). max k (bound + bound - k)) K.same ∙ sym (key_magnitude K.second) in
    le_key (magnitude x) limit R.finite' limit_finite R.fits' limit_fit
    ∙ ap (λ (k : ℕ). not (ltb (key limit) k)) m
    ∙ sym (le_key (magnitude y) limit S.finite' limit_finite S.fits' limit_fit)

large_same : (x y : Float) → fits binary32 x ≡ true → fits binary32 y ≡ true → plus_zero x ≡ plus_zero y → too_large x ≡ too_large y
large_same x y f g q = elim (is (finite x)) [
  | is_true a ↦ let K = keyed x y f g q a in rw (K.first.finite', K.second.finite', level x y K)
  | is_false a ↦
      let p : finite y ≡ false = sym (sym (finite_zeroed x) ∙ ap (λ (z : Float). finite z) q ∙ finite_zeroed y) ∙ a in
      let e : x ≡ y = sym (zero_kept x a) ∙ q ∙ zero_kept y p in
      rw e
]

below_same : (x x' y y' : Float) → Keyed x x' → Keyed y y' → lt x y ≡ lt x' y'
below_same x x' y y' K L = lt_keys K.first L.first ∙ (rw (K.same, L.same) (sym (lt_keys K.second L.second)))

pair_same : (x y y' : Float) → Real x → Keyed y y' → sends_for_two x y ≡ sends_for_two x y'
pair_same x y y' R K =
    let P = real_pair R K.first in
    let Q = real_pair R K.second in
    sym (zero_twice _)
    ∙ same_key (sends_for_two x y) (sends_for_two x y') P.finite' Q.finite' P.fits' Q.fits' (key_pair R K.first ∙ (rw K.same (sym (key_pair R K.second))))
    ∙ zero_twice _

combined_same : (a b b' : Ends) → Real a.low → Real a.high → Keyed b.low b'.low → Keyed b.high b'.high → combined a b ≡ combined a b'
combined_same a b b' R S K L =
    rw (
      pair_same a.low b.low b'.low R K,
      pair_same a.low b.high b'.high R L,
      pair_same a.high b.low b'.low S K,
      pair_same a.high b.high b'.high S L,
    )

-- ---- the reply
least_cong : (n : ℕ) (p q : ℕ → Bool) → ((i : ℕ) → i < n → p i ≡ q i) → least n p ≡ least n q
unfolding least
least_cong zero p q h = refl
least_cong (suc n) p q h = rw (any_cong n p q (λ i k. h i (omega arith)), least_cong n p q (λ i k. h i (omega arith)), h n (omega arith))

-- by the tests of its causes
abbrev reply_by : Bool → ℕ → (ℕ → Bool) → (ℕ → Bool) → (ℕ → Bool) → Reply
reply_by w n p q c =
    refuse w (refusal 10 [])
    (refuse (any n p) (refusal 23 (least n p ∷ []))
    (refuse (any n q) (refusal 23 (least n q ∷ []))
    (refuse (any n c) (refusal 24 (least n c ∷ []))
    (answer (cond (eqb n 0) 0 3 ∷ [])))))

reply_cong : (w : Bool) (n : ℕ) (p q c p' q' c' : ℕ → Bool) → ((i : ℕ) → i < n → p i ≡ p' i) → ((i : ℕ) → i < n → q i ≡ q' i)
    → (any n p ≡ false → any n q ≡ false → (i : ℕ) → i < n → c i ≡ c' i) → reply_by w n p q c ≡ reply_by w n p' q' c'
reply_cong w n p q c p' q' c' P Q C =
    let a = any_cong n p p' P in
    let b = any_cong n q q' Q in
    elim (is (any n p)) [
      | is_true e ↦ rw (e, sym a ∙ e, least_cong n p p' P)
      | is_false e ↦ elim (is (any n q)) [
        | is_true f ↦ rw (e, sym a ∙ e, f, sym b ∙ f, least_cong n q q' Q)
        | is_false f ↦ rw (e, sym a ∙ e, f, sym b ∙ f, any_cong n c c' (C e f), least_cong n c c' (C e f))
      ]
    ]

reply_by_lem : (lows highs : List Float) → min_sum_range_reply lows highs ≡ reply_by (wrong_sizes lows highs) (length lows) (unfit lows) (unfit highs) (crossed lows highs)
unfolding min_sum_range_reply
reply_by_lem lows highs = refl

unfit_same : (xs ys : List Float) → SameValues xs ys → (i : ℕ) → unfit xs i ≡ unfit ys i
unfolding unfit
unfit_same xs ys A i = large_same (get_or xs i nan) (get_or ys i nan) (A.floats i).0 (A.floats i).1 (A.values i)

crossed_same : (xs xs' ys ys' : List Float) (i : ℕ) → Keyed (get_or xs i nan) (get_or xs' i nan) → Keyed (get_or ys i nan) (get_or ys' i nan) → crossed xs ys i ≡ crossed xs' ys' i
unfolding crossed
crossed_same xs xs' ys ys' i K L = below_same (get_or ys i nan) (get_or ys' i nan) (get_or xs i nan) (get_or xs' i nan) L K

-- ---- the outcome
abbrev outcome_by : Reply → Bool → Ends → RangeOutcome
outcome_by r b e = record { reply = r; ends = cond b (e.low ∷ e.high ∷ []) [] }

abbrev gives : Reply → ℕ → Bool
gives r n = eqb r.number 0 && not (eqb n 0)

outcome_by_lem : (lows highs : List Float)
    → min_sum_range_outcome lows highs ≡ outcome_by (min_sum_range_reply lows highs) (gives (min_sum_range_reply lows highs) (length lows)) (range_to lows highs (length lows - 1))
unfolding min_sum_range_outcome
outcome_by_lem lows highs = refl

outcome_cong : (r : Reply) (b : Bool) (e e' : Ends) → (b ≡ true → e ≡ e') → outcome_by r b e ≡ outcome_by r b e'
outcome_cong r true e e' h = ap (outcome_by r true) (h refl)
outcome_cong r false e e' h = refl

module _ (lows highs lows' highs' : List Float) (A : SameValues lows lows') (B : SameValues highs highs') where
  low_keyed : (i : ℕ) → finite (get_or lows i nan) ≡ true → Keyed (get_or lows i nan) (get_or lows' i nan)
  low_keyed i a = keyed _ _ (A.floats i).0 (A.floats i).1 (A.values i) a

  high_keyed : (i : ℕ) → finite (get_or highs i nan) ≡ true → Keyed (get_or highs i nan) (get_or highs' i nan)
  high_keyed i a = keyed _ _ (B.floats i).0 (B.floats i).1 (B.values i) a

  reply_same : min_sum_range_reply lows highs ≡ min_sum_range_reply lows' highs'
  reply_same =
      reply_by_lem lows highs
      ∙ reply_cong (wrong_sizes lows highs) (length lows) (unfit lows) (unfit highs) (crossed lows highs) (unfit lows') (unfit highs') (crossed lows' highs')
      (λ i k. unfit_same lows lows' A i) (λ i k. unfit_same highs highs' B i)
      (λ e f i k. crossed_same lows lows' highs highs' i (low_keyed i (low_finite_lem lows highs e i k)) (high_keyed i (high_finite_lem lows highs f i k)))
      ∙ (rw (A.size, B.size) (sym (reply_by_lem lows' highs')))

  module _ (P : Proper lows highs) where
    ends_step : (i : ℕ) → suc i < length lows → range_to lows highs i ≡ range_to lows' highs' i → range_to lows highs (suc i) ≡ range_to lows' highs' (suc i)
    ends_step i k e =
        let R = range_real lows highs P i (omega arith) in
        range_suc lows highs i
        ∙ combined_same (range_to lows highs i) (ends_at lows highs (suc i)) (ends_at lows' highs' (suc i)) R.0 R.1 (low_keyed (suc i) (P.low_finite (suc i) k)) (high_keyed (suc i) (P.high_finite (suc i) k))
        ∙ ap (λ (a : Ends). combined a (ends_at lows' highs' (suc i))) e
        ∙ sym (range_suc lows' highs' i)

    ends_same : (i : ℕ) → i < length lows → range_to lows highs i ≡ range_to lows' highs' i
    ends_same zero k = range_first lows highs ∙ (rw (A.values 0, B.values 0) (sym (range_first lows' highs')))
    ends_same (suc i) k = ends_step i k (ends_same i (omega arith))

  range_same : gives (min_sum_range_reply lows highs) (length lows) ≡ true → range_to lows highs (length lows - 1) ≡ range_to lows' highs' (length lows - 1)
  range_same e =
      let (a, b) = (and-eq-true_iff (eqb (min_sum_range_reply lows highs).number 0) (not (eqb (length lows) 0))).0 e in
      let F = (facts lows highs (eqb-true _ 0 a)).0 in
      let s = eqb-false (length lows) 0 (not-true (eqb (length lows) 0) b) in
      let P = proper lows highs (λ i. (A.floats i).0) (λ i. (B.floats i).0) F (omega (arith, s)) in
      ends_same P (length lows - 1) (omega (arith, P.some))

pub zeros_alike : ZerosAlike
zeros_alike lows highs lows' highs' A B =
    outcome_by_lem lows highs
    ∙ outcome_cong (min_sum_range_reply lows highs) (gives (min_sum_range_reply lows highs) (length lows)) (range_to lows highs (length lows - 1)) (range_to lows' highs' (length lows - 1)) (range_same lows highs lows' highs' A B)
    ∙ (rw (reply_same lows highs lows' highs' A B, A.size) (sym (outcome_by_lem lows' highs')))
