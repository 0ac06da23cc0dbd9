-- A check's soft answer is exactly one input or its negation. Assumes nothing.
use mathlib.Core.Path.{◌≡◌, refl, sym, ap, ◌∙◌}
use mathlib.Core.Logic.{◌⊎◌, inl, inr}
use mathlib.Core.Bool.{Bool, true, false, cond, ◌&&◌, or-false, and-eq-true_iff, true≢false, false≢true}
use Prim.Native.Nat.{ℕ, zero, suc, ◌*◌, ◌^◌, ◌<◌}
use native.Mathlib.Nat.{mul-pos}
use native.Mathlib.Omega.{arith}
use lib.Dec.{eqb}
use lib.IntN.{ℤ, pos, negsuc}
use lib.Pow.{pow-lt}
use borrow.Author.Tests.{eqb-true}
use lib.Ieee.{Float, nan, inf, fin, binary32, up, down, neg, lt, eq, fits, of_bits}
use lib.Ieee.Fits.{up_pos}
use Rattle.parity.specs.Finite.{any}
use Rattle.parity.proofs.Finite.Sums.{is_true, is_false, is}
use Rattle.parity.specs.Floats.{positive_zero, negative, plus_zero, magnitude, turned, infinite, finite}
use Rattle.parity.specs.Soft.{is_erased, is_soft, least_with, least_soft, turns_odd, check_sends}
use Rattle.parity.specs.declared.Channel.{Channel}
use Rattle.parity.specs.declared.Channel.TheVariants.{Sure, Soft, Erased}
use Rattle.parity.proofs.Soft.Forms.{is_sure_lem, is_soft_lem, is_erased_lem, form, soft_same}
use Rattle.parity.proofs.Finite.Bools.{or_false_both}
use Rattle.parity.proofs.Soft.Numbers.{zero_is}
use Rattle.parity.proofs.Soft.Counts.{all_sure}

-- y is x or its negation
abbrev pub Either : Float → Float → Type 0
Either x y = (y ≡ x) ⊎ (y ≡ neg x)

pub neg_neg : (x : Float) → neg (neg x) ≡ x
unfolding neg
neg_neg nan = refl
neg_neg (inf true) = refl
neg_neg (inf false) = refl
neg_neg (fin true m e) = refl
neg_neg (fin false m e) = refl

either_neg : (x y : Float) → Either x y → Either x (neg y)
either_neg x y (inl e) = inr (ap neg e)
either_neg x y (inr e) = inl (ap neg e ∙ neg_neg x)

either_cond : (t : Bool) (x y z : Float) → Either x y → Either x z → Either x (cond t y z)
either_cond true x y z p q = p
either_cond false x y z p q = q

-- a 32-bit float that equals zero is a zero of either sign
power_one : (k : ℕ) → 2 ^ k * 1 ≡ 1 → k ≡ 0
power_one zero e = refl
power_one (suc k) e = absurd (omega (arith, pow-lt {i = 0} {j = suc k} (omega arith), e))

zero_only : (s : Bool) (m : ℕ) (e : ℤ) → fits binary32 (fin s m e) ≡ true → eq (fin s m e) (fin false 0 (pos 0)) ≡ true → fin s m e ≡ fin s 0 (pos 0)
unfolding fits eq
zero_only s zero (pos k) f q = ap (λ n. fin s 0 (pos n)) (power_one k (eqb-true (2 ^ k * 1) 1 f))
zero_only s zero (negsuc k) f q = absurd (omega (arith, pow-lt {i = 0} {j = suc k} (omega arith), eqb-true (1 * 2 ^ suc k) 1 f))
zero_only s (suc m) e f q =
    let (z, _) = (and-eq-true_iff (eqb (suc m * up e * 1) (0 * 1 * down e)) _).0 q in
    absurd (omega (arith, eqb-true (suc m * up e * 1) (0 * 1 * down e) z, mul-pos {m = suc m} {n = up e} (omega arith) (up_pos e)))

either_zero : (x y : Float) → fits binary32 y ≡ true → Either x y → Either x (plus_zero y)
either_zero x y f p = elim (is (eq y positive_zero)) [ is_true q ↦ rw q (zero y f q p) | is_false q ↦ rw q p ]
  where
    zero : (y : Float) → fits binary32 y ≡ true → eq y positive_zero ≡ true → Either x y → Either x positive_zero
    zero nan f q p = absurd (false≢true (unfold eq in q))
    zero (inf s) f q p = absurd (false≢true (unfold eq in (rw zero_is at q)))
    zero (fin s m e) f q p = signed s (rw (zero_only s m e f (rw zero_is at q)) at p)
      where
        signed : (s : Bool) → Either x (fin s 0 (pos 0)) → Either x positive_zero
        signed false r = rw zero_is r
        signed true r = rw zero_is (unfold neg in either_neg x (fin true 0 (pos 0)) r)

pub fits_neg : (x : Float) → fits binary32 x ≡ true → fits binary32 (neg x) ≡ true
unfolding fits neg
fits_neg nan e = refl
fits_neg (inf s) e = refl
fits_neg (fin s zero e) p = p
fits_neg (fin s (suc m) e) p = p

pub fits_either : (x y : Float) → fits binary32 x ≡ true → Either x y → fits binary32 y ≡ true
fits_either x y f (inl e) = rw e f
fits_either x y f (inr e) = rw e (fits_neg x f)

-- y is an input that passes, or its negation
pub record From (n : ℕ) (p : ℕ → Bool) (f : ℕ → Channel) (y : Float) : Type 0 where
  pub place : ℕ
  pub below : place < n
  pub passes : p place ≡ true
  pub input : Float
  pub is_input : f place ≡ Soft input
  pub either : Either input y

further : (n : ℕ) (p : ℕ → Bool) (f : ℕ → Channel) (y : Float) → From n p f y → From (suc n) p f y
further n p f y F = record { place = F.place; below = omega (arith, F.below); passes = F.passes; input = F.input; is_input = F.is_input; either = F.either }

magnitude_either : (x : Float) → Either x (magnitude x)
magnitude_either x = either_cond (negative x) x (neg x) x (inr refl) (inl refl)

pub below_infinite : (x : Float) → finite x ≡ true → lt (magnitude x) infinite ≡ true
below_infinite x e = elim (is (negative x)) [ is_true q ↦ rw q (turned_below x e) | is_false q ↦ rw q (self_below x e) ]
  where
    self_below : (x : Float) → finite x ≡ true → lt x infinite ≡ true
    self_below nan e = absurd (false≢true e)
    self_below (inf s) e = absurd (false≢true e)
    self_below (fin s m e) p = unfold lt of_bits in refl

    turned_below : (x : Float) → finite x ≡ true → lt (neg x) infinite ≡ true
    turned_below nan e = absurd (false≢true e)
    turned_below (inf s) e = absurd (false≢true e)
    turned_below (fin s m e) p = unfold lt of_bits neg in refl

abbrev pub softs : (ℕ → Bool) → (ℕ → Channel) → ℕ → Bool
softs p f i = p i && is_soft (f i)

none_least : (n : ℕ) (p : ℕ → Bool) (f : ℕ → Channel) → any n (softs p f) ≡ false → least_soft n p f ≡ infinite
unfolding least_soft any
none_least zero p f e = refl
none_least (suc n) p f e =
    let (e₁, e₂) = or_false_both (any n (softs p f)) (softs p f n) e in
    elim (is (p n)) [
      | is_false q ↦ rw q (none_least n p f e₁)
      | is_true q ↦ rw q (same (f n) (rw q at e₂) ∙ none_least n p f e₁)
    ]
  where
    same : (v : Channel) → is_soft v ≡ false → least_with (least_soft n p f) v ≡ least_soft n p f
    same (Sure b) e = refl
    same (Soft x) e = absurd (true≢false e)
    same Erased e = refl

least_step : (n : ℕ) (p : ℕ → Bool) (f : ℕ → Channel) → ((x : Float) → p n ≡ true → f n ≡ Soft x → finite x ≡ true)
    → (any n (softs p f) ≡ true → From n p f (least_soft n p f)) → any (suc n) (softs p f) ≡ true → From (suc n) p f (least_soft (suc n) p f)
unfolding least_soft any
least_step n p f S before e =
    let rec : any n (softs p f) ≡ true → From (suc n) p f (least_soft n p f) = λ q. further n p f _ (before q) in
    elim (is (p n)) [
      | is_false q ↦ rw q (rec (rw (q, or-false) at e))
      | is_true q ↦ rw q (elim (form (f n)) [
        | is_sure_lem b z ↦ rw z (rec (rw (q, z, or-false) at e))
        | is_erased_lem z ↦ rw z (rec (rw (q, z, or-false) at e))
        | is_soft_lem x z ↦ rw z (elim (is (lt (magnitude x) (least_soft n p f))) [
          | is_true l ↦ rw l record { place = n; below = omega arith; passes = q; input = x; is_input = z; either = magnitude_either x }
          | is_false l ↦ rw l (elim (is (any n (softs p f))) [
            | is_true a ↦ rec a
            | is_false a ↦ absurd (true≢false (sym (below_infinite x (S x q z)) ∙ (rw (none_least n p f a) at l)))
          ])
        ])
      ])
    ]

pub least_from : (n : ℕ) (p : ℕ → Bool) (f : ℕ → Channel) → ((i : ℕ) → i < n → p i ≡ true → (x : Float) → f i ≡ Soft x → finite x ≡ true)
    → any n (softs p f) ≡ true → From n p f (least_soft n p f)
least_from zero p f S e = absurd (false≢true (unfold any in e))
least_from (suc n) p f S e = least_step n p f (λ x q z. S n (omega arith) q x z) (least_from n p f (λ i k. S i (omega arith))) e

-- The law.
pub one_input : (n : ℕ) (p : ℕ → Bool) (f : ℕ → Channel) (y : Float)
    → ((i : ℕ) → i < n → p i ≡ true → (x : Float) → f i ≡ Soft x → (fits binary32 x ≡ true) × (finite x ≡ true))
    → check_sends n p f ≡ Soft y → From n p f y
unfolding check_sends
one_input n p f y S e =
    elim (is (any n (λ i. p i && is_erased (f i)))) [
      | is_true a ↦ absurd (never (rw a at e))
      | is_false a ↦ elim (is (any n (softs p f))) [
        | is_false b ↦ absurd (never' (rw (a, all_sure n p f a, b) at e))
        | is_true b ↦
            let F = least_from n p f (λ i k q x z. (S i k q x z).1) b in
            let g = (S F.place F.below F.passes F.input F.is_input).0 in
            let t = turns_odd n p f in
            let E = either_cond t F.input (neg (least_soft n p f)) (least_soft n p f) (either_neg F.input (least_soft n p f) F.either) F.either in
            let q : y ≡ turned t (least_soft n p f) = soft_same (rw (a, all_sure n p f a, b) at e) in
            record {
              place = F.place;
              below = F.below;
              passes = F.passes;
              input = F.input;
              is_input = F.is_input;
              either = rw q (either_zero F.input (cond t (neg (least_soft n p f)) (least_soft n p f)) (fits_either F.input _ g E) E);
            }
      ]
    ]
  where
    never : {y : Float} → Erased ≡ Soft y → ⊥
    never {y} e = let z : ◌≡◌ {A = ℕ} 0 1 = cc in omega arith

    never' : {y : Float} {b : Bool} → Sure b ≡ Soft y → ⊥
    never' {y} {b} e = let z : ◌≡◌ {A = ℕ} 0 1 = cc in omega arith
