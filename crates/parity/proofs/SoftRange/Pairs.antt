-- The operations on floats, by their keys. Assumes nothing.
use mathlib.Core.Path.{◌≡◌, sym, ◌∙◌}
use mathlib.Core.Bool.{Bool, true, false, not, cond}
use Prim.Native.Nat.{ℕ, ◌+◌, ◌-◌, ◌≤◌, min, max}
use native.Mathlib.Decide.{dec_lt}
use native.Mathlib.Omega.{arith}
use lib.Dec.{eqb, ltb}
use borrow.Author.Tests.{eq-eqb, eqb-true, lt-ltb, le-ltb}
use lib.Ieee.{Float, binary32, lt, eq, neg, fits}
use Rattle.parity.proofs.Finite.Sums.{is_true, is_false, is}
use Rattle.parity.specs.Floats.{positive_zero, negative, plus_zero, magnitude, turned, lesser, finite}
use Rattle.parity.specs.SoftRange.{sends_for_two, greater}
use Rattle.parity.proofs.SoftRange.Clip.{clip, clip_sign}
use Rattle.parity.proofs.Soft.Exact.{fits_neg}
use Rattle.parity.proofs.Soft.Sound.{neg_finite}
use Rattle.parity.proofs.Soft.Fits.{zero_fit}
use Rattle.parity.proofs.Soft.Outcomes.{finite_zero}
use Rattle.parity.proofs.SoftRange.Keys.{bound, sign, key, size_bound, lt_key, key_of_zero, neg_key, zero_by_key, eq_key}

-- a finite 32-bit float
pub record Real (x : Float) : Type 0 where
  pub finite' : finite x ≡ true
  pub fits' : fits binary32 x ≡ true

pub real_of_zero : Real positive_zero
real_of_zero = record { finite' = finite_zero; fits' = zero_fit }

pub real_neg : {x : Float} → Real x → Real (neg x)
real_neg {x} R = record { finite' = neg_finite x R.finite'; fits' = fits_neg x R.fits' }

pub real_cond : (b : Bool) {x y : Float} → Real x → Real y → Real (cond b x y)
real_cond true R S = R
real_cond false R S = S

pub key_top : {x : Float} → Real x → key x ≤ bound + bound
key_top {x} R = elim (is (sign x)) [ is_true q ↦ rw q (omega arith) | is_false q ↦ rw q (omega (arith, size_bound x R.fits')) ]

pub lt_keys : {x y : Float} → Real x → Real y → lt x y ≡ ltb (key x) (key y)
lt_keys {x} {y} R S = lt_key x y R.finite' S.finite' R.fits' S.fits'

pub eq_keys : {x y : Float} → Real x → Real y → eq x y ≡ eqb (key x) (key y)
eq_keys {x} {y} R S = eq_key x y R.finite' S.finite' R.fits' S.fits'

pub key_neg : {x : Float} → Real x → key (neg x) ≡ bound + bound - key x
key_neg {x} R = omega (arith, neg_key x R.finite' R.fits')

pub real_zero : {x : Float} → Real x → Real (plus_zero x)
real_zero {x} R = real_cond (eq x positive_zero) real_of_zero R

zero_key_at : {x : Float} → Real x → eq x positive_zero ≡ true → key x ≡ bound
zero_key_at {x} R q = eqb-true (key x) bound (sym (zero_by_key x R.finite' R.fits') ∙ q)

pub key_zero : {x : Float} → Real x → key (plus_zero x) ≡ key x
key_zero {x} R = elim (is (eq x positive_zero)) [
  | is_true q ↦ rw q (key_of_zero ∙ sym (zero_key_at R q))
  | is_false q ↦ rw q
]

-- zero is plus zero already
zero_is_zero : eq positive_zero positive_zero ≡ true
zero_is_zero = zero_by_key positive_zero finite_zero zero_fit ∙ eq-eqb (key positive_zero) bound key_of_zero

pub zero_twice : (x : Float) → plus_zero (plus_zero x) ≡ plus_zero x
zero_twice x = elim (is (eq x positive_zero)) [ is_true q ↦ rw (q, zero_is_zero) | is_false q ↦ rw (q, q) ]

pub negative_key : {x : Float} → Real x → negative x ≡ ltb (key x) bound
negative_key {x} R = lt_keys R real_of_zero ∙ (rw key_of_zero)

pub real_magnitude : {x : Float} → Real x → Real (magnitude x)
real_magnitude {x} R = real_cond (negative x) (real_neg R) R

pub key_magnitude : {x : Float} → Real x → key (magnitude x) ≡ max (key x) (bound + bound - key x)
key_magnitude {x} R = elim (dec_lt (key x) bound) [
  | yes l ↦ rw (negative_key R, lt-ltb (key x) bound l) (key_neg R ∙ omega arith)
  | no n ↦ rw (negative_key R, le-ltb (key x) bound (omega arith)) (omega arith)
]

pub real_lesser : {a x : Float} → Real a → Real x → Real (lesser a x)
real_lesser {a} {x} R S = real_cond (lt x a) S R

pub key_lesser : {a x : Float} → Real a → Real x → key (lesser a x) ≡ min (key a) (key x)
key_lesser {a} {x} R S = elim (dec_lt (key x) (key a)) [
  | yes l ↦ rw (lt_keys S R, lt-ltb (key x) (key a) l) (omega arith)
  | no n ↦ rw (lt_keys S R, le-ltb (key x) (key a) (omega arith)) (omega arith)
]

pub real_greater : {a x : Float} → Real a → Real x → Real (greater a x)
real_greater {a} {x} R S = real_cond (lt a x) S R

pub key_greater : {a x : Float} → Real a → Real x → key (greater a x) ≡ max (key a) (key x)
key_greater {a} {x} R S = elim (dec_lt (key a) (key x)) [
  | yes l ↦ rw (lt_keys R S, lt-ltb (key a) (key x) l) (omega arith)
  | no n ↦ rw (lt_keys R S, le-ltb (key a) (key x) (omega arith)) (omega arith)
]

pub real_turned : (t : Bool) {x : Float} → Real x → Real (turned t x)
real_turned t R = real_zero (real_cond t (real_neg R) R)

pub key_turned : (t : Bool) {x : Float} → Real x → key (turned t x) ≡ cond t (bound + bound - key x) (key x)
key_turned true R = key_zero (real_neg R) ∙ key_neg R
key_turned false R = key_zero R

pub real_pair : {x y : Float} → Real x → Real y → Real (sends_for_two x y)
real_pair {x} {y} R S = real_turned (cond (negative x) (not (negative y)) (negative y)) (real_lesser (real_magnitude R) (real_magnitude S))

-- a sign and a distance from the bound
pub key_parts : {x : Float} → Real x → (a : ℕ) × (a ≤ bound) × (key x ≡ cond (negative x) (bound - a) (bound + a)) × (key (magnitude x) ≡ bound + a)
key_parts {x} R = elim (dec_lt (key x) bound) [
  | yes l ↦ (bound - key x, omega arith, rw (negative_key R, lt-ltb (key x) bound l) (omega arith), key_magnitude R ∙ omega arith)
  | no n ↦ (key x - bound, omega (arith, key_top R), rw (negative_key R, le-ltb (key x) bound (omega arith)) (omega arith), key_magnitude R ∙ omega (arith, key_top R))
]

pub key_pair : {x y : Float} → Real x → Real y → key (sends_for_two x y) ≡ clip bound (key x) (key y)
key_pair {x} {y} R S =
    let (a, ka, pa, qa) = key_parts R in
    let (b, kb, pb, qb) = key_parts S in
    key_turned (cond (negative x) (not (negative y)) (negative y)) (real_lesser (real_magnitude R) (real_magnitude S))
    ∙ (rw (key_lesser (real_magnitude R) (real_magnitude S), qa, qb) (signs (negative x) (negative y) a b ka kb))
    ∙ sym (clip_sign bound (key x) (key y) a b (negative x) (negative y) ka kb pa pb)
  where
    signs : (s t : Bool) (a b : ℕ) → a ≤ bound → b ≤ bound
        → cond (cond s (not t) t) (bound + bound - min (bound + a) (bound + b)) (min (bound + a) (bound + b))
        ≡ cond s (cond t (bound + min a b) (bound - min a b)) (cond t (bound - min a b) (bound + min a b))
    signs true true a b k l = omega arith
    signs true false a b k l = omega arith
    signs false true a b k l = omega arith
    signs false false a b k l = omega arith
