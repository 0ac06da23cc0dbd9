-- `lt` orders the floats that are no NaN: it is asymmetric, and what lies below c lies below b or has b below c. Assumes nothing.
use mathlib.Core.Path.{◌≡◌, refl, sym, ap, ◌∙◌}
use mathlib.Core.Bool.{Bool, true, false, true≢false, false≢true}
use Prim.Native.Nat.{ℕ, ◌+◌, ◌*◌, ◌<◌}
use native.Mathlib.Nat.{mul_right_comm, add-mul, zero-mul, mul-lt-mul_of_pos_right, lt_of_mul-lt-mul_right}
use native.Mathlib.Decide.{dec_lt}
use native.Mathlib.Omega.{arith}
use lib.Dec.{ltb}
use borrow.Author.Tests.{ltb-true, ltb-false, lt-ltb, le-ltb}
use lib.Ieee.{Float, nan, inf, fin, up, down, below, lt, is_nan}
use lib.Ieee.Fits.{down_pos}

-- signs and magnitudes alone
below_asym : (s t : Bool) (a b : ℕ) → below s a t b ≡ true → below t b s a ≡ false
below_asym false false a b e = le-ltb b a (omega (arith, ltb-true a b e))
below_asym false true a b e = absurd (false≢true e)
below_asym true false a b e = refl
below_asym true true a b e = le-ltb a b (omega (arith, ltb-true b a e))

below_cotrans : (s t u : Bool) (a b c : ℕ) → below s a u c ≡ true → below s a t b ≡ false → below t b u c ≡ true
below_cotrans false false false a b c e f = lt-ltb b c (omega (arith, ltb-true a c e, ltb-false a b f))
below_cotrans false false true a b c e f = absurd (false≢true e)
below_cotrans false true false a b c e f = lt-ltb 0 (b + c) (omega (arith, ltb-true a c e))
below_cotrans false true true a b c e f = absurd (false≢true e)
below_cotrans true false false a b c e f = lt-ltb b c (omega (arith, ltb-true 0 (a + c) e, ltb-false 0 (a + b) f))
below_cotrans true false true a b c e f = absurd (omega (arith, ltb-true c a e, ltb-false 0 (a + b) f))
below_cotrans true true false a b c e f = lt-ltb 0 (b + c) (omega (arith, ltb-true 0 (a + c) e, ltb-false b a f))
below_cotrans true true true a b c e f = lt-ltb c b (omega (arith, ltb-true c a e, ltb-false b a f))

-- both magnitudes as many times
ltb_scaled : (a b d : ℕ) → 0 < d → ltb (a * d) (b * d) ≡ ltb a b
ltb_scaled a b d p =
    elim (dec_lt a b) [
      | yes l ↦ lt-ltb (a * d) (b * d) (mul-lt-mul_of_pos_right l p) ∙ sym (lt-ltb a b l)
      | no n ↦ elim (dec_lt (a * d) (b * d)) [
        | yes l ↦ absurd (n (lt_of_mul-lt-mul_right d l))
        | no m ↦ le-ltb (a * d) (b * d) (omega arith) ∙ sym (le-ltb a b (omega arith))
      ]
    ]

zero_scaled : (a b d : ℕ) → 0 < d → ltb 0 (a * d + b * d) ≡ ltb 0 (a + b)
zero_scaled a b d p = rw (← add-mul a b d) (ap (λ z. ltb z ((a + b) * d)) (sym (zero-mul d)) ∙ ltb_scaled 0 (a + b) d p)

pub below_scaled : (s t : Bool) (a b d : ℕ) → 0 < d → below s (a * d) t (b * d) ≡ below s a t b
below_scaled false false a b d p = ltb_scaled a b d p
below_scaled false true a b d p = refl
below_scaled true false a b d p = zero_scaled a b d p
below_scaled true true a b d p = ltb_scaled b a d p

-- three fractions, brought to one denominator
three : (s t u : Bool) (a b c e d g : ℕ) → 0 < e → 0 < d → 0 < g
    → below s (a * g) u (c * e) ≡ true → below s (a * d) t (b * e) ≡ false → below t (b * g) u (c * d) ≡ true
three s t u a b c e d g pe pd pg p q =
    let p' : below s (a * g * d) u (c * e * d) ≡ true = below_scaled s u (a * g) (c * e) d pd ∙ p in
    let q' : below s (a * g * d) t (b * g * e) ≡ false = rw (mul_right_comm a g d, mul_right_comm b g e) (below_scaled s t (a * d) (b * e) g pg ∙ q) in
    let r : below t (b * g * e) u (c * e * d) ≡ true = below_cotrans s t u (a * g * d) (b * g * e) (c * e * d) p' q' in
    sym (below_scaled t u (b * g) (c * d) e pe) ∙ (rw (mul_right_comm c d e) r)

pub lt_asym : (x y : Float) → lt x y ≡ true → lt y x ≡ false
unfolding lt
lt_asym nan y e = absurd (false≢true e)
lt_asym (inf s) nan e = refl
lt_asym (inf true) (inf true) e = refl
lt_asym (inf true) (inf false) e = refl
lt_asym (inf false) (inf t) e = absurd (false≢true e)
lt_asym (inf true) (fin t n d) e = refl
lt_asym (inf false) (fin t n d) e = absurd (false≢true e)
lt_asym (fin s m e) nan p = refl
lt_asym (fin s m e) (inf true) p = absurd (false≢true p)
lt_asym (fin s m e) (inf false) p = refl
lt_asym (fin s m e) (fin t n d) p = below_asym s t (m * up e * down d) (n * up d * down e) p

pub lt_cotrans : (x y z : Float) → is_nan y ≡ false → lt x z ≡ true → lt x y ≡ false → lt y z ≡ true
unfolding lt is_nan
lt_cotrans nan y z n p q = absurd (false≢true p)
lt_cotrans (inf s) nan z n p q = absurd (true≢false n)
lt_cotrans (inf s) (inf t) nan n p q = absurd (false≢true p)
lt_cotrans (inf true) (inf true) (inf true) n p q = absurd (false≢true p)
lt_cotrans (inf true) (inf true) (inf false) n p q = refl
lt_cotrans (inf true) (inf false) (inf u) n p q = absurd (true≢false q)
lt_cotrans (inf false) (inf t) (inf u) n p q = absurd (false≢true p)
lt_cotrans (inf true) (inf true) (fin u k g) n p q = refl
lt_cotrans (inf true) (inf false) (fin u k g) n p q = absurd (true≢false q)
lt_cotrans (inf false) (inf t) (fin u k g) n p q = absurd (false≢true p)
lt_cotrans (inf true) (fin t j d) z n p q = absurd (true≢false q)
lt_cotrans (inf false) (fin t j d) nan n p q = absurd (false≢true p)
lt_cotrans (inf false) (fin t j d) (inf u) n p q = absurd (false≢true p)
lt_cotrans (inf false) (fin t j d) (fin u k g) n p q = absurd (false≢true p)
lt_cotrans (fin s m e) nan z n p q = absurd (true≢false n)
lt_cotrans (fin s m e) (inf t) nan n p q = absurd (false≢true p)
lt_cotrans (fin s m e) (inf true) (inf true) n p q = absurd (false≢true p)
lt_cotrans (fin s m e) (inf true) (inf false) n p q = refl
lt_cotrans (fin s m e) (inf false) (inf u) n p q = absurd (true≢false q)
lt_cotrans (fin s m e) (inf true) (fin u k g) n p q = refl
lt_cotrans (fin s m e) (inf false) (fin u k g) n p q = absurd (true≢false q)
lt_cotrans (fin s m e) (fin t j d) nan n p q = absurd (false≢true p)
lt_cotrans (fin s m e) (fin t j d) (inf u) n p q = p
lt_cotrans (fin s m e) (fin t j d) (fin u k g) n p q =
    three s t u (m * up e) (j * up d) (k * up g) (down e) (down d) (down g) (down_pos e) (down_pos d) (down_pos g) p q
