-- Finite 32-bit floats by their order: a number for each, so that comparing floats is comparing numbers. Assumes nothing.
use mathlib.Core.Path.{◌≡◌, refl, sym, ap, ◌∙◌}
use mathlib.Core.Bool.{Bool, true, false, not, cond, ◌&&◌, and-false, and-eq-true_iff, false≢true}
use Prim.Native.Nat.{ℕ, zero, suc, ◌+◌, ◌-◌, ◌*◌, ◌/◌, ◌%◌, ◌^◌, ◌<◌, ◌≤◌, zero-le}
use native.Mathlib.Nat.{mul_assoc, mul_comm, mul_left_comm, mul-div_cancel, mul-pos, mul-le-mul_right, le_trans, le_of_eq, le_of_lt, zero-mul, mul-zero}
use native.Mathlib.Decide.{ℕ_discrete, dec_le, dec_lt}
use native.Mathlib.Omega.{arith}
use lib.Dec.{T, eqb, ltb, leb}
use lib.IntN.{ℤ, pos, negsuc}
use lib.Pow.{pow-add, pow_pos, pow-lt}
use borrow.Author.Tests.{eq-eqb, ne_eqb, eqb-true, ltb-true, leb-true, lt-ltb, le-ltb}
use lib.Ieee.{Float, nan, inf, fin, binary32, up, down, below, level, lt, eq, le, fits, neg, of_bits, to_bits}
use lib.Ieee.Fits.{down_pos}
use lib.Ieee.Bits.{of_bits-to_bits}
use Rattle.parity.proofs.Finite.Sums.{is_true, is_false, is}
use Rattle.parity.specs.Floats.{positive_zero, plus_zero, finite}
use Rattle.parity.proofs.Soft.Order.{below_scaled, lt_asym}
use Rattle.parity.proofs.Soft.Numbers.{zero_is}
use Rattle.parity.proofs.Soft.Fits.{zero_fit}
use Rattle.parity.proofs.Soft.Outcomes.{finite_zero}

-- 2 ^ L is a multiple of each lower power
power_div : (L j : ℕ) → j ≤ L → 2 ^ j * (2 ^ L / 2 ^ j) ≡ 2 ^ L
power_div L j k =
    let e : 2 ^ L ≡ 2 ^ (L - j) * 2 ^ j = ap (λ n. 2 ^ n) (parts L j k) ∙ pow-add 2 (L - j) j in
    let q : 2 ^ L / 2 ^ j ≡ 2 ^ (L - j) = ap (λ n. n / 2 ^ j) e ∙ mul-div_cancel (2 ^ (L - j)) (pow_pos j) in
    rw q (mul_comm (2 ^ j) (2 ^ (L - j)) ∙ sym e)
  where
    parts : (L j : ℕ) → j ≤ L → L ≡ L - j + j
    parts L j k = omega arith

power_le : (i j : ℕ) → 2 ^ i ≤ 2 ^ j → i ≤ j
power_le i j k = elim (dec_le i j) [ yes l ↦ l | no n ↦ absurd (omega (arith, pow-lt {i = j} {j = i} (omega arith))) ]

-- the smallest float is 1 / unit, and no float reaches bound / unit
pub unit : ℕ
unit = 2 ^ 149

pub bound : ℕ
unfolding unit
bound = 2 ^ 128 * unit

abbrev pub part : ℤ → ℕ
part e = unit / down e

-- a float's size, in units of the smallest
abbrev pub size : Float → ℕ
size nan = 0
size (inf s) = 0
size (fin s m e) = m * up e * part e

whole_part : (k : ℕ) → down (pos k) * part (pos k) ≡ unit
unfolding unit
whole_part k = power_div 149 0 (omega arith)

pub fits_part : (s : Bool) (m : ℕ) (e : ℤ) → fits binary32 (fin s m e) ≡ true → down e * part e ≡ unit
unfolding fits unit
fits_part s zero (pos k) f = whole_part k
fits_part s zero (negsuc k) f = absurd (omega (arith, pow-lt {i = 0} {j = suc k} (omega arith), eqb-true (1 * 2 ^ suc k) 1 f))
fits_part s (suc m) (pos k) f = whole_part k
fits_part s (suc m) (negsuc k) f =
    let (a, b) = (and-eq-true_iff (eqb (suc m % 2) 1 && ltb (suc m) (2 ^ 24) && leb (2 ^ suc k) (2 ^ 149)) _).0 f in
    let (c, d) = (and-eq-true_iff (eqb (suc m % 2) 1 && ltb (suc m) (2 ^ 24)) (leb (2 ^ suc k) (2 ^ 149))).0 a in
    power_div 149 (suc k) (power_le (suc k) 149 (leb-true (2 ^ suc k) (2 ^ 149) d))

bound_is : bound ≡ 2 ^ 128 * unit
unfolding bound
bound_is = refl

-- the size of a float that fits is below the bound
size_suc : (s : Bool) (m : ℕ) (e : ℤ) → fits binary32 (fin s (suc m) e) ≡ true → suc m * up e * part e ≤ 2 ^ 128 * unit
unfolding fits
size_suc s m e f =
    let (a, b) = (and-eq-true_iff (eqb (suc m % 2) 1 && ltb (suc m) (2 ^ 24) && leb (down e) (2 ^ 149)) _).0 f in
    let l : suc m * up e < 2 ^ 128 * down e = ltb-true (suc m * up e) (2 ^ 128 * down e) b in
    let g : suc m * up e * part e ≤ 2 ^ 128 * down e * part e = mul-le-mul_right (part e) (le_of_lt l) in
    le_trans g (le_of_eq (mul_assoc (2 ^ 128) (down e) (part e) ∙ ap (λ n. 2 ^ 128 * n) (fits_part s (suc m) e f)))

pub size_bound : (x : Float) → fits binary32 x ≡ true → size x ≤ bound
size_bound nan f = zero-le
size_bound (inf s) f = zero-le
size_bound (fin s zero e) f = rw (zero-mul (up e), zero-mul (part e)) zero-le
size_bound (fin s (suc m) e) f = rw bound_is (size_suc s m e f)

-- order by sign and size
below_size : (s t : Bool) (a b d e p q u : ℕ) → 0 < p → 0 < q → 0 < u → e * p ≡ u → d * q ≡ u
    → below s (a * d) t (b * e) ≡ below s (a * p) t (b * q)
below_size s t a b d e p q u P Q U ep dq =
    let l : a * d * (q * p) ≡ a * p * u = product a d q p ∙ ap (λ n. a * p * n) dq in
    let r : b * e * (q * p) ≡ b * q * u = ap (λ n. b * e * n) (mul_comm q p) ∙ product b e p q ∙ ap (λ n. b * q * n) ep in
    sym (below_scaled s t (a * d) (b * e) (q * p) (mul-pos Q P)) ∙ (rw (l, r) (below_scaled s t (a * p) (b * q) u U))
  where
    product : (a d q p : ℕ) → a * d * (q * p) ≡ a * p * (d * q)
    product a d q p = simp (mul_assoc, mul_comm, mul_left_comm)

unit_pos : 0 < unit
unfolding unit
unit_pos = pow_pos 149

part_pos : (d p u : ℕ) → d * p ≡ u → 0 < u → 0 < p
part_pos d zero u e k = absurd (omega (arith, e, mul-zero d))
part_pos d (suc p) u e k = omega arith

-- ---- the key: floats in order
abbrev pub sign : Float → Bool
sign nan = false
sign (inf s) = s
sign (fin s m e) = s

abbrev pub key : Float → ℕ
key x = cond (sign x) (bound - size x) (bound + size x)

ltb_same : (a b c d : ℕ) → (a < b → c < d) → (c < d → a < b) → ltb a b ≡ ltb c d
ltb_same a b c d f g = elim (dec_lt a b) [
  | yes l ↦ lt-ltb a b l ∙ sym (lt-ltb c d (f l))
  | no n ↦ elim (dec_lt c d) [ yes l ↦ absurd (n (g l)) | no m ↦ le-ltb a b (omega arith) ∙ sym (le-ltb c d (omega arith)) ]
]

below_key : (s t : Bool) (a b B : ℕ) → a ≤ B → b ≤ B → below s a t b ≡ ltb (cond s (B - a) (B + a)) (cond t (B - b) (B + b))
below_key false false a b B k l = ltb_same a b (B + a) (B + b) (λ h. omega arith) (λ h. omega arith)
below_key false true a b B k l = sym (le-ltb (B + a) (B - b) (omega arith))
below_key true false a b B k l = ltb_same 0 (a + b) (B - a) (B + b) (λ h. omega arith) (λ h. omega arith)
below_key true true a b B k l = ltb_same b a (B - a) (B - b) (λ h. omega arith) (λ h. omega arith)

pub lt_key : (x y : Float) → finite x ≡ true → finite y ≡ true → fits binary32 x ≡ true → fits binary32 y ≡ true → lt x y ≡ ltb (key x) (key y)
unfolding lt
lt_key nan y a b f g = absurd (false≢true a)
lt_key (inf s) y a b f g = absurd (false≢true a)
lt_key (fin s m e) nan a b f g = absurd (false≢true b)
lt_key (fin s m e) (inf t) a b f g = absurd (false≢true b)
lt_key (fin s m e) (fin t n d) a b f g =
    let p = fits_part s m e f in
    let q = fits_part t n d g in
    below_size s t (m * up e) (n * up d) (down d) (down e) (part e) (part d) unit (part_pos (down e) (part e) unit p unit_pos) (part_pos (down d) (part d) unit q unit_pos) unit_pos p q
    ∙ below_key s t (m * up e * part e) (n * up d * part d) bound (size_bound (fin s m e) f) (size_bound (fin t n d) g)

-- ---- the other comparisons
level_below : (s t : Bool) (a b : ℕ) → level s a t b ≡ not (below s a t b) && not (below t b s a)
level_below false false a b = tri a b
  where
    tri : (a b : ℕ) → eqb a b && true ≡ not (ltb a b) && not (ltb b a)
    tri a b = elim (ℕ_discrete a b) [
      | yes q ↦ rw (eq-eqb a b q, le-ltb a b (omega arith), le-ltb b a (omega arith))
      | no n ↦ rw (ne_eqb a b n) (elim (dec_lt a b) [ yes l ↦ rw (lt-ltb a b l) | no m ↦ rw (le-ltb a b (omega arith), lt-ltb b a (omega arith)) ])
    ]
level_below false true a b = elim (ℕ_discrete (a + b) 0) [
  | yes q ↦ rw (eq-eqb a b (omega arith), eq-eqb a 0 (omega arith), le-ltb 0 (b + a) (omega arith))
  | no n ↦ rw (lt-ltb 0 (b + a) (omega arith)) (elim (ℕ_discrete a 0) [ yes z ↦ rw (ne_eqb a b (λ y. omega arith)) | no z ↦ rw (ne_eqb a 0 z, and-false) ])
]
level_below true false a b = elim (ℕ_discrete (a + b) 0) [
  | yes q ↦ rw (eq-eqb a b (omega arith), eq-eqb a 0 (omega arith), le-ltb 0 (a + b) (omega arith))
  | no n ↦ rw (lt-ltb 0 (a + b) (omega arith)) (elim (ℕ_discrete a 0) [ yes z ↦ rw (ne_eqb a b (λ y. omega arith)) | no z ↦ rw (ne_eqb a 0 z, and-false) ])
]
level_below true true a b = elim (ℕ_discrete a b) [
  | yes q ↦ rw (eq-eqb a b q, le-ltb a b (omega arith), le-ltb b a (omega arith))
  | no n ↦ rw (ne_eqb a b n) (elim (dec_lt a b) [ yes l ↦ rw (lt-ltb a b l, le-ltb b a (omega arith)) | no m ↦ rw (le-ltb a b (omega arith), lt-ltb b a (omega arith)) ])
]

pub eq_lt : (x y : Float) → finite x ≡ true → finite y ≡ true → eq x y ≡ not (lt x y) && not (lt y x)
unfolding eq lt
eq_lt nan y a b = absurd (false≢true a)
eq_lt (inf s) y a b = absurd (false≢true a)
eq_lt (fin s m e) nan a b = absurd (false≢true b)
eq_lt (fin s m e) (inf t) a b = absurd (false≢true b)
eq_lt (fin s m e) (fin t n d) a b = level_below s t (m * up e * down d) (n * up d * down e)

pub le_lt : (x y : Float) → finite x ≡ true → finite y ≡ true → le x y ≡ not (lt y x)
unfolding le
le_lt x y a b = elim (is (lt x y)) [
  | is_true p ↦ rw (p, lt_asym x y p)
  | is_false p ↦ rw (p, eq_lt x y a b, p)
]

pub le_key : (x y : Float) → finite x ≡ true → finite y ≡ true → fits binary32 x ≡ true → fits binary32 y ≡ true → le x y ≡ not (ltb (key y) (key x))
le_key x y a b f g = le_lt x y a b ∙ ap not (lt_key y x b a g f)

-- ---- zero, negation
pub key_of_zero : key positive_zero ≡ bound
key_of_zero = rw zero_is (omega (arith, zero-mul (part (pos 0))))

pub neg_key : (x : Float) → finite x ≡ true → fits binary32 x ≡ true → key (neg x) + key x ≡ bound + bound
unfolding neg
neg_key nan a f = absurd (false≢true a)
neg_key (inf s) a f = absurd (false≢true a)
neg_key (fin true m e) a f = omega (arith, size_bound (fin true m e) f)
neg_key (fin false m e) a f = omega (arith, size_bound (fin false m e) f)

-- ---- a float that fits is told by its sign and size
pattern_size : (s : Bool) (m : ℕ) (e : ℤ) → fits binary32 (fin s m e) ≡ true → m * up e * 2 ^ 149 / down e ≡ size (fin s m e)
unfolding unit
pattern_size s m e f =
    let q : m * up e * 2 ^ 149 ≡ m * up e * part e * down e =
    ap (λ n. m * up e * n) (sym (fits_part s m e f) ∙ mul_comm (down e) (part e)) ∙ sym (mul_assoc (m * up e) (part e) (down e)) in
    rw q (mul-div_cancel (m * up e * part e) (down_pos e))

same_bits : (s : Bool) (m n : ℕ) (e d : ℤ) → fits binary32 (fin s m e) ≡ true → fits binary32 (fin s n d) ≡ true → size (fin s m e) ≡ size (fin s n d)
    → to_bits binary32 (fin s m e) ≡ to_bits binary32 (fin s n d)
unfolding to_bits
same_bits s m n e d f g q = rw (pattern_size s m e f ∙ q ∙ sym (pattern_size s n d g))

holds : (b : Bool) → b ≡ true → T b
holds true e = tt
holds false e = absurd (false≢true e)

same_float : (s : Bool) (m n : ℕ) (e d : ℤ) → fits binary32 (fin s m e) ≡ true → fits binary32 (fin s n d) ≡ true → size (fin s m e) ≡ size (fin s n d) → fin s m e ≡ fin s n d
same_float s m n e d f g q =
    sym (of_bits-to_bits binary32 (fin s m e) (holds _ f)) ∙ ap (of_bits binary32) (same_bits s m n e d f g q) ∙ of_bits-to_bits binary32 (fin s n d) (holds _ g)

pub eq_key : (x y : Float) → finite x ≡ true → finite y ≡ true → fits binary32 x ≡ true → fits binary32 y ≡ true → eq x y ≡ eqb (key x) (key y)
eq_key x y a b f g = eq_lt x y a b ∙ (rw (lt_key x y a b f g, lt_key y x b a g f) (tri (key x) (key y)))
  where
    tri : (a b : ℕ) → not (ltb a b) && not (ltb b a) ≡ eqb a b
    tri a b = elim (ℕ_discrete a b) [
      | yes q ↦ rw (eq-eqb a b q, le-ltb a b (omega arith), le-ltb b a (omega arith))
      | no n ↦ rw (ne_eqb a b n) (elim (dec_lt a b) [ yes l ↦ rw (lt-ltb a b l) | no m ↦ rw (le-ltb a b (omega arith), lt-ltb b a (omega arith)) ])
    ]

pub zero_by_key : (x : Float) → finite x ≡ true → fits binary32 x ≡ true → eq x positive_zero ≡ eqb (key x) bound
zero_by_key x a f = eq_key x positive_zero a finite_zero f zero_fit ∙ ap (eqb (key x)) key_of_zero

-- floats with one key are the same, but for a zero's sign
pub same_key : (x y : Float) → finite x ≡ true → finite y ≡ true → fits binary32 x ≡ true → fits binary32 y ≡ true → key x ≡ key y → plus_zero x ≡ plus_zero y
same_key x y a b f g q =
    elim (ℕ_discrete (key x) bound) [
      | yes z ↦ rw (zero_by_key x a f, zero_by_key y b g, eq-eqb (key x) bound z, eq-eqb (key y) bound (sym q ∙ z))
      | no n ↦ rw (zero_by_key x a f, zero_by_key y b g, ne_eqb (key x) bound n, ne_eqb (key y) bound (λ z. n (q ∙ z))) (go x y a b f g q n)
    ]
  where
    go : (x y : Float) → finite x ≡ true → finite y ≡ true → fits binary32 x ≡ true → fits binary32 y ≡ true → key x ≡ key y → (key x ≡ bound → ⊥) → x ≡ y
    go nan y a b f g q n = absurd (false≢true a)
    go (inf s) y a b f g q n = absurd (false≢true a)
    go (fin s m e) nan a b f g q n = absurd (false≢true b)
    go (fin s m e) (inf t) a b f g q n = absurd (false≢true b)
    go (fin true m e) (fin true j d) a b f g q n = same_float true m j e d f g (omega (arith, size_bound (fin true m e) f, size_bound (fin true j d) g, q))
    go (fin true m e) (fin false j d) a b f g q n = absurd (n (omega (arith, size_bound (fin true m e) f, q)))
    go (fin false m e) (fin true j d) a b f g q n = absurd (n (omega (arith, size_bound (fin true j d) g, q)))
    go (fin false m e) (fin false j d) a b f g q n = same_float false m j e d f g (omega (arith, q))
