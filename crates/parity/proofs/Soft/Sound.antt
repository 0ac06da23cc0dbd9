-- Soft messages stay numbers: what a check sends, and what a bit sends. Assumes nothing.
use mathlib.Core.Path.{◌≡◌, refl, ap}
use mathlib.Core.Logic.{inl, inr}
use mathlib.Core.Bool.{Bool, true, false, not, cond, ◌&&◌, beq, true≢false, false≢true}
use Prim.Native.Nat.{ℕ, zero, suc, ◌+◌, ◌-◌, ◌*◌, ◌^◌, ◌<◌}
use native.Mathlib.Omega.{arith}
use borrow.Author.Tests.{not-true}
use lib.Dec.{ltb}
use lib.Ieee.{Float, nan, inf, fin, binary32, Format, prec, emax, low, add, sum, round, units, odd, neg, lt, eq, is_nan, up, down, le, of_bits}
use Rattle.parity.specs.Finite.{any}
use Rattle.parity.proofs.Finite.Sums.{is_true, is_false, is}
use Rattle.parity.specs.Floats.{positive_zero, limit, negative_limit, plus_zero, magnitude, turned, cut, finite}
use Rattle.parity.specs.Soft.{is_erased, least_soft, turns_odd, check_sends, with_next, gathered, settled, bit_sends, sound}
use Rattle.parity.specs.declared.Channel.{Channel}
use Rattle.parity.specs.declared.Channel.TheVariants.{Sure, Soft, Erased}
use Rattle.parity.proofs.Soft.Numbers.{zero_is, limit_is, lower_is}
use Rattle.parity.proofs.Soft.Counts.{all_sure}
use Rattle.parity.proofs.Soft.Exact.{Either, softs, least_from}

-- ---- a check
pub neg_finite : (x : Float) → finite x ≡ true → finite (neg x) ≡ true
unfolding neg
neg_finite nan e = e
neg_finite (inf s) e = e
neg_finite (fin s m e) p = refl

zero_finite : (x : Float) → finite x ≡ true → finite (plus_zero x) ≡ true
zero_finite x e = elim (is (eq x positive_zero)) [ is_true q ↦ rw (q, zero_is) | is_false q ↦ rw q e ]

either_finite : (x y : Float) → finite x ≡ true → Either x y → finite y ≡ true
either_finite x y e (inl q) = rw q e
either_finite x y e (inr q) = rw q (neg_finite x e)

turned_finite : (t : Bool) (x : Float) → finite x ≡ true → finite (turned t x) ≡ true
turned_finite true x e = zero_finite (neg x) (neg_finite x e)
turned_finite false x e = zero_finite x e

pub sound_soft : (v : Channel) (x : Float) → sound v ≡ true → v ≡ Soft x → finite x ≡ true
sound_soft v x s e = rw e at s

pub check_sound : (n : ℕ) (p : ℕ → Bool) (f : ℕ → Channel) → ((i : ℕ) → i < n → p i ≡ true → sound (f i) ≡ true) → sound (check_sends n p f) ≡ true
unfolding check_sends
check_sound n p f S = elim (is (any n (λ i. p i && is_erased (f i)))) [
  | is_true e ↦ rw e
  | is_false e ↦ elim (is (any n (softs p f))) [
    | is_false q ↦ rw (e, all_sure n p f e, q)
    | is_true q ↦
        let F = least_from n p f (λ i k t x z. sound_soft (f i) x (S i k t) z) q in
        rw (e, all_sure n p f e, q)
        (turned_finite (turns_odd n p f) (least_soft n p f) (either_finite F.input (least_soft n p f) (sound_soft (f F.place) F.input (S F.place F.below F.passes) F.is_input) F.either))
  ]
]

-- ---- a bit: a sum of numbers is no NaN, though it may be infinite
pub finite_number : (x : Float) → finite x ≡ true → is_nan x ≡ false
unfolding is_nan
finite_number nan e = absurd (false≢true e)
finite_number (inf s) e = refl
finite_number (fin s m e) p = refl

cond_number : (b : Bool) (x y : Float) → is_nan x ≡ false → is_nan y ≡ false → is_nan (cond b x y) ≡ false
cond_number true x y p q = p
cond_number false x y p q = q

inf_number : (s : Bool) → is_nan (inf s) ≡ false
unfolding is_nan
inf_number s = refl

odd_number : (d : ℕ) (s : Bool) (q k l : ℕ) → is_nan (odd d s q k l) ≡ false
unfolding odd is_nan
odd_number d s zero k l = refl
odd_number d s (suc q) k l = refl

units_number : (f : Format) (s : Bool) (q k : ℕ) → is_nan (units f s q k) ≡ false
unfolding units
units_number f s q k = cond_number (ltb (q * 2 ^ k) (2 ^ (low f + suc (emax f)))) _ _ (odd_number (suc (prec f)) s q k (low f)) (inf_number s)

round_number : (f : Format) (s : Bool) (num den : ℕ) → is_nan (round f s num den) ≡ false
unfolding round
round_number f s num den = units_number f s _ _

sum_number : (f : Format) (s : Bool) (a : ℕ) (t : Bool) (b c : ℕ) → is_nan (sum f s a t b c) ≡ false
unfolding sum
sum_number f s a t b c =
    cond_number (beq s t) _ _ (round_number f s (a + b) c) (cond_number (ltb a b) _ _ (round_number f t (b - a) c) (round_number f (s && ltb b a) (a - b) c))

add_number : (x y : Float) → is_nan x ≡ false → finite y ≡ true → is_nan (add binary32 x y) ≡ false
unfolding add
add_number nan y p q = p
add_number (inf s) nan p q = absurd (false≢true q)
add_number (inf s) (inf t) p q = absurd (false≢true q)
add_number (inf s) (fin t n d) p q = p
add_number (fin s m e) nan p q = absurd (false≢true q)
add_number (fin s m e) (inf t) p q = absurd (false≢true q)
add_number (fin s m e) (fin t n d) p q = sum_number binary32 s (m * up e * down d) t (n * up d * down e) (down e * down d)

-- a soft value that is no NaN
numeric : Channel → Bool
numeric (Sure b) = true
numeric (Soft x) = not (is_nan x)
numeric Erased = true

joined_numeric : (v w : Channel) → numeric v ≡ true → sound w ≡ true → numeric (with_next v w) ≡ true
unfolding numeric
joined_numeric (Sure a) w p q = refl
joined_numeric (Soft s) (Sure b) p q = refl
joined_numeric (Soft s) (Soft x) p q = ap not (add_number s x (not-true (is_nan s) p) q)
joined_numeric (Soft s) Erased p q = p
joined_numeric Erased (Sure b) p q = refl
joined_numeric Erased (Soft x) p q = ap not (finite_number x q)
joined_numeric Erased Erased p q = refl

gathered_numeric : (v : Channel) (n : ℕ) (p : ℕ → Bool) (f : ℕ → Channel) → numeric v ≡ true → ((i : ℕ) → i < n → p i ≡ true → sound (f i) ≡ true) → numeric (gathered v n p f) ≡ true
unfolding gathered
gathered_numeric v zero p f e S = e
gathered_numeric v (suc n) p f e S =
    let g = gathered_numeric v n p f e (λ i k. S i (omega arith)) in
    elim (is (p n)) [ is_true q ↦ rw q (joined_numeric (gathered v n p f) (f n) g (S n (omega arith) q)) | is_false q ↦ rw q g ]

sound_numeric : (v : Channel) → sound v ≡ true → numeric v ≡ true
unfolding numeric
sound_numeric (Sure b) e = refl
sound_numeric (Soft x) e = ap not (finite_number x e)
sound_numeric Erased e = refl

-- a number that is cut is finite
pub limit_finite : finite limit ≡ true
limit_finite = rw limit_is

floor_finite : finite negative_limit ≡ true
floor_finite = rw lower_is

cond_finite : (b : Bool) (x y : Float) → finite x ≡ true → finite y ≡ true → finite (cond b x y) ≡ true
cond_finite true x y p q = p
cond_finite false x y p q = q

cut_finite : (x : Float) → is_nan x ≡ false → finite (cut x) ≡ true
unfolding is_nan lt neg
cut_finite nan e = absurd (true≢false e)
cut_finite (inf true) e = rw limit_is
cut_finite (inf false) e = rw limit_is
cut_finite (fin s m e) p = cond_finite (lt limit (fin s m e)) limit _ limit_finite (cond_finite (lt (fin s m e) negative_limit) negative_limit (fin s m e) floor_finite refl)

settled_sound : (v : Channel) → numeric v ≡ true → sound (settled v) ≡ true
unfolding numeric
settled_sound (Sure b) e = refl
settled_sound (Soft x) e = zero_finite (cut x) (cut_finite x (not-true (is_nan x) e))
settled_sound Erased e = refl

pub bit_sound : (v : Channel) (n : ℕ) (p : ℕ → Bool) (f : ℕ → Channel) → sound v ≡ true → ((i : ℕ) → i < n → p i ≡ true → sound (f i) ≡ true) → sound (bit_sends v n p f) ≡ true
unfolding bit_sends
bit_sound v n p f e S = settled_sound (gathered v n p f) (gathered_numeric v n p f (sound_numeric v e) S)

-- ---- what is at most the limit in magnitude is finite
pub small_finite : (x : Float) → le (magnitude x) limit ≡ finite x && le (magnitude x) limit
unfolding le lt eq neg of_bits
small_finite nan = refl
small_finite (inf true) = refl
small_finite (inf false) = refl
small_finite (fin s m e) = refl
