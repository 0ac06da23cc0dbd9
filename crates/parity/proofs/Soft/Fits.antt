-- Soft values that are finite 32-bit floats: what checks and bits send stays one. Assumes nothing.
use mathlib.Core.Path.{◌≡◌, refl}
use mathlib.Core.Bool.{Bool, true, false, cond, ◌&&◌, and-eq-true_iff}
use Prim.Native.Nat.{ℕ, zero, suc, ◌<◌}
use native.Mathlib.Omega.{arith}
use lib.Ieee.{Float, binary32, add, neg, lt, eq, fits, of_bits}
use lib.Ieee.Fits.{add-fits}
use lib.Ieee.Bits as bits
use Rattle.parity.specs.Floats.{positive_zero, limit, negative_limit, cut, finite}
use Rattle.parity.specs.Soft.{check_sends, with_next, gathered, settled, bit_sends, sound}
use Rattle.parity.specs.declared.Channel.{Channel}
use Rattle.parity.specs.declared.Channel.TheVariants.{Sure, Soft, Erased}
use Rattle.parity.proofs.Finite.Sums.{is_true, is_false, is}
use Rattle.parity.proofs.Soft.Forms.{is_sure_lem, is_soft_lem, is_erased_lem, form}
use Rattle.parity.proofs.Soft.Exact.{fits_either, one_input}
use Rattle.parity.proofs.Soft.Sound.{sound_soft, check_sound, bit_sound}

-- a soft float is a 32-bit one
abbrev pub fit : Channel → Bool
fit (Sure b) = true
fit (Soft x) = fits binary32 x
fit Erased = true

-- finite, too
abbrev pub regular : Channel → Bool
regular v = sound v && fit v

both : (v : Channel) → regular v ≡ true → (sound v ≡ true) × (fit v ≡ true)
both v e = (and-eq-true_iff (sound v) (fit v)).0 e

pub regular_of : (v : Channel) → sound v ≡ true → fit v ≡ true → regular v ≡ true
regular_of v p q = rw (p, q)

soft_fit : (v : Channel) (x : Float) → fit v ≡ true → v ≡ Soft x → fits binary32 x ≡ true
soft_fit v x s e = rw e at s

pub regular_soft : (v : Channel) (x : Float) → regular v ≡ true → v ≡ Soft x → (fits binary32 x ≡ true) × (finite x ≡ true)
regular_soft v x s e = (soft_fit v x (both v s).1 e, sound_soft v x (both v s).0 e)

-- ---- a check
pub check_regular : (n : ℕ) (p : ℕ → Bool) (f : ℕ → Channel) → ((i : ℕ) → i < n → p i ≡ true → regular (f i) ≡ true) → regular (check_sends n p f) ≡ true
check_regular n p f S = regular_of (check_sends n p f) (check_sound n p f (λ i k q. (both (f i) (S i k q)).0)) (elim (form (check_sends n p f)) [
  | is_sure_lem b e ↦ rw e
  | is_erased_lem e ↦ rw e
  | is_soft_lem y e ↦
      let F = one_input n p f y (λ i k q x z. regular_soft (f i) x (S i k q) z) e in
      let g = soft_fit (f F.place) F.input (both (f F.place) (S F.place F.below F.passes)).1 F.is_input in
      rw e (fits_either F.input y g F.either)
])

-- ---- a bit
cond_fit : (b : Bool) (x y : Float) → fits binary32 x ≡ true → fits binary32 y ≡ true → fits binary32 (cond b x y) ≡ true
cond_fit true x y p q = p
cond_fit false x y p q = q

pub zero_fit : fits binary32 positive_zero ≡ true
unfolding fits of_bits
zero_fit = refl

pub limit_fit : fits binary32 limit ≡ true
unfolding fits of_bits
limit_fit = refl

lower_fit : fits binary32 negative_limit ≡ true
unfolding fits of_bits neg
lower_fit = refl

joined_fit : (v w : Channel) → fit v ≡ true → fit w ≡ true → fit (with_next v w) ≡ true
joined_fit (Sure a) w p q = refl
joined_fit (Soft s) (Sure b) p q = refl
joined_fit (Soft s) (Soft x) p q = bits.is_true (fits binary32 (add binary32 s x)) (add-fits binary32 s x)
joined_fit (Soft s) Erased p q = p
joined_fit Erased w p q = q

gathered_fit : (v : Channel) (n : ℕ) (p : ℕ → Bool) (f : ℕ → Channel) → fit v ≡ true → ((i : ℕ) → i < n → p i ≡ true → fit (f i) ≡ true) → fit (gathered v n p f) ≡ true
unfolding gathered
gathered_fit v zero p f e S = e
gathered_fit v (suc n) p f e S =
    let g = gathered_fit v n p f e (λ i k. S i (omega arith)) in
    elim (is (p n)) [ is_true q ↦ rw q (joined_fit (gathered v n p f) (f n) g (S n (omega arith) q)) | is_false q ↦ rw q g ]

settled_fit : (v : Channel) → fit v ≡ true → fit (settled v) ≡ true
settled_fit (Sure b) e = refl
settled_fit (Soft x) e =
    cond_fit (eq (cut x) positive_zero) positive_zero (cut x) zero_fit (cond_fit (lt limit x) limit _ limit_fit (cond_fit (lt x negative_limit) negative_limit x lower_fit e))
settled_fit Erased e = refl

pub bit_regular : (v : Channel) (n : ℕ) (p : ℕ → Bool) (f : ℕ → Channel) → regular v ≡ true → ((i : ℕ) → i < n → p i ≡ true → regular (f i) ≡ true) → regular (bit_sends v n p f) ≡ true
unfolding bit_sends
bit_regular v n p f e S =
    regular_of (settled (gathered v n p f)) (bit_sound v n p f (both v e).0 (λ i k q. (both (f i) (S i k q)).0))
    (settled_fit (gathered v n p f) (gathered_fit v n p f (both v e).1 (λ i k q. (both (f i) (S i k q)).1)))
