-- Cause 3 in bits, over the number W of words of a check. Assumes nothing.
use mathlib.Core.Path.{◌≡◌, refl, sym, ◌∙◌}
use mathlib.Core.Logic.{◌↔◌}
use mathlib.Core.Bool.{true, false, and-false, and-eq-true_iff}
use mathlib.Core.List.{List, [], ◌∷◌}
use Prim.Native.Nat.{ℕ, zero, suc, ◌+◌, ◌*◌, ◌-◌, ◌/◌, ◌%◌, ◌^◌, ◌≤◌, ◌<◌, min}
use native.Mathlib.Nat.{add-zero, div-eq_of_lt, div-lt_iff_lt-mul, lt_of_lt_of_le, pow-suc}
use native.Mathlib.Omega.{arith}
use native.Mathlib.Decide.{ℕ_discrete, dec_lt}
use lib.Dec.{ltb}
use lib.ListN.{get_or, length}
use lib.Arith.{digits_div, digits_mod, le-zero}
use lib.Pow.{pow_pos, pow_mono}
use borrow.Author.Tests.{lt-ltb, le-ltb, ltb-true, eqb-false}
use Rattle.parity.specs.Matrix.{bit_of, lent, room, clean}
use Rattle.parity.specs.Sound.{Clean}
use Rattle.parity.proofs.Matrix.Packing.{lent_flat}
use Rattle.parity.proofs.Matrix.Lent.{lent_out}

-- a number below 2 ^ r has no one from bit r on, and back
pub no_bit : (w r b : ℕ) → w < 2 ^ r → r ≤ b → bit_of w b ≡ false
unfolding bit_of
no_bit w r b l k = rw (div-eq_of_lt (lt_of_lt_of_le l (pow_mono k)))

half_less : (w k : ℕ) → w < 2 ^ suc k → bit_of w k ≡ false → w < 2 ^ k
unfolding bit_of
half_less w k l e =
    let a : w / 2 ^ k < 2 = (div-lt_iff_lt-mul (pow_pos k)).1 (omega (arith, pow-suc 2 k)) in
    omega (arith, (div-lt_iff_lt-mul {x = w} {y = 1} (pow_pos k)).0 (omega (arith, eqb-false (w / 2 ^ k % 2) 1 e)))

pub no_bits : (k r w : ℕ) → r ≤ k → w < 2 ^ k → ((b : ℕ) → r ≤ b → b < k → bit_of w b ≡ false) → w < 2 ^ r
no_bits zero r w i l f = rw (le-zero i) l
no_bits (suc k) r w i l f =
    elim (ℕ_discrete r (suc k)) [
      | yes q ↦ rw q l
      | no d ↦ no_bits k r w (omega arith) (half_less w k l (f k (omega arith) (omega arith))) (λ b j m. f b j (omega arith))
    ]

-- the room of a word
pub room_out : (W N M i : ℕ) → M ≤ i / W → room W N M i ≡ 0
unfolding room
room_out W N M i k = rw (le-ltb (i / W) M k)

pub room_in : (W N M i : ℕ) → i / W < M → room W N M i ≡ min 64 (N - i % W * 64)
unfolding room
room_in W N M i k = rw (lt-ltb (i / W) M k)

pub room_le : (W N M i : ℕ) → room W N M i ≤ 64
room_le W N M i = elim (dec_lt (i / W) M) [ yes k ↦ rw (room_in W N M i k) (omega arith) | no k ↦ rw (room_out W N M i (omega arith)) (omega arith) ]

-- cause 3 by words
fits_from : (W N M s : ℕ) (ws : List ℕ) → clean W N M s ws ≡ true → (i : ℕ) → get_or ws i 0 < 2 ^ room W N M (s + i)
unfolding clean
fits_from W N M s [] e i = pow_pos (room W N M (s + i))
fits_from W N M s (w ∷ ws) e zero = rw (add-zero s) (ltb-true w _ ((and-eq-true_iff (ltb w (2 ^ room W N M s)) _).0 e).0)
fits_from W N M s (w ∷ ws) e (suc i) =
    let q : s + suc i ≡ suc s + i = omega arith in
    rw q (fits_from W N M (suc s) ws ((and-eq-true_iff (ltb w (2 ^ room W N M s)) _).0 e).1 i)

fits_to : (W N M s : ℕ) (ws : List ℕ) → ((i : ℕ) → i < length ws → get_or ws i 0 < 2 ^ room W N M (s + i)) → clean W N M s ws ≡ true
unfolding clean
fits_to W N M s [] f = refl
fits_to W N M s (w ∷ ws) f =
    let a : w < 2 ^ room W N M s = rw (add-zero s) at (f 0 (omega arith)) in
    let t = fits_to W N M (suc s) ws (λ i k. let q : s + suc i ≡ suc s + i = omega arith in rw q at (f (suc i) (omega arith))) in
    rw (lt-ltb w (2 ^ room W N M s) a, t)

module _ (W N M : ℕ) (ws : List ℕ) where
  -- a clean list's words, each with its room
  pub word_fits : clean W N M 0 ws ≡ true → (i : ℕ) → get_or ws i 0 < 2 ^ room W N M i
  word_fits e i = let q : 0 + i ≡ i = omega arith in rw q at (fits_from W N M 0 ws e i)

  pub fits_clean : ((i : ℕ) → i < length ws → get_or ws i 0 < 2 ^ room W N M i) → clean W N M 0 ws ≡ true
  fits_clean f = fits_to W N M 0 ws (λ i k. let q : 0 + i ≡ i = omega arith in rw q (f i k))

  -- from the words to the bits
  module _ (e : clean W N M 0 ws ≡ true) where
    pub clean_words : (i : ℕ) → get_or ws i 0 < 2 ^ 64
    clean_words i = lt_of_lt_of_le (word_fits e i) (pow_mono (room_le W N M i))

    outside : (c b : ℕ) → b / 64 < W → room W N M (c * W + b / 64) ≤ b % 64 → lent W ws c b ≡ false
    unfolding lent
    outside c b r l = rw (no_bit _ _ (b % 64) (word_fits e (c * W + b / 64)) l, and-false)

    pub clean_bits : Clean (lent W ws) N M
    clean_bits = record { checks = λ c b k. at c b (λ r. check c b r k); bits = λ c b k. at c b (λ r. bit c b r k) }
      where
        check : (c b : ℕ) → b / 64 < W → M ≤ c → lent W ws c b ≡ false
        check c b r k = outside c b r (rw (room_out W N M (c * W + b / 64) (rw (digits_div c r) k)) (omega arith))

        bit : (c b : ℕ) → b / 64 < W → N ≤ b → lent W ws c b ≡ false
        bit c b r k =
            elim (dec_lt c M) [
              | yes l ↦ outside c b r (rw (room_in W N M (c * W + b / 64) (rw (digits_div c r) l), digits_mod c r) (omega arith))
              | no l ↦ check c b r (omega arith)
            ]

        at : (c b : ℕ) → (b / 64 < W → lent W ws c b ≡ false) → lent W ws c b ≡ false
        at c b f = elim (dec_lt b (W * 64)) [ yes k ↦ f (omega arith) | no k ↦ lent_out W ws c b (omega arith) ]

  -- and back
  pub bits_clean : 0 < W → ((i : ℕ) → get_or ws i 0 < 2 ^ 64) → Clean (lent W ws) N M → clean W N M 0 ws ≡ true
  bits_clean w a K =
      fits_clean (λ i k. no_bits 64 (room W N M i) (get_or ws i 0) (room_le W N M i) (a i) (λ b l m.
      sym (lent_flat W w ws i b m) ∙ (elim (dec_lt (i / W) M) [
        | yes t ↦ K.bits (i / W) (i % W * 64 + b) (omega (arith, room_in W N M i t))
        | no t ↦ K.checks (i / W) (i % W * 64 + b) (omega arith)
      ])))

pub cleans : (W N M : ℕ) → 0 < W → (ws : List ℕ) → (clean W N M 0 ws ≡ true) ↔ (((i : ℕ) → get_or ws i 0 < 2 ^ 64) × Clean (lent W ws) N M)
cleans W N M w ws = (λ e. (clean_words W N M ws e, clean_bits W N M ws e), λ r. bits_clean W N M ws w r.0 r.1)
