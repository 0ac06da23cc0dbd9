-- Laws of masks, and of cause 3 from them. Assumes nothing.
use mathlib.Core.Path.{◌≡◌, refl, sym, ap, ◌∙◌}
use mathlib.Core.Logic.{◌↔◌}
use mathlib.Core.List.{List}
use Prim.Native.Nat.{ℕ, ◌+◌, ◌*◌, ◌-◌, ◌/◌, ◌%◌, ◌^◌, ◌≤◌, ◌<◌, min}
use native.Mathlib.Nat.{zero-add, zero-mul, div-add-mod', div-eq_of_lt, div-lt_iff_lt-mul, mod-lt, zero-div, div-one, le-mul_of_pos_right}
use native.Mathlib.Omega.{arith}
use native.Mathlib.Decide.{ℕ_discrete, dec_lt}
use lib.Arith.{digits_div, digits_mod}
use lib.Bits.{bit_and, bit_or, and_high, and_self, or_shr, or_lt}
use lib.Dec.{eqb, lit<}
use lib.ListN.{get_or, length, set, replicate, length-set, get_or-replicate}
use lib.Seq.{get_or-set_same, get_or-set_other}
use lib.Pow.{pow_pos, shr_mod}
use borrow.Author.Tests.{eq-eqb, eqb-true}
use Rattle.parity.specs.Matrix.{room, clean}
use Rattle.parity.proofs.Finite.Bools.{same_test}
use Rattle.parity.proofs.Matrix.Digits.{one_shl}
use Rattle.parity.proofs.Matrix.Clean.{room_in, room_out, word_fits, fits_clean}
use Rattle.rows.specs.Zeros.{Zeros, both}
use Rattle.rows.proofs.Zeros.{or_zero, zeros_none, zeros_more}
use Rattle.matrix.specs.Masks.{Masks, RowIn, Ored}

-- the bits from r on, by a mask
over_mask : (w r : ℕ) → r ≤ 64 → w < 2 ^ 64 → bit_and w (2 ^ 64 - 2 ^ r) ≡ w / 2 ^ r * 2 ^ r
over_mask w r k l = go (64 - r) (omega arith)
  where
    go : (j : ℕ) → j + r ≡ 64 → bit_and w (2 ^ 64 - 2 ^ r) ≡ w / 2 ^ r * 2 ^ r
    go j e = (rw e at (and_high w j r)) ∙ ap (◌* 2 ^ r) (shr_mod j r (rw e l))

pub mask_zero : (w r : ℕ) → r ≤ 64 → w < 2 ^ 64 → (bit_and w (2 ^ 64 - 2 ^ r) ≡ 0) ↔ (w / 2 ^ r ≡ 0)
mask_zero w r k l = (
  λ e. omega (arith, over_mask w r k l, le-mul_of_pos_right (w / 2 ^ r) (pow_pos r)),
  λ e. over_mask w r k l ∙ rw (e, zero-mul (2 ^ r)),
)

-- the machine's mask of the bits from r on
pub mask_of : (r : ℕ) → r < 64 → 2 ^ 64 - 1 - (1 * 2 ^ r % 2 ^ 64 - 1) ≡ 2 ^ 64 - 2 ^ r
mask_of r k = rw (one_shl r k) (omega (arith, pow_pos r))

-- the masks, one after the other
pub masks_none : (N : ℕ) (ms : List ℕ) → Masks N 0 ms
masks_none N ms = record { mask = λ p k. absurd (omega arith) }

pub masks_more : (N n : ℕ) (ms : List ℕ) (x : ℕ) → n < length ms → Masks N n ms → x ≡ 2 ^ 64 - 2 ^ min 64 (N - n * 64) → Masks N (n + 1) (set ms n x)
masks_more N n ms x l K e = record {
  mask = λ p k. elim (ℕ_discrete p n) [
    | yes q ↦ rw (q, get_or-set_same ms n x 0 l) e
    | no d ↦ rw (get_or-set_other ms n p x 0 d) (K.mask p (omega arith))
  ];
}

-- a row, word after word
pub row_none : (W : ℕ) (ws : List ℕ) (c : ℕ) (all : List ℕ) → RowIn W 0 ws c all all
row_none W ws c all = record { size = refl; each = λ p k. absurd (omega arith); rest = λ p k. refl }

pub row_more : (W n : ℕ) (ws : List ℕ) (c : ℕ) (before after : List ℕ) → n < length after → RowIn W n ws c before after
    → RowIn W (n + 1) ws c before (set after n (bit_or (get_or after n 0) (get_or ws (c * W + n) 0)))
row_more W n ws c before after l R = record {
  size = length-set after n _ ∙ R.size;
  each = λ p k. elim (ℕ_discrete p n) [
    | yes q ↦ rw (q, get_or-set_same after n (bit_or (get_or after n 0) (get_or ws (c * W + n) 0)) 0 l) (ap (λ t. bit_or t (get_or ws (c * W + n) 0)) (R.rest n (omega arith)))
    | no d ↦ get_or-set_other after n p _ 0 d ∙ R.each p (omega arith)
  ];
  rest = λ p k. get_or-set_other after n p _ 0 (λ e. omega arith) ∙ R.rest p (omega arith);
}

-- rows, one after the other
pub ored_none : (W a : ℕ) (ws : List ℕ) (n : ℕ) → W ≤ n → Ored W a a ws (replicate n 0)
ored_none W a ws n l = record {
  fits = λ p k. rw (get_or-replicate {A = ℕ} n p 0 0 (omega arith)) (lit< tt);
  each = λ r p k. rw (get_or-replicate {A = ℕ} n p 0 0 (omega arith), zero-div (2 ^ r)) (zeros_none a _);
}

pub ored_more : (W a b : ℕ) (ws before after : List ℕ) → a ≤ b → ((i : ℕ) → get_or ws i 0 < 2 ^ 64) → Ored W a b ws before → RowIn W W ws b before after → Ored W a (b + 1) ws after
ored_more W a b ws before after l machine K R = record {
  fits = λ p k. rw (R.each p k) (or_lt 64 _ _ (K.fits p k) (machine (b * W + p)));
  each = λ r p k.
      let e : get_or after p 0 / 2 ^ r ≡ bit_or (get_or before p 0 / 2 ^ r) (get_or ws (b * W + p) 0 / 2 ^ r) = ap (◌/ 2 ^ r) (R.each p k) ∙ or_shr _ _ r in
      rw e (zeros_more a b _ _ _ l (K.each r p k) refl);
}

less_zero : (w r : ℕ) → (w < 2 ^ r) ↔ (w / 2 ^ r ≡ 0)
less_zero w r = (λ l. div-eq_of_lt l, λ e. omega (arith, (div-lt_iff_lt-mul {x = w} {y = 1} (pow_pos r)).0 (omega arith)))

-- cause 3: the words of the checks below M, of W words, have no one at bit N or above, and the words of the others, up to E, are zero
module _ (W N M E : ℕ) (ws ms inner rest : List ℕ) (some : 0 < W) (whole : length ws ≡ E * W) (K : Masks N W ms) (I : Ored W 0 M ws inner) (R : Ored W M E ws rest) where
  fits_in : (c p : ℕ) → c < M → p < W → (get_or ws (c * W + p) 0 < 2 ^ room W N M (c * W + p)) ↔ (get_or ws (c * W + p) 0 / 2 ^ min 64 (N - p * 64) ≡ 0)
  fits_in c p l k =
      let q : (c * W + p) / W < M = rw (digits_div c k) l in
      rw (room_in W N M (c * W + p) q, digits_mod c k) (less_zero (get_or ws (c * W + p) 0) (min 64 (N - p * 64)))

  fits_out : (c p : ℕ) → M ≤ c → p < W → (get_or ws (c * W + p) 0 < 2 ^ room W N M (c * W + p)) ↔ (get_or ws (c * W + p) 0 / 2 ^ 0 ≡ 0)
  fits_out c p l k =
      let q : M ≤ (c * W + p) / W = rw (digits_div c k) l in
      rw (room_out W N M (c * W + p) q) (less_zero (get_or ws (c * W + p) 0) 0)

  under : (p : ℕ) → p < W → (both W inner 0 ms 0 p ≡ 0) ↔ (get_or inner p 0 / 2 ^ min 64 (N - p * 64) ≡ 0)
  unfolding both
  under p k =
      let z : 0 * W + p ≡ p = rw (zero-mul W, zero-add p) in
      rw (z, K.mask p k) (mask_zero (get_or inner p 0) (min 64 (N - p * 64)) (omega arith) (I.fits p k))

  itself : (p : ℕ) → both W rest 0 rest 0 p ≡ get_or rest p 0 / 2 ^ 0
  unfolding both
  itself p =
      let z : 0 * W + p ≡ p = rw (zero-mul W, zero-add p) in
      rw z (and_self (get_or rest p 0) ∙ sym (div-one (get_or rest p 0)))

  pub decides : (x y : ℕ) → Zeros 0 W (both W inner 0 ms 0) x → Zeros 0 W (both W rest 0 rest 0) y → eqb (bit_or x y) 0 ≡ clean W N M 0 ws
  decides x y X Y =
      same_test (eqb (bit_or x y) 0) (clean W N M 0 ws)
      (λ e.
      let (s, t) = (or_zero x y).0 (eqb-true (bit_or x y) 0 e) in
      fits_clean W N M ws (λ i l.
      let c = i / W in
      let p = i % W in
      let k : p < W = mod-lt i some in
      let d : c * W + p ≡ i = div-add-mod' i W in
      let fits : get_or ws (c * W + p) 0 < 2 ^ room W N M (c * W + p) = elim (dec_lt c M) [
        | yes m ↦ (fits_in c p m k).1 ((I.each (min 64 (N - p * 64)) p k).none ((under p k).0 (X.none s p (omega arith) k)) c (omega arith) m)
        | no m ↦ (fits_out c p (omega arith) k).1 ((R.each 0 p k).none (sym (itself p) ∙ Y.none t p (omega arith) k) c (omega arith) ((div-lt_iff_lt-mul some).1 (omega arith)))
      ] in
      rw d at fits))
      (λ t. eq-eqb (bit_or x y) 0 ((or_zero x y).1 (
        X.back (λ p a k. (under p k).1 ((I.each (min 64 (N - p * 64)) p k).back (λ c b l. (fits_in c p l k).0 (word_fits W N M ws t (c * W + p))))),
        Y.back (λ p a k. itself p ∙ (R.each 0 p k).back (λ c b l. (fits_out c p b k).0 (word_fits W N M ws t (c * W + p)))),
      )))
