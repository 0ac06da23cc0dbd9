-- The two lower bits of an added check, and their sum modulo 2; the word that extending writes. Assumes nothing.
use mathlib.Core.Path.{◌≡◌, refl, sym, ap, ◌∙◌}
use mathlib.Core.Bool.{Bool, true, false, ◌&&◌, true≢false}
use mathlib.Core.List.{List, ◌++◌}
use Prim.Native.Nat.{ℕ, zero, suc, ◌+◌, ◌≤◌, ◌<◌}
use native.Mathlib.Nat.{add-suc, add-zero, zero-add}
use native.Mathlib.Numerals.{add-one}
use native.Mathlib.Omega.{arith}
use native.Mathlib.Decide.{ℕ_discrete, dec_lt}
use lib.Bits.{bit_xor}
use lib.Dec.{eqb}
use lib.ListN.{length, set, get_or-append}
use lib.Seq.{ext_get_or, get_or-set_same, get_or-set_other}
use borrow.Author.Tests.{eq-eqb, ne_eqb}
use Rattle.parity.specs.Finite.{one, sum, count, list_from}
use Rattle.parity.specs.Matrix.{Matrix}
use Rattle.parity.specs.Words.{is_one, inside, odd, extended}
use Rattle.parity.specs.Calls.{byte_of}
use Rattle.parity.proofs.Finite.Sums.{is_true, is_false, is, one≤1, count_at, count_suc, count_mono, count_end, sum_two, sum_zero, byte_one, eqb_one}
use Rattle.parity.proofs.Finite.Lists.{length_list_from, at_list_from}
use Rattle.parity.proofs.Matrix.Rule.{Rule}
use Rattle.parity.proofs.Words.Extend.{inside_cong}
use Rattle.rows.specs.Rows.{NextOne}
use Rattle.extend.specs.Added.{Copied, Bits, ExtendedTo, extended_bytes}

module _ (h : Matrix) (n m k j : ℕ) (R : Rule h n m k j) (x y : ℕ) (A : NextOne 512 (h (m + j)) 0 x) (few : n + j ≤ 512) where
  pub lower_first : x < n + j
  lower_first =
      let (i, l, e) = count_at (n + j) (h (m + j)) (omega (arith, R.two)) in
      elim (dec_lt i x) [ yes q ↦ absurd (true≢false (sym e ∙ A.none i (omega arith) q)) | no q ↦ omega arith ]

  pub in_first : h (m + j) x ≡ true
  in_first = A.found (omega (arith, lower_first))

  one_below : count (x + 1) (h (m + j)) ≡ 1
  one_below =
      rw (add-one x, count_suc x (h (m + j)), in_first)
      (omega (arith, count_end 0 x (h (m + j)) (omega arith) (λ b l q. A.none b l q), none))
    where
      none : count 0 (h (m + j)) ≡ 0
      none = unfold count sum in refl

  module _ (B : NextOne 512 (h (m + j)) (x + 1) y) where
    pub lower_second : y < n + j
    lower_second =
        elim (dec_lt y (n + j)) [
          | yes l ↦ l
          | no l ↦ absurd (omega (
            arith,
            count_end (x + 1) (n + j) (h (m + j)) (omega (arith, lower_first)) (λ b p q. B.none b p (omega arith)),
            one_below,
            R.two,
          ))
        ]

    in_second : h (m + j) y ≡ true
    in_second = B.found (omega (arith, lower_second))

    two_below : count (suc y) (h (m + j)) ≡ 2
    two_below =
        rw (count_suc y (h (m + j)), in_second)
        (omega (arith, count_end (x + 1) y (h (m + j)) B.least (λ b p q. B.none b p q), one_below))

    no_other : (b : ℕ) → b < n + j → (b ≡ x → ⊥) → (b ≡ y → ⊥) → h (m + j) b ≡ false
    no_other b l dx dy =
        elim (dec_lt b x) [
          | yes q ↦ A.none b (omega arith) q
          | no q ↦ elim (dec_lt b y) [
            | yes r ↦ B.none b (omega arith) r
            | no r ↦ elim (is (h (m + j) b)) [
              | is_false e ↦ e
              | is_true e ↦ absurd (omega (
                arith,
                count_mono (suc y) b (h (m + j)) (omega arith),
                rw e at (count_suc b (h (m + j))),
                count_mono (suc b) (n + j) (h (m + j)) l,
                two_below,
                R.two,
              ))
            ]
          ]
        ]

    -- of a set's bits the check has those of the two
    pub inside_two : (s : ℕ → Bool) → inside h (n + j) (m + j) s ≡ one (s x) + one (s y)
    unfolding inside count
    inside_two s =
        let d : x ≡ y → ⊥ = λ e. omega (arith, B.least) in
        let p = sum_two (n + j) x y {f = λ b. one (h (m + j) b && s b)} {g = λ b. 0} lower_first lower_second d (λ b l u v. rw (no_other b l u v)) in
        omega (arith, sum_zero (n + j) {f = λ b. 0} (λ i l. refl), rw (in_first, in_second) at p)

-- the machine's exclusive or of two bytes of 0 or 1
pub xor_odd : (a b : ℕ) → a ≤ 1 → b ≤ 1 → bit_xor a b ≡ one (odd (one (eqb a 1) + one (eqb b 1)))
unfolding odd
xor_odd zero zero k l = refl
xor_odd zero (suc zero) k l = refl
xor_odd zero (suc (suc b)) k l = absurd (omega arith)
xor_odd (suc zero) zero k l = refl
xor_odd (suc zero) (suc zero) k l = refl
xor_odd (suc zero) (suc (suc b)) k l = absurd (omega arith)
xor_odd (suc (suc a)) b k l = absurd (omega arith)

pub copied_bits : (sent w : List ℕ) (n : ℕ) → Copied sent n w → Bits sent n → Bits w n
copied_bits sent w n C B = record { at = λ b l. rw (C.at b l) (B.at b l) }

pub front_copied : (sent w rest : List ℕ) (n : ℕ) → length sent ≡ n → w ≡ sent ++ rest → Copied sent n w
front_copied sent w rest n l e = record { at = λ b q. rw e (get_or-append sent rest 0 b (omega arith)) }

-- nothing added yet
pub extended_none : (h : Matrix) (n m : ℕ) (w : List ℕ) → Bits w n → ExtendedTo h n m 0 w w
extended_none h n m w B = record {
  at = λ b l. unfold extended in sym (byte_one (byte_of w b) (B.at b (omega (arith, add-zero n))));
}

-- added bit n + j is written
module _ (h : Matrix) (n m j : ℕ) (w₀ w : List ℕ) (E : ExtendedTo h n m j w₀ w) where
  pub extended_bits : Bits w (n + j)
  extended_bits = record { at = λ b l. rw (E.at b l) (one≤1 (extended h n m j (is_one (byte_of w₀)) b)) }

  pub extended_more : (bit : ℕ) → n + j < length w → bit ≡ one (odd (inside h (n + j) (m + j) (is_one (byte_of w))))
      → ExtendedTo h n m (j + 1) w₀ (set w (n + j) bit)
  extended_more bit l e = record {
    at = λ b q. rw (add-one j) (unfold extended in (elim (ℕ_discrete b (n + j)) [
      | yes r ↦ rw (r, eq-eqb (n + j) (n + j) refl, get_or-set_same w (n + j) bit 0 l)
          (e ∙ ap (λ s. one (odd s)) (inside_cong h (n + j) (m + j) {w = is_one (byte_of w)} {x = extended h n m j (is_one (byte_of w₀))} (λ b t. rw (E.at b t) (eqb_one (extended h n m j (is_one (byte_of w₀)) b)))))
      | no r ↦ rw (ne_eqb b (n + j) r, get_or-set_other w (n + j) b bit 0 r) (E.at b (omega arith))
    ]));
  }

-- only the sent bits matter
extended_cong : (h : Matrix) (n m k : ℕ) {x y : ℕ → Bool} → ((b : ℕ) → b < n → x b ≡ y b) → (b : ℕ) → b < n + k → extended h n m k x b ≡ extended h n m k y b
unfolding extended
extended_cong h n m zero f b l = f b (omega (arith, add-zero n))
extended_cong h n m (suc j) {x} {y} f b l =
    elim (ℕ_discrete b (n + j)) [
      | yes r ↦ rw (eq-eqb b (n + j) r) (ap odd (inside_cong h (n + j) (m + j) (extended_cong h n m j {x = x} {y = y} f)))
      | no r ↦ rw (ne_eqb b (n + j) r) (extended_cong h n m j {x = x} {y = y} f b (omega (arith, add-suc n j)))
    ]

-- the whole word
pub extended_all : (h : Matrix) (n m k : ℕ) (sent w w' : List ℕ) → Copied sent n w → length w' ≡ n + k → ExtendedTo h n m k w w'
    → w' ≡ extended_bytes h n m k sent
unfolding extended_bytes
extended_all h n m k sent w w' C l E =
    let f : ℕ → ℕ = λ b. one (extended h n m k (is_one (byte_of sent)) b) in
    ext_get_or 0 w' (list_from 0 (n + k) f) (l ∙ sym (length_list_from 0 (n + k) f)) (λ b q.
    let t : b < n + k = omega arith in
    E.at b t ∙ ap one (extended_cong h n m k {x = is_one (byte_of w)} {y = is_one (byte_of sent)} (λ b q. rw (C.at b q)) b t)
    ∙ ap f (sym (zero-add b)) ∙ sym (at_list_from 0 (n + k) f b t))
