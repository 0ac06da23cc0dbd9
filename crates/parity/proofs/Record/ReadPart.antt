-- The part of a matrix that is read up to a place: its check and its bits below a bound, and the checks before. Assumes nothing.
use mathlib.Core.Path.{◌≡◌, sym, ap, ◌∙◌, fun_ext}
use mathlib.Core.Bool.{true, false, ◌&&◌, and-false, true≢false}
use Prim.Native.Nat.{ℕ, suc, ◌+◌, ◌*◌, ◌≤◌, ◌<◌}
use native.Mathlib.Decide.{ℕ_discrete, dec_lt}
use native.Mathlib.Omega.{arith}
use lib.Dec.{ltb}
use borrow.Author.Tests.{lt-ltb, le-ltb}
use Rattle.parity.specs.Matrix.{Matrix, put}
use Rattle.parity.proofs.Finite.Sums.{is_true, is_false, is}
use Rattle.parity.proofs.Matrix.Lent.{put_here, put_row, put_place}

-- The part of a matrix that is read with check c and its bits below b: those bits, and the checks before. Bits are below 512.
unfoldable pub cut : Matrix → ℕ → ℕ → Matrix
cut h c b d a = ltb (d * 512 + a) (c * 512 + b) && h d a

-- no bit at n or above
pub record Inside (n : ℕ) (h : Matrix) : Type 0 where
  pub few : n ≤ 120
  pub none : (d a : ℕ) → n ≤ a → h d a ≡ false

module _ (h : Matrix) (c b d a : ℕ) where
  pub cut_yes : d * 512 + a < c * 512 + b → cut h c b d a ≡ h d a
  unfolding cut
  cut_yes k = rw (lt-ltb (d * 512 + a) (c * 512 + b) k)

  pub cut_no : c * 512 + b ≤ d * 512 + a → cut h c b d a ≡ false
  unfolding cut
  cut_no k = rw (le-ltb (d * 512 + a) (c * 512 + b) k)

  cut_empty : h d a ≡ false → cut h c b d a ≡ false
  unfolding cut
  cut_empty e = rw (e, and-false)

inside_bit : (n : ℕ) (h : Matrix) → Inside n h → (d a : ℕ) → h d a ≡ true → a < n
inside_bit n h I d a e = elim (dec_lt a n) [ yes k ↦ k | no k ↦ absurd (true≢false (sym e ∙ I.none d a (omega arith))) ]

-- a bit at another place is behind the last one or before it
apart : (c b d a : ℕ) → (d ≡ c → a ≡ b → ⊥) → a < 512 → b < 512 → (d * 512 + a < c * 512 + b → ⊥) → c * 512 + suc b ≤ d * 512 + a
apart c b d a n k l m = elim (ℕ_discrete d c) [ yes q ↦ let t : a ≡ b → ⊥ = n q in omega arith | no q ↦ omega arith ]

-- two parts that have the same ones
cut_same : (h : Matrix) (c b c' b' : ℕ) → ((d a : ℕ) → h d a ≡ true → d * 512 + a < c * 512 + b → d * 512 + a < c' * 512 + b')
    → ((d a : ℕ) → h d a ≡ true → d * 512 + a < c' * 512 + b' → d * 512 + a < c * 512 + b) → cut h c b ≡ cut h c' b'
cut_same h c b c' b' f g = fun_ext (λ d. fun_ext (λ a. at d a))
  where
    at : (d a : ℕ) → cut h c b d a ≡ cut h c' b' d a
    at d a =
        elim (is (h d a)) [
          | is_false e ↦ cut_empty h c b d a e ∙ sym (cut_empty h c' b' d a e)
          | is_true e ↦ elim (dec_lt (d * 512 + a) (c * 512 + b)) [
            | yes k ↦ cut_yes h c b d a k ∙ sym (cut_yes h c' b' d a (f d a e k))
            | no k ↦ elim (dec_lt (d * 512 + a) (c' * 512 + b')) [
              | yes l ↦ absurd (k (g d a e l))
              | no l ↦ cut_no h c b d a (omega arith) ∙ sym (cut_no h c' b' d a (omega arith))
            ]
          ]
        ]

pub cut_none : (h : Matrix) → (λ d a. false) ≡ cut h 0 0
cut_none h = fun_ext (λ d. fun_ext (λ a. sym (cut_no h 0 0 d a (omega arith))))

module _ (n : ℕ) (h : Matrix) (I : Inside n h) where
  pub cut_put : (c b : ℕ) → b < n → h c b ≡ true → put c b true (cut h c b) ≡ cut h c (suc b)
  cut_put c b k e = fun_ext (λ d. fun_ext (λ a. at d a))
    where
      other : (d a : ℕ) → (d ≡ c → a ≡ b → ⊥) → cut h c b d a ≡ cut h c (suc b) d a
      other d a o =
          elim (is (h d a)) [
            | is_false f ↦ cut_empty h c b d a f ∙ sym (cut_empty h c (suc b) d a f)
            | is_true f ↦ elim (dec_lt (d * 512 + a) (c * 512 + b)) [
              | yes l ↦ cut_yes h c b d a l ∙ sym (cut_yes h c (suc b) d a (omega arith))
              | no l ↦
                  let s = inside_bit _ h I d a f in
                  cut_no h c b d a (omega arith) ∙ sym (cut_no h c (suc b) d a (apart c b d a o (omega (arith, I.few)) (omega (arith, I.few)) l))
            ]
          ]

      at : (d a : ℕ) → put c b true (cut h c b) d a ≡ cut h c (suc b) d a
      at d a =
          elim (ℕ_discrete d c) [
            | no m ↦ put_row c b true (cut h c b) d a m ∙ other d a (λ q r. m q)
            | yes q ↦ elim (ℕ_discrete a b) [
              | no m ↦ put_place c b true (cut h c b) d a m ∙ other d a (λ p r. m r)
              | yes r ↦ rw (q, r) (put_here c b true (cut h c b) ∙ sym (cut_yes h c (suc b) c b (omega arith) ∙ e))
            ]
          ]

  pub cut_skip : (c b : ℕ) → b < n → h c b ≡ false → cut h c b ≡ cut h c (suc b)
  cut_skip c b k e = cut_same h c b c (suc b) (λ d a f l. omega arith) at
    where
      at : (d a : ℕ) → h d a ≡ true → d * 512 + a < c * 512 + suc b → d * 512 + a < c * 512 + b
      at d a f l =
          let s = inside_bit n h I d a f in
          let o : d ≡ c → a ≡ b → ⊥ = λ q r. true≢false (sym f ∙ rw (q, r) e) in
          elim (dec_lt (d * 512 + a) (c * 512 + b)) [
            | yes t ↦ t
            | no t ↦ absurd (omega (arith, apart c b d a o (omega (arith, I.few)) (omega (arith, I.few)) t))
          ]

  pub cut_row : (c : ℕ) → cut h c n ≡ cut h (suc c) 0
  cut_row c =
      cut_same h c n (suc c) 0 (λ d a f l. omega (arith, I.few)) (λ d a f l. omega (arith, I.few, inside_bit n h I d a f))

  pub cut_all : (m : ℕ) → ((d a : ℕ) → m ≤ d → h d a ≡ false) → cut h m 0 ≡ h
  cut_all m g = fun_ext (λ d. fun_ext (λ a. at d a))
    where
      at : (d a : ℕ) → cut h m 0 d a ≡ h d a
      at d a =
          elim (is (h d a)) [
            | is_false e ↦ cut_empty h m 0 d a e ∙ sym e
            | is_true e ↦ elim (dec_lt d m) [
              | yes k ↦ cut_yes h m 0 d a (omega (arith, I.few, inside_bit n h I d a e))
              | no k ↦ absurd (true≢false (sym e ∙ g d a (omega arith)))
            ]
          ]

-- What was read so far is no more than its part up to check c and bit b.
pub record Part (n : ℕ) (g : Matrix) (c b : ℕ) : Type 0 where
  pub bits : Inside n g
  pub under : b ≤ n
  pub own : g ≡ cut g c b

pub part_none : (n : ℕ) (g : Matrix) (c b : ℕ) → Part n g c b → (d a : ℕ) → c * 512 + b ≤ d * 512 + a → g d a ≡ false
part_none n g c b P d a k = ap (λ (x : Matrix). x d a) P.own ∙ cut_no g c b d a k

part_of : (n : ℕ) (g : Matrix) (c b : ℕ) → Inside n g → b ≤ n → ((d a : ℕ) → c * 512 + b ≤ d * 512 + a → g d a ≡ false) → Part n g c b
part_of n g c b I k f = record {
  bits = I;
  under = k;
  own = fun_ext (λ d. fun_ext (λ a. elim (dec_lt (d * 512 + a) (c * 512 + b)) [
    | yes l ↦ sym (cut_yes g c b d a l)
    | no l ↦ f d a (omega arith) ∙ sym (cut_no g c b d a (omega arith))
  ]));
}

-- a bit at or above b, below n
pub put_other : (g : Matrix) (c b d a : ℕ) → (d ≡ c → a ≡ b → ⊥) → put c b true g d a ≡ g d a
put_other g c b d a o =
    elim (ℕ_discrete d c) [
      | no m ↦ put_row c b true g d a m
      | yes q ↦ put_place c b true g d a (o q)
    ]

-- the next check
pub part_row : (n : ℕ) (g : Matrix) (c b : ℕ) → Part n g c b → Part n g (suc c) 0
part_row n g c b P =
    part_of n g (suc c) 0 P.bits (omega arith) (λ d a k. part_none n g c b P d a (omega (arith, P.under, P.bits.few)))

-- one more bit
pub part_put : (n : ℕ) (g : Matrix) (c b x : ℕ) → Part n g c b → b ≤ x → x < n → Part n (put c x true g) c (suc x)
part_put n g c b x P k l =
    part_of n (put c x true g) c (suc x)
    record { few = P.bits.few; none = λ d a m. put_other g c x d a (λ q r. omega arith) ∙ P.bits.none d a m }
    (omega arith) (λ d a m. put_other g c x d a (λ q r. omega arith) ∙ part_none n g c b P d a (omega arith))
