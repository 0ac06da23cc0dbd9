-- Laws of text in a buffer: pieces one after another, and numbers in decimal. Assumes nothing.
use Prim.Native.Nat.{ℕ, zero, suc, ◌+◌, ◌/◌, ◌%◌, ◌^◌, ◌≤◌, ◌<◌}
use mathlib.Core.Path.{◌≡◌, ◌∙◌, refl, sym, ap}
use mathlib.Core.List.{List, [], ◌∷◌, ◌++◌, append_assoc}
use native.Mathlib.Omega.{arith}
use native.Mathlib.Numerals.{add-one}
use native.Mathlib.Decide.{dec_lt}
use borrow.Author.Tests.{lt-ltb, le-ltb}
use lib.ListN.{length, set, take, drop, length-append, length-drop}
use lib.Seq.{take_at, drop_at, drop-drop, length-take-le, take-length, set_split, append_snoc, paste}
use Rattle.parity.specs.Mend.{digits_of, decimal}
use Rattle.lines.specs.Placed.{placed, Placed}

-- the buffer keeps its length
pub same_size : {old : List ℕ} {p : ℕ} {s new : List ℕ} {r : ℕ} → Placed old p s new r → length new ≡ length old
unfolding placed
same_size {old} {p} {s} f =
    ap length f.made ∙ simp length-append (omega (arith, f.next, f.room, length-take-le p old (omega arith), length-drop (p + length s) old))

-- one text after another
pub after : {old : List ℕ} {p : ℕ} {s t mid new : List ℕ} {q r : ℕ} → Placed old p s mid q → Placed mid q t new r → Placed old p (s ++ t) new r
unfolding placed
after {old} {p} {s} {t} {mid} {new} {q} {r} f g =
    let h = take p old ++ s in
    let rest = drop (p + length s) old in
    let l : length h ≡ q = length-append (take p old) s ∙ rw (length-take-le p old (omega arith)) (omega arith) in
    let m : mid ≡ h ++ rest = f.made in
    let front : take q mid ≡ h = rw m (take_at h rest q l) in
    let back : drop (q + length t) mid ≡ drop (p + length (s ++ t)) old =
    sym (drop-drop (length t) q mid) ∙ rw m (rw (drop_at h rest q l) (drop-drop (length t) (p + length s) old ∙ ap (λ (n : ℕ). drop n old) {x = p + length s + length t} {y = p + length (s ++ t)} (omega (arith, length-append s t)))) in
    record {
      next = g.next ∙ simp length-append (omega (arith, f.next));
      room = omega (arith, g.room, same_size f);
      made = g.made ∙ rw (front, back, append_assoc (take p old) s t) refl;
    }

-- one byte
pub one_byte : (old : List ℕ) (p b : ℕ) → p < length old → Placed old p (b ∷ []) (set old p b) (p + 1)
unfolding placed
one_byte old p b h = record { next = refl; room = omega arith; made = set_split old p b h ∙ rw (add-one, append_snoc) }

-- a copied list
pub copied : (old : List ℕ) (p : ℕ) (s : List ℕ) → p + length s ≤ length old → Placed old p s (paste old p s (length s)) (p + length s)
unfolding placed
copied old p s h = record { next = refl; room = h; made = rw (take-length s) }

-- more turns than the number has digits change nothing
enough : (t s x : ℕ) → x < t → x < s → digits_of t x ≡ digits_of s x
unfolding digits_of
enough zero s x h k = absurd (omega arith)
enough (suc t) zero x h k = absurd (omega arith)
enough (suc t) (suc s) x h k =
    elim (dec_lt x 10) [
      | yes l ↦ rw (lt-ltb x 10 l, digits_of)
      | no l ↦ rw (le-ltb x 10 (omega arith), digits_of) (ap (λ (d : List ℕ). d ++ ((48 + x % 10) ∷ [])) (enough t s (x / 10) (omega arith) (omega arith)))
    ]

-- a number of one digit, and a number of more
pub one_digit : (x : ℕ) → x < 10 → decimal x ≡ (48 + x) ∷ []
unfolding decimal digits_of
one_digit x h = rw (lt-ltb x 10 h, digits_of)

pub more_digits : (x : ℕ) → 10 ≤ x → decimal x ≡ decimal (x / 10) ++ ((48 + x % 10) ∷ [])
unfolding decimal digits_of
more_digits x h = rw (le-ltb x 10 h, digits_of) (ap (λ (d : List ℕ). d ++ ((48 + x % 10) ∷ [])) (enough x (suc (x / 10)) (x / 10) (omega arith) (omega arith)))

pub length_one_digit : (x : ℕ) → x < 10 → length (decimal x) ≡ 1
length_one_digit x h = ap length (one_digit x h)

pub length_more_digits : (x : ℕ) → 10 ≤ x → length (decimal x) ≡ length (decimal (x / 10)) + 1
length_more_digits x h = ap length (more_digits x h) ∙ length-append (decimal (x / 10)) ((48 + x % 10) ∷ [])

-- the last digit, and one digit after the others
module _ {old new : List ℕ} {p x b r : ℕ} where
  pub digit_placed : x < 10 → b ≡ 48 + x → Placed old p (b ∷ []) new r → Placed old p (decimal x) new r
  digit_placed h e f = rw (one_digit x h, ← e) f

  pub digits_placed : {mid : List ℕ} {q : ℕ} → 10 ≤ x → b ≡ 48 + x % 10 → Placed old p (decimal (x / 10)) mid q → Placed mid q (b ∷ []) new r
      → Placed old p (decimal x) new r
  digits_placed h e f g = rw (more_digits x h, ← e) (after f g)

-- a number below 10 ^ d has at most d digits
digits_most : (d t x : ℕ) → x < 10 ^ suc d → length (digits_of t x) ≤ suc d
unfolding digits_of
digits_most d zero x h = omega arith
digits_most zero (suc t) x h = rw (lt-ltb x 10 (omega arith), digits_of) (omega arith)
digits_most (suc d) (suc t) x h =
    elim (dec_lt x 10) [
      | yes l ↦ rw (lt-ltb x 10 l, digits_of) (omega arith)
      | no l ↦ rw (le-ltb x 10 (omega arith), digits_of, length-append) (omega (arith, digits_most d t (x / 10) (omega arith)))
    ]

pub decimal_most : (x : ℕ) → x < 2 ^ 64 → length (decimal x) ≤ 20
unfolding decimal
decimal_most x h = digits_most 19 (suc x) x (omega arith)
