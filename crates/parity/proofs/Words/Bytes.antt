-- Words, messages and sets as lists of bytes: those that causes 10 and 11 do not refuse, codewords, and the first bytes of a longer word.
-- Assumes nothing.
use mathlib.Core.Path.{◌≡◌, refl, sym, ap, ◌∙◌}
use mathlib.Core.Logic.{◌↔◌, ◌⊎◌, inl, inr}
use mathlib.Core.Bool.{Bool, true, false, cond}
use mathlib.Core.List.{List, ◌++◌}
use Prim.Native.Nat.{ℕ, ◌+◌, ◌-◌, ◌≤◌, ◌<◌}
use native.Mathlib.Nat.{zero-add}
use native.Mathlib.Omega.{arith}
use lib.Dec.{eqb, ltb}
use lib.ListN.{length, take, replicate, length-append, length-replicate, get_or-replicate, get_or-append}
use lib.Seq.{get_or-take, get_or-append-add, length-take-le, ext_get_or}
use borrow.Author.Tests.{eqb-true, ltb-false, le-ltb, ne_eqb}
use Rattle.parity.specs.Finite.{list_from, one}
use Rattle.parity.specs.Matrix.{Matrix}
use Rattle.parity.specs.Words.{is_one, inside}
use Rattle.parity.specs.Causes.{Reply}
use Rattle.parity.specs.Calls.{byte_of, wrong_byte, checking_bytes}
use Rattle.parity.specs.Demand3.{erasing}
use Rattle.parity.proofs.Finite.Sums.{is_true, is_false, is, one≤1, eqb_one, eqb_two, byte_known}
use Rattle.parity.proofs.Finite.Lists.{length_list_from, at_list_from}
use Rattle.parity.proofs.Splits.Split.{Stops, Even}
use Rattle.parity.proofs.Words.Extend.{inside_cong}
use Rattle.parity.proofs.Finite.Firsts.{none_at, any_none}
use native.Mathlib.Decide.{ℕ_discrete}

-- bytes that cause 11 does not refuse
pub right_bytes : (top : ℕ) (w : List ℕ) → (wrong_byte top w ≡ false) ↔ ((b : ℕ) → b < length w → byte_of w b ≤ top)
unfolding wrong_byte
right_bytes top w = (
  λ e b l. ltb-false top (byte_of w b) (none_at (length w) (λ b. ltb top (byte_of w b)) e b l),
  λ f. any_none (length w) (λ b. ltb top (byte_of w b)) (λ b l. le-ltb top (byte_of w b) (f b l)),
)

-- the byte of a bit that may be erased: 2 exactly if it is, and else the bit
pub erasable_most : (e x : Bool) → cond e 2 (one x) ≤ 2
erasable_most true x = omega arith
erasable_most false x = omega (arith, one≤1 x)

pub erasable_erased : (e x : Bool) → eqb (cond e 2 (one x)) 2 ≡ e
erasable_erased true x = refl
erasable_erased false x = eqb_two x

pub erasable_of : (a : ℕ) → a ≤ 2 → cond (eqb a 2) 2 (one (eqb a 1)) ≡ a
erasable_of a k = elim (ℕ_discrete a 2) [ yes q ↦ rw q | no d ↦ rw (ne_eqb a 2 d) (byte_known a k d) ]

pub erasable_bit : (e x : Bool) → cond (eqb (cond e 2 (one x)) 2) x (eqb (cond e 2 (one x)) 1) ≡ x
erasable_bit true x = refl
erasable_bit false x = rw (eqb_two x) (eqb_one x)

-- a word of N bytes up to `top`: causes 10 and 11 do not refuse it
pub record Word (N top : ℕ) (w : List ℕ) : Type 0 where
  pub size : length w ≡ N
  pub bytes : (b : ℕ) → b < N → byte_of w b ≤ top

pub word_right : (N top : ℕ) (w : List ℕ) → Word N top w → wrong_byte top w ≡ false
word_right N top w W = (right_bytes top w).1 (λ b l. W.bytes b (omega (arith, W.size)))

-- an answer behind causes 10 and 11
pub read_word : (N top : ℕ) (w : List ℕ) (r : Reply) → (checking_bytes N top w r).number ≡ 0 → Word N top w × (checking_bytes N top w r ≡ r)
read_word N top w r e =
    elim (is (eqb (length w) N)) [
      | is_false p ↦ absurd (omega (arith, rw p at e))
      | is_true p ↦ elim (is (wrong_byte top w)) [
        | is_true q ↦ absurd (omega (arith, rw (p, q) at e))
        | is_false q ↦ (
          record { size = eqb-true (length w) N p; bytes = λ b l. (right_bytes top w).0 q b (omega (arith, eqb-true (length w) N p)) },
          rw (p, q),
        )
      ]
    ]

-- a codeword, as a list of bytes
pub record Codeword (h : Matrix) (N M : ℕ) (w : List ℕ) : Type 0 where
  pub word : Word N 1 w
  pub even : Even h N M (is_one (byte_of w))

-- the first bytes of a longer word
module _ (N L top : ℕ) (w : List ℕ) (W : Word L top w) (l : N ≤ L) where
  pub take_word : Word N top (take N w)
  take_word = record {
    size = length-take-le N w (omega (arith, W.size));
    bytes = λ b k. rw (get_or-take N w b 0 k) (W.bytes b (omega arith));
  }

  take_inside : (h : Matrix) (c : ℕ) → inside h N c (is_one (byte_of (take N w))) ≡ inside h N c (is_one (byte_of w))
  take_inside h c = inside_cong h N c (λ b k. rw (get_or-take N w b 0 k))

  pub take_even : (h : Matrix) (M : ℕ) → Even h N M (is_one (byte_of w)) → Even h N M (is_one (byte_of (take N w)))
  take_even h M e c k = rw (take_inside h c) (e c k)

  pub take_stops : (h : Matrix) (M : ℕ) → Stops h N M (is_one (byte_of w)) → Stops h N M (is_one (byte_of (take N w)))
  take_stops h M t c k e = t c k (sym (take_inside h c) ∙ e)

-- a word of n bytes with k bytes of 2 behind it
module _ (n : ℕ) (w : List ℕ) (size : length w ≡ n) (k : ℕ) where
  pub longer_sent : (b : ℕ) → b < n → byte_of (w ++ replicate k 2) b ≡ byte_of w b
  longer_sent b l = get_or-append w (replicate k 2) 0 b (omega arith)

  pub longer_added : (b : ℕ) → n ≤ b → b < n + k → byte_of (w ++ replicate k 2) b ≡ 2
  longer_added b l q =
      let j : b ≡ length w + (b - n) = omega arith in
      rw j (get_or-append-add w (replicate k 2) (b - n) 0 ∙ get_or-replicate k (b - n) 2 0 (omega arith))

  pub longer_size : length (w ++ replicate k 2) ≡ n + k
  longer_size = length-append w (replicate k 2) ∙ rw (size, length-replicate {A = ℕ} k 2)

-- a list is that of its bytes
pub list_bytes : (N : ℕ) (w : List ℕ) → length w ≡ N → list_from 0 N (byte_of w) ≡ w
list_bytes N w e =
    sym (ext_get_or 0 w (list_from 0 N (byte_of w)) (e ∙ sym (length_list_from 0 N (byte_of w))) (λ b l.
    ap (byte_of w) (sym (zero-add b)) ∙ sym (at_list_from 0 N (byte_of w) b (omega arith))))

-- a byte that is made 2 or left
made_or_left : (e : Bool) (a : ℕ) → (cond e 2 a ≡ 2) ⊎ (cond e 2 a ≡ a)
made_or_left true a = inl refl
made_or_left false a = inr refl

-- the word x in which the bytes of e are made 2
module _ (n : ℕ) (x : List ℕ) (X : Word n 1 x) (e : ℕ → Bool) where
  pub erased_at : (b : ℕ) → b < n → byte_of (erasing e x) b ≡ cond (e b) 2 (byte_of x b)
  unfolding erasing
  erased_at b l = at_list_from 0 (length x) (λ b. cond (e b) 2 (byte_of x b)) b (omega (arith, X.size)) ∙ rw (zero-add b)

  pub erased_got : (b : ℕ) → b < n → (byte_of (erasing e x) b ≡ 2) ⊎ (byte_of (erasing e x) b ≡ byte_of x b)
  erased_got b l = rw (erased_at b l) (made_or_left (e b) (byte_of x b))

  pub erased_size : length (erasing e x) ≡ n
  unfolding erasing
  erased_size = length_list_from 0 (length x) (λ b. cond (e b) 2 (byte_of x b)) ∙ X.size
