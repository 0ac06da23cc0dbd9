-- The words of lanes and of losses, the words of rows read, and which bits of a lane stay open. Assumes nothing.
use mathlib.Core.Path.{◌≡◌, refl, sym, ap, ◌∙◌}
use mathlib.Core.Bool.{Bool, true, false, not, cond, ◌&&◌, xor, and-false}
use mathlib.Core.List.{List}
use Prim.Native.Nat.{ℕ, ◌+◌, ◌*◌, ◌/◌, ◌%◌, ◌^◌, ◌<◌}
use native.Mathlib.Nat.{zero-add, mod-lt, div-lt_iff_lt-mul}
use native.Mathlib.Omega.{arith}
use native.Mathlib.Decide.{ℕ_discrete}
use lib.Arith.{digits_div, digits_mod, digits_lt}
use lib.Dec.{eqb}
use lib.ListN.{length, get_or}
use lib.Seq.{ext_get_or}
use borrow.Author.Tests.{lt-ltb, not-true}
use Rattle.parity.specs.Finite.{one, count}
use Rattle.parity.specs.Matrix.{Matrix, lent, word_of}
use Rattle.parity.specs.Words.{erased, is_one, inside}
use Rattle.parity.specs.Determining.{some_agrees, determined}
use Rattle.parity.specs.Calls.{byte_of}
use Rattle.parity.specs.Packets.{lane_word, lost_word, words_of}
use Rattle.parity.proofs.Finite.Bools.{xor_self, xor_false}
use Rattle.parity.proofs.Finite.Sums.{is_true, is_false, is, sum_zero}
use Rattle.parity.proofs.Matrix.Digits.{same_bits}
use Rattle.parity.proofs.Matrix.Packing.{word_lt, word_bit, lent_flat}
use Rattle.parity.proofs.Finite.Lists.{length_list_from, at_list_from}
use Rattle.parity.proofs.Words.Residue.{inside_xor}
use Rattle.parity.proofs.Words.Agreeing.{Agree, some_of, some_at, open_at, stays_open, written_value}
use Rattle.parity.proofs.Words.Bytes.{Word, erasable_most, erasable_erased, erasable_bit}

-- reading the words of rows
module _ (W R : ℕ) (g : Matrix) where
  pub words_length : length (words_of W R g) ≡ R * W
  unfolding words_of
  words_length = length_list_from 0 (R * W) (word_of W g)

  words_at : (i : ℕ) → i < R * W → get_or (words_of W R g) i 0 ≡ word_of W g i
  unfolding words_of
  words_at i k = at_list_from 0 (R * W) (word_of W g) i k ∙ ap (word_of W g) (zero-add i)

  pub lent_words : (c b : ℕ) → c < R → b < W * 64 → lent W (words_of W R g) c b ≡ g c b
  unfolding lent
  lent_words c b k l =
      let i : ℕ = c * W + b / 64 in
      let r : b / 64 < W = omega arith in
      let e : b / 64 * 64 + b % 64 ≡ b = omega arith in
      rw (lt-ltb b (W * 64) l, words_at i (digits_lt k r), word_bit W g i (b % 64) (omega arith), digits_div c r, digits_mod c r, e)

  -- words that hold the rows are these
  pub words_made : (ws : List ℕ) → length ws ≡ R * W → ((i : ℕ) → i < R * W → get_or ws i 0 < 2 ^ 64) → ((c b : ℕ) → c < R → b < W * 64 → lent W ws c b ≡ g c b) → ws ≡ words_of W R g
  words_made ws e f h = ext_get_or 0 ws (words_of W R g) (e ∙ sym words_length) (λ i l.
      let k : i < R * W = rw e at l in
      let w : 0 < W = positive i k in
      rw (words_at i k) (same_bits 64 (get_or ws i 0) (word_of W g i) (f i k) (word_lt W g i) (λ j m.
      sym (lent_flat W w ws i j m) ∙ h (i / W) (i % W * 64 + j) ((div-lt_iff_lt-mul w).1 k) (omega (arith, mod-lt i w)) ∙ sym (word_bit W g i j m))))
    where
      positive : (i : ℕ) → i < R * W → 0 < W
      positive i k = elim (ℕ_discrete W 0) [ yes q ↦ absurd (omega (arith, rw q at k)) | no d ↦ omega arith ]

-- words that hold the same rows
pub words_cong : (W R : ℕ) (g h : Matrix) → ((c b : ℕ) → c < R → b < W * 64 → g c b ≡ h c b) → words_of W R g ≡ words_of W R h
words_cong W R g h f =
    words_made W R h (words_of W R g) (words_length W R g) (λ i l. rw (words_at W R g i l) (word_lt W g i)) (λ c b k l. lent_words W R g c b k l ∙ f c b k l)

-- Which bits stay open depends on the erased bits alone: w₀ has zeros elsewhere, and some codeword agrees with w.
module _ (h : Matrix) (N M : ℕ) (w w₀ : ℕ → ℕ) (same : (b : ℕ) → b < N → erased w₀ b ≡ erased w b) (zero : (b : ℕ) → b < N → erased w₀ b ≡ false → is_one w₀ b ≡ false) where
  sum : (ℕ → Bool) → (ℕ → Bool) → ℕ → Bool
  sum y z b = xor (y b) (z b)

  even_sum : (y z : ℕ → Bool) (c : ℕ) → inside h N c y % 2 ≡ 0 → inside h N c z % 2 ≡ 0 → inside h N c (sum y z) % 2 ≡ 0
  unfolding sum
  even_sum y z c p q = let e = inside_xor h N c y z in omega arith

  none : (ℕ → Bool)
  none b = false

  no_ones : (c : ℕ) → inside h N c none % 2 ≡ 0
  unfolding none inside count
  no_ones c = ap (◌% 2) (sum_zero N {f = λ b. one (h c b && false)} (λ b k. rw and-false))

  -- the word of zeros is a codeword that agrees with w₀
  agree_none : Agree h N M w₀ none
  unfolding none
  agree_none = record { even = λ c k. no_ones c; known = λ b l q. sym (zero b l q) }

  pub zeros_agree : some_agrees h N M w₀ ≡ true
  zeros_agree = some_of h N M w₀ none agree_none

  -- of what agrees, a bit that does not stay open is 0
  pub zero_or_open : (b : ℕ) → b < N → (determined h N M w₀ b ≡ 2 → ⊥) → determined h N M w₀ b ≡ 0
  unfolding none
  zero_or_open b l d = written_value h N M w₀ b l none agree_none d

  -- a bit at which one that agrees has a one stays open
  pub open_of : (b : ℕ) → b < N → (y : ℕ → Bool) → Agree h N M w₀ y → y b ≡ true → determined h N M w₀ b ≡ 2
  unfolding none
  open_of b l y a p = stays_open h N M w₀ b l y none a agree_none p refl

  -- two codewords that agree with w differ by one that agrees with w₀
  pub open_less : (b : ℕ) → b < N → determined h N M w b ≡ 2 → determined h N M w₀ b ≡ 2
  unfolding sum none
  open_less b l q =
      let (y, z, u, v, p, r) = open_at h N M w b q in
      stays_open h N M w₀ b l (sum y z) none
      record {
        even = λ c k. even_sum y z c (u.even c k) (v.even c k);
        known = λ a i t. let s = sym (same a i) ∙ t in rw (u.known a i s, v.known a i s, zero a i t) (xor_self (is_one w a) (is_one w a) refl);
      }
      agree_none (rw (p, not-true (z b) r) (unfold xor in refl)) refl

  -- and one that agrees with w₀ makes another of one that agrees with w
  pub open_more : some_agrees h N M w ≡ true → (b : ℕ) → b < N → determined h N M w₀ b ≡ 2 → determined h N M w b ≡ 2
  open_more t b l q =
      let (u, a) = some_at h N M w t in
      let (y, z, v, v', p, r) = open_at h N M w₀ b q in
      both u (sum u y) a
      record {
        even = λ c k. even_sum u y c (a.even c k) (v.even c k);
        known = λ d i s. unfold sum in rw (v.known d i (same d i ∙ s), zero d i (same d i ∙ s)) (xor_false (u d) ∙ a.known d i s);
      }
      (unfold sum in (rw p (flip (u b))))
    where
      flip : (x : Bool) → xor x true ≡ not x
      flip true = unfold xor in refl
      flip false = unfold xor in refl

      both : (y z : ℕ → Bool) → Agree h N M w y → Agree h N M w z → z b ≡ not (y b) → determined h N M w b ≡ 2
      both y z a d e = elim (is (y b)) [
        | is_true p ↦ stays_open h N M w b l y z a d p (e ∙ rw p)
        | is_false p ↦ stays_open h N M w b l z y d a (e ∙ rw p) p
      ]

-- the words of a lane and of the losses
module _ (N L : ℕ) (lost packets : List ℕ) (i : ℕ) where
  pub lane_at : (b : ℕ) → b < N → byte_of (lane_word N L lost packets i) b ≡ cond (eqb (byte_of lost b) 1) 2 (one (lent L packets b i))
  unfolding lane_word
  lane_at b l = at_list_from 0 N (λ b. cond (eqb (byte_of lost b) 1) 2 (one (lent L packets b i))) b l ∙ rw (zero-add b)

  -- the packet's bit is read from the lane's word, or kept where that is 2
  pub lane_bit : (b : ℕ) → b < N → let x = byte_of (lane_word N L lost packets i) b in cond (eqb x 2) (lent L packets b i) (eqb x 1) ≡ lent L packets b i
  lane_bit b l = rw (lane_at b l) (erasable_bit (eqb (byte_of lost b) 1) (lent L packets b i))

  pub lane_size : length (lane_word N L lost packets i) ≡ N
  unfolding lane_word
  lane_size = length_list_from 0 N (λ b. cond (eqb (byte_of lost b) 1) 2 (one (lent L packets b i)))

  pub lane_word_lem : Word N 2 (lane_word N L lost packets i)
  lane_word_lem = record { size = lane_size; bytes = λ b l. rw (lane_at b l) (erasable_most (eqb (byte_of lost b) 1) (lent L packets b i)) }

module _ (N : ℕ) (lost : List ℕ) where
  pub lost_at : (b : ℕ) → b < N → byte_of (lost_word N lost) b ≡ cond (eqb (byte_of lost b) 1) 2 0
  unfolding lost_word
  lost_at b l = at_list_from 0 N (λ b. cond (eqb (byte_of lost b) 1) 2 0) b l ∙ rw (zero-add b)

  pub lost_size : length (lost_word N lost) ≡ N
  unfolding lost_word
  lost_size = length_list_from 0 N (λ b. cond (eqb (byte_of lost b) 1) 2 0)

  pub lost_word_lem : Word N 2 (lost_word N lost)
  lost_word_lem = record { size = lost_size; bytes = λ b l. rw (lost_at b l) (erasable_most (eqb (byte_of lost b) 1) false) }

  pub lost_erased : (b : ℕ) → b < N → erased (byte_of (lost_word N lost)) b ≡ eqb (byte_of lost b) 1
  lost_erased b l = rw (lost_at b l) (erasable_erased (eqb (byte_of lost b) 1) false)

  pub lost_zero : (b : ℕ) → b < N → is_one (byte_of (lost_word N lost)) b ≡ false
  lost_zero b l = rw (lost_at b l) (go (eqb (byte_of lost b) 1))
    where
      go : (x : Bool) → eqb (cond x 2 0) 1 ≡ false
      go true = refl
      go false = refl

pub lane_erased : (N L : ℕ) (lost packets : List ℕ) (i b : ℕ) → b < N → erased (byte_of (lane_word N L lost packets i)) b ≡ eqb (byte_of lost b) 1
lane_erased N L lost packets i b l = rw (lane_at N L lost packets i b l) (erasable_erased (eqb (byte_of lost b) 1) (lent L packets b i))
