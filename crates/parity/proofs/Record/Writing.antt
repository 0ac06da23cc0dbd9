-- The words of a written record: how many there are, bits that are none, and the last check or bit apart. Assumes nothing.
use mathlib.Core.Path.{◌≡◌, refl, ap, ◌∙◌}
use mathlib.Core.Bool.{Bool, true, false, cond}
use mathlib.Core.List.{[], ◌∷◌, append-nil, List, ◌++◌, append_assoc}
use Prim.Native.Nat.{ℕ, zero, suc, ◌+◌, ◌*◌, ◌^◌, ◌≤◌, ◌<◌}
use native.Mathlib.Decide.{ℕ_discrete}
use native.Mathlib.Omega.{arith}
use lib.Arith.{le-zero}
use lib.ListN.{length, length-append}
use Rattle.parity.specs.Finite.{one, sum, count}
use Rattle.parity.specs.Matrix.{Matrix}
use Rattle.parity.specs.Splits.{Pair}
use Rattle.parity.specs.Record.{kind_of, bit_words, opening, check_words, splitting, split_words, record_of}
use Rattle.parity.specs.declared.Form.{Form}
use Rattle.parity.proofs.Finite.Sums.{count_bound, count_end}
use Rattle.parity.proofs.Record.Reading.{word_kind}

pub length_one : (b : Bool) (w : ℕ) → length (cond b (w ∷ []) []) ≡ one b
length_one true w = refl
length_one false w = refl

pub length_bits : (s : ℕ → Bool) (b : ℕ) → length (bit_words s b) ≡ count b s
unfolding bit_words count sum
length_bits s zero = refl
length_bits s (suc b) = length-append (bit_words s b) _ ∙ rw (length_one (s b)) (omega (arith, length_bits s b))

pub length_check : (f : Form) (h : Matrix) (n c : ℕ) → length (check_words f h n (suc c)) ≡ length (check_words f h n c) + (1 + count n (h c))
unfolding check_words
length_check f h n c = length-append (check_words f h n c) _ ∙ omega (arith, length_bits (h c) n)

pub length_checks : (f : Form) (h : Matrix) (n c : ℕ) → length (check_words f h n c) ≡ sum c (λ d. 1 + count n (h d))
unfolding sum
length_checks f h n zero = unfold check_words in refl
length_checks f h n (suc c) = length_check f h n c ∙ ap (λ (x : ℕ). x + (1 + count n (h c))) (length_checks f h n c)

pub length_splits : (ps : List Pair) → length (split_words ps) ≡ length ps
unfolding split_words
length_splits [] = refl
length_splits (p ∷ ps) = length-append (split_words ps) (splitting p ∷ []) ∙ omega (arith, length_splits ps)

pub length_record : (f : Form) (h : Matrix) (n m : ℕ) (ps : List Pair) → length (record_of f h n m ps) ≡ length (check_words f h n m) + length ps + 2
unfolding record_of
length_record f h n m ps =
    let a = length-append (check_words f h n m) (split_words ps ++ ((15 * 2 ^ 28) ∷ [])) in
    omega (arith, length-append (split_words ps) ((15 * 2 ^ 28) ∷ []), length_splits ps)

-- At most 14,522 words are used, and one more for each split.
checks_most : (f : Form) (h : Matrix) (n c : ℕ) → n ≤ 120 → length (check_words f h n c) ≤ c * 121
checks_most f h n zero k = unfold check_words in omega arith
checks_most f h n (suc c) k = omega (arith, length_check f h n c, checks_most f h n c k, count_bound n (h c))

pub record_most : (f : Form) (h : Matrix) (n m : ℕ) (ps : List Pair) → n ≤ 120 → m ≤ 120 → length (record_of f h n m ps) ≤ 14522 + length ps
record_most f h n m ps k l = omega (arith, length_record f h n m ps, checks_most f h n m k)

-- none of the bits from a on
pub no_word : (s : ℕ → Bool) (b : ℕ) → s b ≡ false → bit_words s (suc b) ≡ bit_words s b
unfolding bit_words
no_word s b e = rw e (append-nil (bit_words s b))

pub bits_end : (s : ℕ → Bool) (a b : ℕ) → a ≤ b → ((i : ℕ) → a ≤ i → i < b → s i ≡ false) → bit_words s b ≡ bit_words s a
bits_end s a zero k f = rw (le-zero k)
bits_end s a (suc b) k f =
    elim (ℕ_discrete a (suc b)) [
      | yes q ↦ rw q
      | no d ↦ no_word s b (f b (omega arith) (omega arith)) ∙ bits_end s a b (omega arith) (λ i l m. f i l (omega arith))
    ]

-- A record does not depend on bits that no check contains.
pub checks_wider : (f : Form) (h : Matrix) (n n' c : ℕ) → n ≤ n' → ((d b : ℕ) → n ≤ b → h d b ≡ false) → check_words f h n' c ≡ check_words f h n c
unfolding check_words
checks_wider f h n n' zero k e = refl
checks_wider f h n n' (suc c) k e =
    rw (checks_wider f h n n' c k e, count_end n n' (h c) k (λ b l m. e c b l), bits_end (h c) n n' k (λ b l m. e c b l))

pub bit_last : (s : ℕ → Bool) (b : ℕ) → s b ≡ true → bit_words s (suc b) ≡ bit_words s b ++ ((3 * 2 ^ 28 + b) ∷ [])
unfolding bit_words
bit_last s b e = rw e

pub no_bits : (s : ℕ → Bool) (ws : List ℕ) → bit_words s 0 ++ ws ≡ ws
unfolding bit_words
no_bits s ws = refl

-- the words of a check's bits, the last one apart
pub bits_more : (s : ℕ → Bool) (low b : ℕ) (ws : List ℕ) → low ≤ b → ((a : ℕ) → low ≤ a → a < b → s a ≡ false) → s b ≡ true
    → bit_words s (suc b) ++ ws ≡ bit_words s low ++ ((3 * 2 ^ 28 + b) ∷ ws)
bits_more s low b ws k f e = rw (bit_last s b e, bits_end s low b k f) (append_assoc (bit_words s low) ((3 * 2 ^ 28 + b) ∷ []) ws)

-- the written checks, the last one apart
pub check_after : (f : Form) (h : Matrix) (n c : ℕ) (ws : List ℕ)
    → check_words f h n (suc c) ++ ws ≡ check_words f h n c ++ (opening f c (count n (h c)) ∷ (bit_words (h c) n ++ ws))
unfolding check_words
check_after f h n c ws = append_assoc (check_words f h n c) _ ws

pub no_checks : (f : Form) (h : Matrix) (n : ℕ) (ws : List ℕ) → check_words f h n 0 ++ ws ≡ ws
unfolding check_words
no_checks f h n ws = refl

-- What passes over kind 3 words passes over a check's bits.
module _ (F : List ℕ → List ℕ) (pass : (w : ℕ) (ws : List ℕ) → kind_of w ≡ 3 → F (w ∷ ws) ≡ w ∷ F ws) where
  bit_passed : (s : Bool) (b : ℕ) (ws : List ℕ) → b < 2 ^ 28 → F (cond s ((3 * 2 ^ 28 + b) ∷ []) [] ++ ws) ≡ cond s ((3 * 2 ^ 28 + b) ∷ []) [] ++ F ws
  bit_passed true b ws k = pass (3 * 2 ^ 28 + b) ws (word_kind 3 b k)
  bit_passed false b ws k = refl

  pub bits_passed : (s : ℕ → Bool) (b : ℕ) (ws : List ℕ) → b ≤ 120 → F (bit_words s b ++ ws) ≡ bit_words s b ++ F ws
  unfolding bit_words
  bits_passed s zero ws k = refl
  bits_passed s (suc b) ws k =
      ap F (append_assoc (bit_words s b) _ ws) ∙ bits_passed s b (cond (s b) ((3 * 2 ^ 28 + b) ∷ []) [] ++ ws) (omega arith)
      ∙ rw (bit_passed (s b) b ws (omega arith), append_assoc)

-- the words of the splits, the newest one apart
pub split_after : (p : Pair) (ps : List Pair) (ws : List ℕ) → split_words (p ∷ ps) ++ ws ≡ split_words ps ++ (splitting p ∷ ws)
unfolding split_words
split_after p ps ws = append_assoc (split_words ps) (splitting p ∷ []) ws
