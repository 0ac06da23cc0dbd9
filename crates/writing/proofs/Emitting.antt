-- Writing a record's words one after another: those of a word's ones, of a check, of the checks. Assumes nothing.
use mathlib.Core.Path.{◌≡◌, refl, sym, ap, ◌∙◌}
use mathlib.Core.Bool.{Bool, true, false, not, ◌&&◌, and-true, and-false, and-eq-true_iff}
use mathlib.Core.List.{List, [], ◌∷◌, ◌++◌, append-nil, append_assoc}
use Prim.Native.Nat.{ℕ, zero, suc, ◌+◌, ◌*◌, ◌-◌, ◌^◌, ◌≤◌, ◌<◌}
use native.Mathlib.Nat.{add-zero, add-suc, zero-add, lt_of_le_of_lt}
use native.Mathlib.Numerals.{add-one}
use native.Mathlib.Decide.{ℕ_discrete, dec_lt}
use native.Mathlib.Omega.{arith}
use lib.Arith.{le-zero}
use lib.Bits.{bit_and, and_le_l}
use lib.Dec.{eqb, ltb}
use lib.ListN.{get_or, length, set, drop, length-append}
use lib.Seq.{sets-eq, length-sets}
use borrow.Author.Tests.{eq-eqb, ne_eqb, lt-ltb, le-ltb, ltb-false, not-true}
use Rattle.parity.specs.Finite.{sum, count, list_from}
use Rattle.parity.specs.Matrix.{Matrix, bit_of, lent}
use Rattle.parity.specs.Cycles.{lower_of, higher_of}
use Rattle.parity.specs.Splits.{pair_of, all_back, not_built}
use Rattle.parity.specs.Record.{head_kind, bit_words, opening, check_words, splitting, record_of, form_for, written}
use Rattle.parity.specs.declared.Form.{Form}
use Rattle.parity.specs.Sound.{Sound}
use Rattle.parity.proofs.Finite.Sums.{count_mono}
use Rattle.parity.proofs.Finite.Lists.{length_list_from, list_from_snoc, sets_append}
use Rattle.parity.proofs.Matrix.Digits.{bit_zero}
use Rattle.parity.proofs.Matrix.Lent.{lent_word}
use Rattle.parity.proofs.Matrix.Ones.{Lowest}
use Rattle.parity.proofs.Matrix.Rest.{rest_bit}
use Rattle.parity.proofs.Record.Writing.{length_one, length_bits, length_check, length_checks, checks_wider}
use Rattle.parity.proofs.Matrix.Sound.{sound_rule}
use Rattle.parity.proofs.Splits.Undo.{higher_at}
use Rattle.parity.proofs.Lists.Rebuilt.{built_recovers, all_sound, written_built, recovered_words}
use Rattle.rows.specs.Rows.{NextOne}
use Rattle.exchange.proofs.ReadPair.{first_one, second_one}
use Rattle.writing.specs.Write.{word_ones, check_of, split_of_check, plain_record, Wrote}

pub wrote_none : (old : List ℕ) (p : ℕ) → Wrote old old p [] p
wrote_none old p = record { stored = refl; place = sym (add-zero p) }

pub wrote_more : (old new newer : List ℕ) (p q r : ℕ) (vs us : List ℕ) → Wrote old new p vs q → Wrote new newer q us r → Wrote old newer p (vs ++ us) r
wrote_more old new newer p q r vs us A B = record {
  stored = B.stored ∙ rw (A.stored, A.place) (sym (sets_append old p vs us));
  place = B.place ∙ rw (A.place, length-append vs us) (omega arith);
}

pub wrote_one : (old : List ℕ) (p v : ℕ) → Wrote old (set old p v) p (v ∷ []) (p + 1)
wrote_one old p v = record { stored = refl; place = refl }

pub wrote_length : (old new : List ℕ) (p r : ℕ) (ws : List ℕ) → Wrote old new p ws r → length new ≡ length old
wrote_length old new p r ws A = rw A.stored (length-sets old p ws)

-- the words of a word's ones
pub length_ones : (first x b : ℕ) → length (word_ones first x b) ≡ count b (bit_of x)
unfolding word_ones count sum
length_ones first x zero = refl
length_ones first x (suc b) = length-append (word_ones first x b) _ ∙ rw (length_one (bit_of x b)) (omega (arith, length_ones first x b))

ones_no : (first x b : ℕ) → bit_of x b ≡ false → word_ones first x (suc b) ≡ word_ones first x b
unfolding word_ones
ones_no first x b e = rw e (append-nil (word_ones first x b))

ones_yes : (first x b : ℕ) → bit_of x b ≡ true → word_ones first x (suc b) ≡ word_ones first x b ++ ((first + b) ∷ [])
unfolding word_ones
ones_yes first x b e = rw e

-- none from a on
ones_end : (first x a b : ℕ) → a ≤ b → ((i : ℕ) → a ≤ i → i < b → bit_of x i ≡ false) → word_ones first x b ≡ word_ones first x a
ones_end first x a zero k f = rw (le-zero k)
ones_end first x a (suc b) k f =
    elim (ℕ_discrete a (suc b)) [
      | yes q ↦ rw q
      | no d ↦ ones_no first x b (f b (omega arith) (omega arith)) ∙ ones_end first x a b (omega arith) (λ i l m. f i l (omega arith))
    ]

-- the ones of x below `to` are written, and `rest` has the others
pub record Emitting (old new : List ℕ) (p first x rest at : ℕ) : Type 0 where
  pub to : ℕ
  pub top : to ≤ 64
  pub fits : rest < 2 ^ 64
  pub left : (i : ℕ) → i < 64 → bit_of rest i ≡ (bit_of x i && not (ltb i to))
  pub wrote : Wrote old new p (word_ones first x to) at

pub emitting_none : (old : List ℕ) (p first x : ℕ) → x < 2 ^ 64 → Emitting old old p first x x p
emitting_none old p first x k = record {
  to = 0;
  top = omega arith;
  fits = k;
  left = λ i l. rw (le-ltb i 0 (omega arith), and-true);
  wrote = unfold word_ones in wrote_none old p;
}

module _ (old new : List ℕ) (p first x rest at : ℕ) (E : Emitting old new p first x rest at) where
  pub emitting_end : rest ≡ 0 → Wrote old new p (word_ones first x 64) at
  emitting_end z =
      let none : (i : ℕ) → E.to ≤ i → i < 64 → bit_of x i ≡ false =
      λ i k l. sym (and-true (bit_of x i)) ∙ sym (E.left i l ∙ rw (le-ltb i E.to k)) ∙ rw z (bit_zero i) in
      rw (ones_end first x E.to 64 E.top none) E.wrote

  module _ (t : ℕ) (L : Lowest 64 rest t) where
    here : (bit_of x t && not (ltb t E.to)) ≡ true
    here = sym (E.left t L.short) ∙ L.here

    above : E.to ≤ t
    above = ltb-false t E.to (not-true (ltb t E.to) ((and-eq-true_iff (bit_of x t) (not (ltb t E.to))).0 here).1)

    between : (i : ℕ) → E.to ≤ i → i < t → bit_of x i ≡ false
    between i k l = sym (and-true (bit_of x i)) ∙ sym (E.left i (omega (arith, L.short)) ∙ rw (le-ltb i E.to k)) ∙ L.none i l

    next_word : word_ones first x (suc t) ≡ word_ones first x E.to ++ ((first + t) ∷ [])
    next_word =
        ones_yes first x t ((and-eq-true_iff (bit_of x t) (not (ltb t E.to))).0 here).0
        ∙ rw (ones_end first x E.to t above between)

    pub emitting_room : at + 1 ≤ p + length (word_ones first x 64)
    emitting_room =
        let a = ap length next_word ∙ length-append (word_ones first x E.to) ((first + t) ∷ []) in
        omega (arith, E.wrote.place, length_ones first x (suc t), length_ones first x 64, count_mono (suc t) 64 (bit_of x) (omega (arith, L.short)))

    pub emitting_next : Emitting old (set new at (first + t)) p first x (bit_and rest (rest - 1)) (at + 1)
    emitting_next = record {
      to = suc t;
      top = omega (arith, L.short);
      fits = lt_of_le_of_lt (and_le_l rest (rest - 1)) E.fits;
      left = λ i l. rest_bit 64 rest t L i ∙ rw (E.left i l) (go i l);
      wrote = rw next_word (wrote_more old new (set new at (first + t)) p at (at + 1) (word_ones first x E.to) ((first + t) ∷ []) E.wrote (wrote_one new at (first + t)));
    }
      where
        go : (i : ℕ) → i < 64 → (bit_of x i && not (ltb i E.to) && not (eqb i t)) ≡ (bit_of x i && not (ltb i (suc t)))
        go i l =
            elim (ℕ_discrete i t) [
              | yes q ↦ rw (q, eq-eqb t t refl, lt-ltb t (suc t) (omega arith), and-false, and-false)
              | no d ↦ rw (ne_eqb i t d, and-true) (elim (dec_lt i t) [
                | no k ↦ rw (le-ltb i E.to (omega (arith, above)), le-ltb i (suc t) (omega arith))
                | yes k ↦ rw (lt-ltb i (suc t) (omega arith), and-false) (elim (dec_lt i E.to) [
                  | yes r ↦ rw (lt-ltb i E.to r, and-false)
                  | no r ↦ rw (between i (omega arith) k)
                ])
              ])
            ]

-- the bits of a check, those of a word behind those of the words before
bits_word : (s : ℕ → Bool) (x a b : ℕ) → ((i : ℕ) → i < b → s (a + i) ≡ bit_of x i) → bit_words s (a + b) ≡ bit_words s a ++ word_ones (3 * 2 ^ 28 + a) x b
unfolding bit_words word_ones
bits_word s x a zero f = rw (add-zero a) (sym (append-nil (bit_words s a)))
bits_word s x a (suc b) f =
    let e : 3 * 2 ^ 28 + (a + b) ≡ 3 * 2 ^ 28 + a + b = omega arith in
    rw (add-suc a b, bits_word s x a b (λ i l. f i (omega arith)), f b (omega arith), e) (append_assoc (bit_words s a) (word_ones (3 * 2 ^ 28 + a) x b) _)

-- the bits of a check in one word more
module _ (W : ℕ) (ws : List ℕ) (c i : ℕ) where
  pub row_next : i < W → bit_words (lent W ws c) ((i + 1) * 64) ≡ bit_words (lent W ws c) (i * 64) ++ word_ones (3 * 2 ^ 28 + i * 64) (get_or ws (c * W + i) 0) 64
  row_next k =
      let e : (i + 1) * 64 ≡ i * 64 + 64 = omega arith in
      rw e (bits_word (lent W ws c) (get_or ws (c * W + i) 0) (i * 64) 64 (λ j l. lent_word W ws c i j k l))

  -- has room where the first `used` words have it
  pub bits_room : (used : ℕ) → i < used → used ≤ W
      → length (bit_words (lent W ws c) (i * 64)) + length (word_ones (3 * 2 ^ 28 + i * 64) (get_or ws (c * W + i) 0) 64) ≤ length (bit_words (lent W ws c) (used * 64))
  bits_room used k l =
      let a = ap length (row_next (omega arith)) ∙ length-append (bit_words (lent W ws c) (i * 64)) (word_ones (3 * 2 ^ 28 + i * 64) (get_or ws (c * W + i) 0) 64) in
      omega (arith, length_bits (lent W ws c) ((i + 1) * 64), length_bits (lent W ws c) (used * 64), count_mono ((i + 1) * 64) (used * 64) (lent W ws c) (omega arith))

-- the words of a check: one that opens it, and its bits
pub check_length : (f : Form) (c : ℕ) (s : ℕ → Bool) (N : ℕ) → length (check_of f c s N) ≡ 1 + length (bit_words s N)
unfolding check_of
check_length f c s N = omega arith

pub wrote_check : (f : Form) (c : ℕ) (s : ℕ → Bool) (N x v : ℕ) (old new : List ℕ) (p r : ℕ) → v ≡ opening f c x → x ≡ count N s
    → Wrote (set old p v) new (p + 1) (bit_words s N) r → Wrote old new p (check_of f c s N) r
unfolding check_of
wrote_check f c s N x v old new p r d e A =
    rw (← e, ← d) (wrote_more old (set old p v) new p (p + 1) r (v ∷ []) (bit_words s N) (wrote_one old p v) A)

-- the checks
pub checks_next : (f : Form) (h : Matrix) (N c : ℕ) → check_words f h N (c + 1) ≡ check_words f h N c ++ check_of f c (h c) N
unfolding check_words check_of
checks_next f h N c = rw (add-one c)

pub checks_mono : (f : Form) (h : Matrix) (n c m : ℕ) → c ≤ m → length (check_words f h n c) ≤ length (check_words f h n m)
checks_mono f h n c zero k = rw (le-zero k) (omega arith)
checks_mono f h n c (suc m) k =
    elim (ℕ_discrete c (suc m)) [ yes q ↦ rw q (omega arith) | no d ↦ omega (arith, checks_mono f h n c m (omega arith), length_check f h n m) ]

-- the splits
pub splits_next : (f : ℕ → ℕ) (old new : List ℕ) (p j v : ℕ) → Wrote old new p (list_from 0 j f) (p + j) → v ≡ f j
    → Wrote old (set new (p + j) v) p (list_from 0 (j + 1) f) (p + (j + 1))
splits_next f old new p j v A e =
    let z : 0 + j ≡ j = omega arith in
    let q : p + (j + 1) ≡ p + j + 1 = omega arith in
    let t : list_from 0 (j + 1) f ≡ list_from 0 j f ++ (v ∷ []) = rw (add-one j, e) (list_from_snoc 0 j f ∙ rw z) in
    rw (t, q) (wrote_more old new (set new (p + j) v) p (p + j) (p + j + 1) (list_from 0 j f) (v ∷ []) A (wrote_one new (p + j) v))

pub splits_none : (f : ℕ → ℕ) (old : List ℕ) (p : ℕ) → Wrote old old p (list_from 0 0 f) (p + 0)
unfolding list_from
splits_none f old p = rw (add-zero p) (wrote_none old p)

-- the two lower bits of an added check
module _ (h : Matrix) (n m k j : ℕ) (S : Sound h n m k) (l : j < k) where
  small : n + j < 512
  small = omega (arith, S.n120, S.k392)

  pub lower_read : (u : ℕ) → NextOne 512 (h (m + j)) 0 u → u ≡ lower_of h (n + j) (m + j)
  unfolding lower_of
  lower_read u F = first_one (h (m + j)) (n + j) (sound_rule h n m k j S l).two small u F

  pub higher_read : (u v : ℕ) → NextOne 512 (h (m + j)) 0 u → NextOne 512 (h (m + j)) (u + 1) v → v ≡ higher_of h (n + j) (m + j)
  unfolding lower_of higher_of
  higher_read u v F G = second_one (h (m + j)) (n + j) (sound_rule h n m k j S l).two small v (rw (lower_read u F) at G)

  pub lower_small : lower_of h (n + j) (m + j) < 511
  unfolding lower_of
  lower_small = let t = higher_at (n + j) (h (m + j)) (sound_rule h n m k j S l).two in omega (arith, small, t.0, t.1)

  pub higher_small : higher_of h (n + j) (m + j) < 512
  unfolding lower_of higher_of
  higher_small = let t = higher_at (n + j) (h (m + j)) (sound_rule h n m k j S l).two in omega (arith, small, t.1)

  pub word_read : (u v w : ℕ) → u ≡ lower_of h (n + j) (m + j) → v ≡ higher_of h (n + j) (m + j) → w ≡ 6 * 2 ^ 28 + (v * 512 + u) → w ≡ split_of_check h n m j
  unfolding split_of_check splitting pair_of
  word_read u v w a b e = rw (← a, ← b) e

-- the whole record
pub plain_length : (f : Form) (g : Matrix) (N : ℕ) (h : Matrix) (n m k : ℕ) → length (plain_record f g N h n m k) ≡ length (check_words f g N m) + k + 2
unfolding plain_record
plain_length f g N h n m k =
    let a = length-append (check_words f g N m) (list_from 0 k (split_of_check h n m) ++ ((15 * 2 ^ 28) ∷ [])) in
    omega (arith, length-append (list_from 0 k (split_of_check h n m)) ((15 * 2 ^ 28) ∷ []), length_list_from 0 k (split_of_check h n m))

pub wrote_plain : (f : Form) (g : Matrix) (N : ℕ) (h : Matrix) (n m k v : ℕ) (old new newer : List ℕ) (q r : ℕ) → v ≡ head_kind f * 2 ^ 28 + m * 256 + n
    → Wrote (set old 0 v) new 1 (check_words f g N m) q → Wrote new newer q (list_from 0 k (split_of_check h n m)) r
    → Wrote old (set newer r (15 * 2 ^ 28)) 0 (plain_record f g N h n m k) (r + 1)
unfolding plain_record
wrote_plain f g N h n m k v old new newer q r d A B =
    rw (← d) (wrote_more old (set old 0 v) (set newer r (15 * 2 ^ 28)) 0 1 (r + 1) (v ∷ []) _
    (wrote_one old 0 v) (wrote_more _ new _ 1 q (r + 1) (check_words f g N m) _ A
    (wrote_more new newer _ q r (r + 1) (list_from 0 k (split_of_check h n m)) ((15 * 2 ^ 28) ∷ []) B (wrote_one newer r (15 * 2 ^ 28)))))

pub plain_written : (g h : Matrix) (N n m k : ℕ) → n ≤ N → Sound h n m k → not_built h n m k ≡ false → g ≡ all_back h n m k
    → plain_record (form_for k) g N h n m k ≡ written h n m k
unfolding plain_record record_of written split_of_check
plain_written g h N n m k l S b e =
    let G = all_sound n m k h S in
    let R = built_recovers (all_back h n m k) n m G (written_built n m k h S b) in
    rw (e, checks_wider (form_for k) (all_back h n m k) n N m l (λ d b l. G.clean.bits d b (omega arith)), recovered_words n m k h S R.back)

-- how many words are needed
pub needed_words : (g h : Matrix) (n m k x : ℕ) → Sound h n m k → not_built h n m k ≡ false → g ≡ all_back h n m k → x ≡ sum m (λ c. 1 + count 128 (g c)) + 2
    → x + k ≡ length (written h n m k)
needed_words g h n m k x S b e q =
    let l = plain_length (form_for k) g 128 h n m k in
    let w = ap length (plain_written g h 128 n m k (omega (arith, S.n120)) S b e) in
    omega (arith, length_checks (form_for k) g 128 m)

-- what stands afterwards, where the record is long enough
pub wrote_first : (old new : List ℕ) (ws : List ℕ) (r : ℕ) → Wrote old new 0 ws r → length ws ≤ length old → new ≡ ws ++ drop (length ws) old
wrote_first old new ws r A k = A.stored ∙ sets-eq ws old 0 (rw (zero-add (length ws)) k) ∙ rw (zero-add (length ws))
