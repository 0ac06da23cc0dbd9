-- Loading what was written gives the matrix that was written. Assumes nothing.
use mathlib.Core.Path.{◌≡◌, ◌∙◌}
use mathlib.Core.Bool.{true, false}
use mathlib.Core.List.{List, [], ◌∷◌, ◌++◌, append_assoc}
use Prim.Native.Nat.{ℕ, zero, suc, ◌+◌, ◌*◌, ◌-◌, ◌/◌, ◌%◌, ◌^◌, ◌≤◌, ◌<◌}
use native.Mathlib.Nat.{add-zero, zero-add}
use native.Mathlib.Omega.{arith}
use borrow.Author.Tests.{eq-eqb, lt-ltb}
use Rattle.parity.specs.Finite.{sum, count}
use Rattle.parity.specs.Matrix.{Matrix, put}
use Rattle.parity.specs.Record.{kind_of, payload, head_kind, form_of, head_word, number_in, open_word, bit_word, Checked, checked, reading, bit_words, opening, check_words}
use Rattle.parity.specs.declared.Form.{Form}
use Rattle.parity.specs.declared.Form.TheVariants.{First, Second, Third}
use Rattle.parity.specs.Sound.{Sound}
use Rattle.parity.proofs.Finite.Sums.{is_true, is_false, is, count_bound, count_suc}
use Rattle.parity.proofs.Matrix.Accept.{ranges}
use Rattle.parity.proofs.Record.Reading.{word_kind, word_payload, number_most, open_yes, bit_yes, checks_done}
use Rattle.parity.proofs.Record.Writing.{check_after, no_word, bit_last}
use Rattle.parity.proofs.Record.ReadPart.{cut, Inside, cut_none, cut_put, cut_skip, cut_row, cut_all}

-- Reading comes to the words ws with due ones of check c - 1 to come, and g read.
pub record Comes (f : Form) (n m : ℕ) (r : Checked) (ws : List ℕ) (c due top : ℕ) (g : Matrix) : Type 0 where
  pub place : ℕ
  pub low : ℕ
  pub under : low ≤ top
  pub comes : r ≡ reading f n m ws place c due low g

-- the word that opens a check
pub opening_made : (f : Form) (c x : ℕ) → c < 256 → x < 256
    → (kind_of (opening f c x) ≡ 2) × (payload (opening f c x) / 256 ≡ number_in f c) × (payload (opening f c x) % 256 ≡ x)
unfolding opening
opening_made f c x k l =
    let q = number_most f c in
    let t : 2 * 2 ^ 28 + number_in f c * 256 + x ≡ 2 * 2 ^ 28 + (number_in f c * 256 + x) = omega arith in
    let e : payload (2 * 2 ^ 28 + number_in f c * 256 + x) ≡ number_in f c * 256 + x = rw t (word_payload 2 (number_in f c * 256 + x) (omega arith)) in
    (rw t (word_kind 2 (number_in f c * 256 + x) (omega arith)), rw e (omega arith), rw e (omega arith))

-- what one written word does
module _ (f : Form) (n m : ℕ) (r : Checked) (ws : List ℕ) (c : ℕ) (g : Matrix) where
  come_open : (x top : ℕ) → c < m → x ≤ n → n ≤ 120 → m ≤ 120 → Comes f n m r (opening f c x ∷ ws) c 0 top g → Comes f n m r ws (suc c) x 0 g
  unfolding reading
  come_open x top l k q t C =
      let (a, b, d) = opening_made f c x (omega arith) (omega arith) in
      let o : open_word f n c (opening f c x) ≡ true = open_yes f n c (opening f c x) a b (rw d k) in
      record { place = suc C.place; low = 0; under = omega arith; comes = C.comes ∙ rw (lt-ltb c m l, o, d) }

  come_bit : (b due : ℕ) → b < n → n ≤ 120 → Comes f n m r ((3 * 2 ^ 28 + b) ∷ ws) (suc c) (suc due) b g → Comes f n m r ws (suc c) due (suc b) (put c b true g)
  unfolding reading
  come_bit b due k q C =
      let e : payload (3 * 2 ^ 28 + b) ≡ b = word_payload 3 b (omega arith) in
      let s : suc c - 1 ≡ c = omega arith in
      let o : bit_word n C.low (3 * 2 ^ 28 + b) ≡ true = bit_yes n C.low (3 * 2 ^ 28 + b) (word_kind 3 b (omega arith)) (rw e C.under) (rw e k) in
      record { place = suc C.place; low = suc b; under = omega arith; comes = C.comes ∙ rw (o, e, s) }

none_written : (f : Form) (h : Matrix) (n m : ℕ) (r : Checked) (ws : List ℕ) → Comes f n m r (check_words f h n 0 ++ ws) 0 0 0 (cut h 0 0) → Comes f n m r ws 0 0 n (cut h 0 0)
unfolding check_words
none_written f h n m r ws C = record { place = C.place; low = C.low; under = omega (arith, C.under); comes = C.comes }

-- reading the written words of a matrix
module _ (f : Form) (n m : ℕ) (few : m ≤ 120) (h : Matrix) (I : Inside n h) (r : Checked) where
  come_none : (c due : ℕ) (ws : List ℕ) → Comes f n m r (bit_words (h c) 0 ++ ws) (suc c) (count 0 (h c) + due) 0 (cut h c 0)
      → Comes f n m r ws (suc c) due 0 (cut h c 0)
  unfolding bit_words count sum
  come_none c due ws C = record { place = C.place; low = C.low; under = C.under; comes = C.comes ∙ rw (zero-add due) }

  come_yes : (c b due : ℕ) (ws : List ℕ) → b < n → h c b ≡ true → Comes f n m r ((3 * 2 ^ 28 + b) ∷ ws) (suc c) (suc due) b (cut h c b)
      → Comes f n m r ws (suc c) due (suc b) (cut h c (suc b))
  come_yes c b due ws k e D = rw (← cut_put n h I c b k e) (come_bit f n m r ws c (cut h c b) b due k I.few D)

  come_no : (c b due : ℕ) (ws : List ℕ) → b < n → h c b ≡ false → Comes f n m r ws (suc c) due b (cut h c b) → Comes f n m r ws (suc c) due (suc b) (cut h c (suc b))
  come_no c b due ws k e D = rw (← cut_skip n h I c b k e) record { place = D.place; low = D.low; under = omega (arith, D.under); comes = D.comes }

  come_bits : (c b due : ℕ) (ws : List ℕ) → b ≤ n → Comes f n m r (bit_words (h c) b ++ ws) (suc c) (count b (h c) + due) 0 (cut h c 0)
      → Comes f n m r ws (suc c) due b (cut h c b)
  come_bits c zero due ws k C = come_none c due ws C
  come_bits c (suc b) due ws k C =
      let s = count_suc b (h c) in
      elim (is (h c b)) [
        | is_true e ↦
            let t : count (suc b) (h c) + due ≡ count b (h c) + suc due = omega (arith, rw e at s) in
            come_yes c b due ws (omega arith) e (come_bits c b (suc due) ((3 * 2 ^ 28 + b) ∷ ws) (omega arith) (rw (bit_last (h c) b e, append_assoc (bit_words (h c) b) ((3 * 2 ^ 28 + b) ∷ []) ws, t) at C))
        | is_false e ↦
            let t : count (suc b) (h c) + due ≡ count b (h c) + due = omega (arith, rw e at s) in
            come_no c b due ws (omega arith) e (come_bits c b due ws (omega arith) (rw (no_word (h c) b e, t) at C))
      ]

  come_check : (c : ℕ) (ws : List ℕ) → c < m → Comes f n m r (opening f c (count n (h c)) ∷ (bit_words (h c) n ++ ws)) c 0 n (cut h c 0)
      → Comes f n m r ws (suc c) 0 n (cut h (suc c) 0)
  come_check c ws k D =
      let E = come_open f n m r (bit_words (h c) n ++ ws) c (cut h c 0) (count n (h c)) n k (count_bound n (h c)) I.few few D in
      rw (← cut_row n h I c) (come_bits c n 0 ws (omega arith) (rw (add-zero (count n (h c))) E))

  come_checks : (c : ℕ) (ws : List ℕ) → c ≤ m → Comes f n m r (check_words f h n c ++ ws) 0 0 0 (cut h 0 0) → Comes f n m r ws c 0 n (cut h c 0)
  come_checks zero ws k C = none_written f h n m r ws C
  come_checks (suc c) ws k C =
      come_check c ws (omega arith)
      (come_checks c (opening f c (count n (h c)) ∷ (bit_words (h c) n ++ ws)) (omega arith) (rw (check_after f h n c ws) at C))

inside : (h : Matrix) (n m : ℕ) → Sound h n m 0 → Inside n h
inside h n m S = record { few = S.n120; none = λ d a k. S.clean.bits d a (omega arith) }

pub kind_most : (f : Form) → head_kind f ≤ 15
kind_most First = omega arith
kind_most Second = omega arith
kind_most Third = omega arith

-- the first word says its form
pub form_head : (f : Form) (w : ℕ) → kind_of w ≡ head_kind f → form_of w ≡ f
unfolding form_of
form_head First w e = rw e
form_head Second w e = rw e
form_head Third w e = rw e

pub head_made : (f : Form) (n m : ℕ) → 1 ≤ n → n ≤ 120 → m ≤ 120
    → let w = head_kind f * 2 ^ 28 + m * 256 + n in
    (form_of w ≡ f) × (head_word f w ≡ true) × (payload w % 256 ≡ n) × (payload w / 256 ≡ m)
unfolding head_word
head_made f n m a b c =
    let w = head_kind f * 2 ^ 28 + m * 256 + n in
    let t : w ≡ head_kind f * 2 ^ 28 + (m * 256 + n) = omega arith in
    let e : payload w ≡ m * 256 + n = rw t (word_payload (head_kind f) (m * 256 + n) (omega arith)) in
    let d : kind_of w ≡ head_kind f = rw t (word_kind (head_kind f) (m * 256 + n) (omega arith)) in
    let p : (m * 256 + n) % 256 ≡ n = omega arith in
    let q : (m * 256 + n) / 256 ≡ m = omega arith in
    (form_head f w d, rw (eq-eqb (kind_of w) (head_kind f) d, e, p, q, (ranges n m 0).1 (a, b, c, omega arith)), rw (e, p), rw (e, q))

-- The checks of a record, of whichever form, are those of the matrix that it was made of.
pub record Read (f : Form) (n m : ℕ) (h : Matrix) (rest : List ℕ) : Type 0 where
  pub place : ℕ
  pub reads : reading f n m (check_words f h n m ++ rest) 1 0 0 0 (λ c b. false) ≡ checked rest place h

pub read_checks : (f : Form) (h : Matrix) (n m : ℕ) → Sound h n m 0 → (rest : List ℕ) → Read f n m h rest
read_checks f h n m S rest =
    let I = inside h n m S in
    let r = reading f n m (check_words f h n m ++ rest) 1 0 0 0 (λ c b. false) in
    let C : Comes f n m r (check_words f h n m ++ rest) 0 0 0 (cut h 0 0) = record { place = 1; low = 0; under = omega arith; comes = rw (cut_none h) } in
    let D = come_checks f n m S.m120 h I r m rest (omega arith) C in
    record {
      place = D.place;
      reads = D.comes ∙ checks_done f n m rest D.place m D.low (cut h m 0) (omega arith) ∙ rw (cut_all n h I m (λ d a k. S.clean.checks d a (omega arith)));
    }
