-- The checks of a record that loads are those that its words are made of, and acceptance takes them with k = 0. Assumes nothing.
use mathlib.Core.Path.{◌≡◌, refl, sym, ap, ◌∙◌, fun_ext}
use mathlib.Core.Bool.{true, false}
use mathlib.Core.List.{List, [], ◌∷◌, ◌++◌}
use Prim.Native.Nat.{ℕ, zero, suc, ◌+◌, ◌*◌, ◌-◌, ◌/◌, ◌%◌, ◌^◌, ◌≤◌, ◌<◌}
use native.Mathlib.Decide.{dec_lt}
use native.Mathlib.Omega.{arith}
use borrow.Author.Tests.{lt-ltb}
use Rattle.parity.specs.Finite.{count, all}
use Rattle.parity.specs.Matrix.{Matrix, put, rule_a}
use Rattle.parity.specs.Record.{kind_of, payload, number_in, open_word, bit_word, checked, reading, bit_words, opening, check_words}
use Rattle.parity.specs.declared.Form.{Form}
use Rattle.parity.specs.Sound.{Sound}
use Rattle.parity.proofs.Finite.Sums.{is_true, is_false, is, count_suc, count_end, count_zero}
use Rattle.parity.proofs.Matrix.Lent.{put_here}
use Rattle.parity.proofs.Record.Reading.{word_made, opens, bits, checks_done, never_checked}
use Rattle.parity.proofs.Record.Writing.{bits_end, no_bits, bits_more, check_after, no_checks}
use Rattle.parity.proofs.Record.ReadPart.{cut, Inside, cut_yes, cut_no, cut_none, Part, part_none, put_other, part_row, part_put}

-- A record that loads, from a place on: check c is open, `due` ones of it are due, none below `low`, and g is read.
pub record Back (f : Form) (n m c due low : ℕ) (ws : List ℕ) (g : Matrix) (rest : List ℕ) (h : Matrix) : Type 0 where
  pub part : g ≡ cut h c low
  pub ones : due + count low (h c) ≡ count n (h c)
  pub bits : Inside n h
  pub checks : (d a : ℕ) → m ≤ d → h d a ≡ false
  pub words : check_words f h n c ++ (opening f c (count n (h c)) ∷ (bit_words (h c) low ++ ws)) ≡ check_words f h n m ++ rest

module _ (f : Form) (n m c due low : ℕ) (ws : List ℕ) (g : Matrix) (rest : List ℕ) (h : Matrix) (P : Part n g c low) where
  -- a bit of the check
  module _ (b : ℕ) (k : low ≤ b) (l : b < n) (B : Back f n m c due (suc b) ws (put c b true g) rest h) where
    at_cut : (d a : ℕ) → put c b true g d a ≡ cut h c (suc b) d a
    at_cut d a = ap (λ (x : Matrix). x d a) B.part

    here : h c b ≡ true
    here = sym (cut_yes h c (suc b) c b (omega arith)) ∙ sym (at_cut c b) ∙ put_here c b true g

    between : (a : ℕ) → low ≤ a → a < b → h c a ≡ false
    between a s t =
        sym (cut_yes h c (suc b) c a (omega arith)) ∙ sym (at_cut c a) ∙ put_other g c b c a (λ q r. omega arith) ∙ part_none n g c low P c a (omega arith)

    back_bit : Back f n m c (suc due) low ((3 * 2 ^ 28 + b) ∷ ws) g rest h
    back_bit = record {
      part = fun_ext (λ d. fun_ext (λ a. elim (dec_lt (d * 512 + a) (c * 512 + low)) [
        | yes t ↦ sym (put_other g c b d a (λ q r. omega (arith, P.under))) ∙ at_cut d a ∙ cut_yes h c (suc b) d a (omega arith) ∙ sym (cut_yes h c low d a t)
        | no t ↦ part_none n g c low P d a (omega arith) ∙ sym (cut_no h c low d a (omega arith))
      ]));
      ones =
          let u = count_suc b (h c) in
          let v = count_end low b (h c) k between in
          omega (arith, B.ones, rw here at u);
      bits = B.bits;
      checks = B.checks;
      words = rw (← bits_more (h c) low b ws k between here) B.words;
    }

  -- the next check
  module _ (x : ℕ) (B : Back f n m (suc c) x 0 ws g rest h) where
    at_row : (d a : ℕ) → g d a ≡ cut h (suc c) 0 d a
    at_row d a = ap (λ (x : Matrix). x d a) B.part

    no_more : (a : ℕ) → low ≤ a → h c a ≡ false
    no_more a t =
        elim (dec_lt a 512) [
          | yes u ↦ sym (cut_yes h (suc c) 0 c a (omega arith)) ∙ sym (at_row c a) ∙ part_none n g c low P c a (omega arith)
          | no u ↦ B.bits.none c a (omega (arith, P.bits.few))
        ]

    opened : x ≡ count n (h (suc c))
    opened = let u = count_zero (h (suc c)) in omega (arith, B.ones)

    back_open : due ≡ 0 → Back f n m c due low (opening f (suc c) x ∷ ws) g rest h
    back_open z = record {
      part = fun_ext (λ d. fun_ext (λ a. elim (dec_lt (d * 512 + a) (c * 512 + low)) [
        | yes t ↦ at_row d a ∙ cut_yes h (suc c) 0 d a (omega (arith, P.under, P.bits.few)) ∙ sym (cut_yes h c low d a t)
        | no t ↦ part_none n g c low P d a (omega arith) ∙ sym (cut_no h c low d a (omega arith))
      ]));
      ones = let v = count_end low n (h c) P.under (λ a s t. no_more a s) in omega arith;
      bits = B.bits;
      checks = B.checks;
      words = rw (opened, ← bits_end (h c) low n P.under (λ a s t. no_more a s), ← check_after f h n c) (rw no_bits at B.words);
    }

-- the last one
back_end : (f : Form) (n c low : ℕ) (g : Matrix) (rest : List ℕ) → Part n g c low → Back f n (suc c) c 0 low rest g rest g
back_end f n c low g rest P =
    let e : (a : ℕ) → low ≤ a → g c a ≡ false = λ a t. part_none n g c low P c a (omega arith) in
    record {
      part = P.own;
      ones = let v = count_end low n (g c) P.under (λ a s t. e a s) in omega arith;
      bits = P.bits;
      checks = λ d a k. part_none n g c low P d a (omega (arith, P.under, P.bits.few));
      words = rw (← bits_end (g c) low n P.under (λ a s t. e a s), ← check_after f g n c);
    }

-- each word of a record that loads is the one that writing makes
pub word_is : (w k x : ℕ) → kind_of w ≡ k → payload w ≡ x → w ≡ k * 2 ^ 28 + x
word_is w k x e f = sym (word_made w) ∙ rw (e, f)

-- the word that opens a check
opening_is : (f : Form) (c w : ℕ) → kind_of w ≡ 2 → payload w / 256 ≡ number_in f c → w ≡ opening f c (payload w % 256)
unfolding opening
opening_is f c w e d = let t : w ≡ 2 * 2 ^ 28 + payload w = word_is w 2 (payload w) e refl in omega arith

module _ (f : Form) (n m p c low : ℕ) (g : Matrix) (rest : List ℕ) (q : ℕ) (h : Matrix) where
  open_missing : c < m → reading f n m [] p c 0 low g ≡ checked rest q h → ⊥
  unfolding reading
  open_missing l e = never_checked p rest q h (rw (lt-ltb c m l) at e)

  bit_missing : (due : ℕ) → reading f n m [] p c (suc due) low g ≡ checked rest q h → ⊥
  unfolding reading
  bit_missing due e = never_checked p rest q h e

  all_read : (ws : List ℕ) → m ≤ c → reading f n m ws p c 0 low g ≡ checked rest q h → (ws ≡ rest) × (g ≡ h)
  all_read ws l e = same (sym (checks_done f n m ws p c low g l) ∙ e)
    where
      same : checked ws p g ≡ checked rest q h → (ws ≡ rest) × (g ≡ h)
      same t = ((cc), (cc))

  module _ (w : ℕ) (ws : List ℕ) where
    first_open : c < m → reading f n m (w ∷ ws) p c 0 low g ≡ checked rest q h
        → (w ≡ opening f c (payload w % 256)) × (reading f n m ws (suc p) (suc c) (payload w % 256) 0 g ≡ checked rest q h)
    unfolding reading
    first_open l e =
        elim (is (open_word f n c w)) [
          | is_true o ↦ let (a, b, d) = opens f n c w o in (opening_is f c w a b, rw (lt-ltb c m l, o) at e)
          | is_false o ↦ absurd (never_checked p rest q h (rw (lt-ltb c m l, o) at e))
        ]

    first_bit : (due : ℕ) → reading f n m (w ∷ ws) p c (suc due) low g ≡ checked rest q h
        → (bit_word n low w ≡ true) × (reading f n m ws (suc p) c due (suc (payload w)) (put (c - 1) (payload w) true g) ≡ checked rest q h)
    unfolding reading
    first_bit due e =
        elim (is (bit_word n low w)) [
          | is_true o ↦ (o, rw o at e)
          | is_false o ↦ absurd (never_checked p rest q h (rw o at e))
        ]

no_more_checks : (f : Form) (n m : ℕ) (ws : List ℕ) (p c low : ℕ) (g : Matrix) (rest : List ℕ) (q : ℕ) (h : Matrix) → m ≡ suc c → Part n g c low
    → reading f n m ws p (suc c) 0 low g ≡ checked rest q h → Back f n m c 0 low ws g rest h
no_more_checks f n m ws p c low g rest q h t P e =
    let (a, b) = all_read f n m p (suc c) low g rest q h ws (omega arith) e in
    rw (← a, ← b, t) (back_end f n c low g ws P)

reads_back : (f : Form) (n m : ℕ) (ws : List ℕ) (p c due low : ℕ) (g : Matrix) (rest : List ℕ) (q : ℕ) (h : Matrix) → c < m → Part n g c low
    → reading f n m ws p (suc c) due low g ≡ checked rest q h → Back f n m c due low ws g rest h
reads_back f n m [] p c zero low g rest q h k P e =
    elim (dec_lt (suc c) m) [
      | yes l ↦ absurd (open_missing f n m p (suc c) low g rest q h l e)
      | no l ↦ no_more_checks f n m [] p c low g rest q h (omega arith) P e
    ]
reads_back f n m (w ∷ ws) p c zero low g rest q h k P e =
    elim (dec_lt (suc c) m) [
      | yes l ↦
          let (o, r) = first_open f n m p (suc c) low g rest q h w ws l e in
          let x = payload w % 256 in
          let B = back_open f n m c 0 low ws g rest h P x (reads_back f n m ws (suc p) (suc c) x 0 g rest q h l (part_row n g c low P) r) refl in
          rw (← o) at B
      | no l ↦ no_more_checks f n m (w ∷ ws) p c low g rest q h (omega arith) P e
    ]
reads_back f n m [] p c (suc due) low g rest q h k P e = absurd (bit_missing f n m p (suc c) low g rest q h due e)
reads_back f n m (w ∷ ws) p c (suc due) low g rest q h k P e =
    let (o, r) = first_bit f n m p (suc c) low g rest q h w ws due e in
    let (a, b, d) = bits n low w o in
    let t : suc c - 1 ≡ c = omega arith in
    let B = back_bit f n m c due low ws g rest h P (payload w) b d
    (reads_back f n m ws (suc p) c due (suc (payload w)) (put c (payload w) true g) rest q h k (part_put n g c low (payload w) P b d) (rw t at r)) in
    rw (← word_is w 3 (payload w) a refl) at B

-- nothing is read yet
start : (n : ℕ) → n ≤ 120 → Part n (λ d a. false) 0 0
start n k = record { bits = record { few = k; none = λ d a l. refl }; under = omega arith; own = cut_none (λ d a. false) }

-- the checks of a record that loads
pub record Rest (f : Form) (n m : ℕ) (ws rest : List ℕ) (h : Matrix) : Type 0 where
  pub bits : (d a : ℕ) → n ≤ a → h d a ≡ false
  pub checks : (d a : ℕ) → m ≤ d → h d a ≡ false
  pub words : ws ≡ check_words f h n m ++ rest

none_read : (f : Form) (n m : ℕ) (ws rest : List ℕ) (q : ℕ) (h : Matrix) → m ≡ 0 → reading f n m ws 1 0 0 0 (λ d a. false) ≡ checked rest q h → Rest f n m ws rest h
none_read f n m ws rest q h z e =
    let (a, b) = all_read f n m 1 0 0 (λ d a. false) rest q h ws (omega arith) e in
    record { bits = λ d a t. rw (← b); checks = λ d a t. rw (← b); words = rw (a, z) (sym (no_checks f h n rest)) }

pub rest_back : (f : Form) (n m : ℕ) (ws rest : List ℕ) (q : ℕ) (h : Matrix) → n ≤ 120 → reading f n m ws 1 0 0 0 (λ d a. false) ≡ checked rest q h → Rest f n m ws rest h
rest_back f n m [] rest q h k e =
    elim (dec_lt 0 m) [
      | yes l ↦ absurd (open_missing f n m 1 0 0 (λ d a. false) rest q h l e)
      | no l ↦ none_read f n m [] rest q h (omega arith) e
    ]
rest_back f n m (w ∷ ws) rest q h k e =
    elim (dec_lt 0 m) [
      | yes l ↦
          let (o, r) = first_open f n m 1 0 0 (λ d a. false) rest q h w ws l e in
          let B = reads_back f n m ws 2 0 (payload w % 256) 0 (λ d a. false) rest q h l (start n k) r in
          let x : payload w % 256 ≡ count n (h 0) = omega (arith, B.ones, count_zero (h 0)) in
          let t = rw (no_checks, no_bits) at B.words in
          record { bits = B.bits.none; checks = B.checks; words = rw (o, x) t }
      | no l ↦ none_read f n m (w ∷ ws) rest q h (omega arith) e
    ]

-- Acceptance takes them with k = 0.
pub checks_sound : (f : Form) (n m : ℕ) (ws rest : List ℕ) (q : ℕ) (h : Matrix) → 1 ≤ n → n ≤ 120 → m ≤ 120 → reading f n m ws 1 0 0 0 (λ d a. false) ≡ checked rest q h
    → Sound h n m 0
unfolding rule_a all
checks_sound f n m ws rest q h x y z e =
    let R = rest_back f n m ws rest q h y e in
    record {
      n1 = x;
      n120 = y;
      m120 = z;
      k392 = omega arith;
      clean = record { checks = λ d i l. R.checks d i (omega arith); bits = λ d i l. R.bits d i (omega arith) };
      rule = refl;
    }
