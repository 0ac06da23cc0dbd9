-- The second form of the first-form record of a matrix is its second_form_lem record (M-103). Assumes nothing.
use mathlib.Core.Path.{◌≡◌, refl, sym, ap, ◌∙◌}
use mathlib.Core.Bool.{Bool}
use mathlib.Core.List.{List, [], ◌∷◌, ◌++◌}
use Prim.Native.Nat.{ℕ, zero, suc, ◌+◌, ◌*◌, ◌^◌, ◌≤◌, ◌<◌}
use native.Mathlib.Omega.{arith}
use lib.Dec.{eqb}
use lib.ListN.{length}
use borrow.Author.Tests.{eq-eqb, ne_eqb}
use Rattle.parity.specs.Finite.{count}
use Rattle.parity.specs.Matrix.{Matrix}
use Rattle.parity.specs.Record.{kind_of, payload, bit_words, opening, check_words, split_words, record_of, numbering, second_form}
use Rattle.parity.specs.declared.Form.TheVariants.{First, Second, Third}
use Rattle.parity.proofs.Finite.Sums.{is_true, is_false, is, count_bound}
use Rattle.parity.proofs.Record.Reading.{word_kind, word_payload}
use Rattle.parity.proofs.Record.Writing.{check_after, no_checks, bits_passed}

-- one word of another kind, and one that opens check c
number_other : (c w : ℕ) (ws : List ℕ) → (kind_of w ≡ 2 → ⊥) → numbering c (w ∷ ws) ≡ w ∷ numbering c ws
unfolding numbering
number_other c w ws d = rw (ne_eqb (kind_of w) 2 d)

number_open : (c x : ℕ) (ws : List ℕ) → x < 2 ^ 28 → numbering c (opening First c x ∷ ws) ≡ opening Second c x ∷ numbering (suc c) ws
unfolding numbering opening
number_open c x ws k =
    let t : 2 * 2 ^ 28 + 0 * 256 + x ≡ 2 * 2 ^ 28 + x = omega arith in
    let e : 2 * 2 ^ 28 + x + c * 256 ≡ 2 * 2 ^ 28 + c * 256 + x = omega arith in
    rw (t, eq-eqb (kind_of (2 * 2 ^ 28 + x)) 2 (word_kind 2 x k), e)

-- the bits of a check
number_bits : (s : ℕ → Bool) (b c : ℕ) (ws : List ℕ) → b ≤ 120 → numbering c (bit_words s b ++ ws) ≡ bit_words s b ++ numbering c ws
number_bits s b c ws k = bits_passed (numbering c) (λ w ws e. number_other c w ws (λ q. omega arith)) s b ws k

-- the checks
number_checks : (h : Matrix) (n c : ℕ) (ws : List ℕ) → n ≤ 120 → numbering 0 (check_words First h n c ++ ws) ≡ check_words Second h n c ++ numbering c ws
number_checks h n zero ws k = rw (no_checks First h n ws, no_checks Second h n (numbering 0 ws))
number_checks h n (suc c) ws k =
    rw (check_after First h n c ws, number_checks h n c (opening First c (count n (h c)) ∷ (bit_words (h c) n ++ ws)) k)
    (rw (number_open c (count n (h c)) (bit_words (h c) n ++ ws) (omega (arith, count_bound n (h c))), number_bits (h c) n (suc c) ws k, check_after Second h n c (numbering (suc c) ws)))

number_end : (c : ℕ) → numbering c ((15 * 2 ^ 28) ∷ []) ≡ (15 * 2 ^ 28) ∷ []
number_end c = number_other c (15 * 2 ^ 28) [] (λ q. omega (arith, word_kind 15 0 (omega arith))) ∙ unfold numbering in refl

pub second_form_lem : (h : Matrix) (n m : ℕ) → n ≤ 120 → m ≤ 120 → second_form (record_of First h n m []) ≡ record_of Second h n m []
unfolding second_form record_of split_words
second_form_lem h n m k l =
    let t : 1 * 2 ^ 28 + m * 256 + n ≡ 1 * 2 ^ 28 + (m * 256 + n) = omega arith in
    let e : payload (1 * 2 ^ 28 + m * 256 + n) ≡ m * 256 + n = rw t (word_payload 1 (m * 256 + n) (omega arith)) in
    let a : 4 * 2 ^ 28 + (m * 256 + n) ≡ 4 * 2 ^ 28 + m * 256 + n = omega arith in
    let q : kind_of (1 * 2 ^ 28 + m * 256 + n) ≡ 1 = rw t (word_kind 1 (m * 256 + n) (omega arith)) in
    rw (eq-eqb (kind_of (1 * 2 ^ 28 + m * 256 + n)) 1 q, e, a, number_checks h n m ((15 * 2 ^ 28) ∷ []) k, number_end m)

same_opening : (c x : ℕ) → opening Third c x ≡ opening Second c x
unfolding opening
same_opening c x = refl

same_checks : (h : Matrix) (n c : ℕ) (ws : List ℕ) → check_words Third h n c ++ ws ≡ check_words Second h n c ++ ws
same_checks h n zero ws = rw (no_checks Third h n ws, no_checks Second h n ws)
same_checks h n (suc c) ws =
    check_after Third h n c ws ∙ rw (same_opening c (count n (h c))) (same_checks h n c (opening Second c (count n (h c)) ∷ (bit_words (h c) n ++ ws)))
    ∙ sym (check_after Second h n c ws)

-- Of a third-form record without splits only the first word changes.
pub second_third : (h : Matrix) (n m : ℕ) → n ≤ 120 → m ≤ 120 → second_form (record_of Third h n m []) ≡ record_of Second h n m []
unfolding second_form record_of
second_third h n m k l =
    let t : 5 * 2 ^ 28 + m * 256 + n ≡ 5 * 2 ^ 28 + (m * 256 + n) = omega arith in
    let e : payload (5 * 2 ^ 28 + m * 256 + n) ≡ m * 256 + n = rw t (word_payload 5 (m * 256 + n) (omega arith)) in
    let q : kind_of (5 * 2 ^ 28 + m * 256 + n) ≡ 5 = rw t (word_kind 5 (m * 256 + n) (omega arith)) in
    let a : 4 * 2 ^ 28 + (m * 256 + n) ≡ 4 * 2 ^ 28 + m * 256 + n = omega arith in
    rw (ne_eqb (kind_of (5 * 2 ^ 28 + m * 256 + n)) 1 (λ r. omega arith), e, a) (ap (λ (ws : List ℕ). (4 * 2 ^ 28 + m * 256 + n) ∷ ws) (same_checks h n m (split_words [] ++ ((15 * 2 ^ 28) ∷ []))))

-- It has as many words.
length_numbering : (c : ℕ) (ws : List ℕ) → length (numbering c ws) ≡ length ws
unfolding numbering
length_numbering c [] = refl
length_numbering c (w ∷ ws) =
    elim (is (eqb (kind_of w) 2)) [
      | is_true e ↦ rw e (ap suc (length_numbering (suc c) ws))
      | is_false e ↦ rw e (ap suc (length_numbering c ws))
    ]

pub length_second : (source : List ℕ) → length (second_form source) ≡ length source
unfolding second_form
length_second [] = refl
length_second (w ∷ ws) =
    elim (is (eqb (kind_of w) 1)) [
      | is_true e ↦ rw e (ap suc (length_numbering 0 ws))
      | is_false e ↦ rw e
    ]
