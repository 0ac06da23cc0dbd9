-- Laws of the lines, and of the record words one after another. Assumes nothing.
use Prim.Native.Nat.{ℕ, zero, suc, ◌+◌, ◌-◌, ◌≤◌, ◌<◌}
use mathlib.Core.Path.{◌≡◌, ◌∙◌, sym, ap}
use mathlib.Core.List.{List, [], ◌∷◌, ◌++◌, append_assoc, append-nil}
use native.Mathlib.Omega.{arith}
use native.Mathlib.Nat.{add-suc, add-zero}
use native.Mathlib.Numerals.{add-one}
use borrow.Author.Tests.{eq-eqb, ne_eqb}
use lib.ListN.{length, length-append, take-append-drop}
use Rattle.parity.specs.Calls.{byte_of}
use Rattle.parity.specs.Mend.{decimal, splits_head, sum_head, residue_head, residue_text, word_head, shown, refused_line, report}
use Rattle.parity.proofs.Finite.Lists.{length_list_from, list_from_more}
use Rattle.lines.specs.Placed.{placed, Placed}
use Rattle.lines.specs.Lines.{left_text, word_text, splits_line, residue_line, word_line}

-- nothing
pub none : (old : List ℕ) (p : ℕ) → p ≤ length old → Placed old p [] old p
unfolding placed
none old p h = record { next = omega arith; room = h; made = sym (rw (append-nil, add-zero) (take-append-drop p old)) }

-- a text that is written otherwise
pub same_text : {old : List ℕ} {p : ℕ} {s t new : List ℕ} {r : ℕ} → s ≡ t → Placed old p s new r → Placed old p t new r
same_text e f = rw e at f

-- the number of a bit is put exactly if its byte is 2
pub left_erased : (x b : ℕ) → x ≡ 2 → left_text x b ≡ (32 ∷ []) ++ decimal b
unfolding left_text
left_erased x b e = rw (eq-eqb x 2 e)

pub left_known : (x b : ℕ) → (x ≡ 2 → ⊥) → left_text x b ≡ []
unfolding left_text
left_known x b d = rw (ne_eqb x 2 d)

-- one bit more of the residue, and of the word
pub residue_more : (w : List ℕ) (n : ℕ) → residue_text w (n + 1) ≡ residue_text w n ++ left_text (byte_of w n) n
unfolding residue_text left_text
residue_more w n = rw add-one

pub word_more : (w : List ℕ) (n : ℕ) → word_text w (n + 1) ≡ word_text w n ++ (shown (byte_of w n) ∷ [])
unfolding word_text
word_more w n = list_from_more n (λ b. shown (byte_of w b))

-- how long these are
residue_grows : (w : List ℕ) (a d : ℕ) → length (residue_text w a) ≤ length (residue_text w (a + d))
residue_grows w a zero = rw add-zero (omega arith)
residue_grows w a (suc d) = rw (add-suc a d, ← add-one (a + d), residue_more w (a + d), length-append) (omega (arith, residue_grows w a d))

pub residue_room : (w : List ℕ) (n b : ℕ) → b < n → length (residue_text w b) + length (left_text (byte_of w b) b) ≤ length (residue_text w n)
residue_room w n b h =
    let e : b + 1 + (n - (b + 1)) ≡ n = omega arith in
    omega (
      arith,
      rw e at (residue_grows w (b + 1) (n - (b + 1))),
      ap length (residue_more w b) ∙ length-append (residue_text w b) (left_text (byte_of w b) b),
    )

pub word_length : (w : List ℕ) (n : ℕ) → length (word_text w n) ≡ n
unfolding word_text
word_length w n = length_list_from 0 n (λ b. shown (byte_of w b))

pub refused_length : (number : ℕ) → length (refused_line number) ≡ length (decimal number) + 9
unfolding refused_line
refused_length number = simp length-append (omega arith)

pub splits_length : (splits total : ℕ) → length (splits_line splits total) ≡ length (decimal splits) + length (decimal total) + 13
unfolding splits_line
splits_length splits total = simp length-append (omega arith)

pub residue_length : (w : List ℕ) (n : ℕ) → length (residue_line w n) ≡ length (residue_text w n) + 8
unfolding residue_line
residue_length w n = simp length-append (omega arith)

pub word_line_length : (w : List ℕ) (n : ℕ) → length (word_line w n) ≡ n + 6
unfolding word_line
word_line_length w n = simp length-append (omega (arith, word_length w n))

-- the report is its three lines
eleven : (a b c d e f g h i j k : List ℕ) → a ++ b ++ c ++ d ++ e ++ (f ++ g ++ h) ++ (i ++ j ++ k) ≡ a ++ b ++ c ++ d ++ e ++ f ++ g ++ h ++ i ++ j ++ k
eleven a b c d e f g h i j k = simp append_assoc

pub three_lines : (n splits total : ℕ) (w : List ℕ) → splits_line splits total ++ residue_line w n ++ word_line w n ≡ report n splits total w
unfolding report splits_line residue_line word_line word_text
three_lines n splits total w =
    eleven
    splits_head
    (decimal splits)
    sum_head
    (decimal total)
    (10 ∷ [])
    residue_head
    (residue_text w n)
    (10 ∷ [])
    word_head
    (word_text w n)
    (10 ∷ [])

pub report_length : (n splits total : ℕ) (w : List ℕ)
    → length (report n splits total w) ≡ length (splits_line splits total) + length (residue_line w n) + length (word_line w n)
report_length n splits total w = rw (← three_lines n splits total w) (simp length-append)
