-- Document 01, 'The record', with document 02's second form (M-103) and third form (M-107): loading with its faulty word, and writing. Assumes nothing.
use Rattle.std.specs.Prelude.{ℕ, zero, suc, ◌+◌, ◌*◌, ◌-◌, ◌/◌, ◌%◌, ◌^◌, Bool, true, false, cond, ◌&&◌, List, [], ◌∷◌, ◌++◌, eqb, ltb, leb}
use Rattle.parity.specs.Finite.{count}
use Rattle.parity.specs.Matrix.{Matrix, put, in_range}
use Rattle.parity.specs.Cycles.{split_of}
use Rattle.parity.specs.Splits.{Pair, split_right, all_back, recovered_list}
use Rattle.parity.specs.declared.Form.{Form}
use Rattle.parity.specs.declared.Form.TheVariants.{First, Second, Third}

-- bits 28 to 31 of a record word are its kind
unfoldable pub kind_of : ℕ → ℕ
kind_of w = w / 2 ^ 28

-- The bits below the kind. Where they are a number below 256, the unnamed bits 8 to 27 are zero.
unfoldable pub payload : ℕ → ℕ
payload w = w % 2 ^ 28

-- A record of the first form starts with kind 1, one of the second form with kind 4 (M-103), one of the third with kind 5 (M-107).
abbrev pub head_kind : Form → ℕ
head_kind First = 1
head_kind Second = 4
head_kind Third = 5

-- the form by the first word's kind
unfoldable pub form_of : ℕ → Form
form_of w = cond (eqb (kind_of w) 5) Third (cond (eqb (kind_of w) 4) Second First)

-- Kind 1, 4 or 5, only first: bits 8 to 15 m, bits 0 to 7 n, within their ranges. That all of bits 8 to 27 are at most 120 makes bits 16 to 27 zero.
unfoldable pub head_word : Form → ℕ → Bool
head_word f w = eqb (kind_of w) (head_kind f) && in_range (payload w % 256) (payload w / 256) 0

-- What the kind 2 word of check c holds in bits 8 to 15: they are unnamed in the first form, so zero, and hold the check number in the others.
abbrev pub number_in : Form → ℕ → ℕ
number_in First c = 0
number_in Second c = c
number_in Third c = c

-- Kind 2, opens check c, the next one: bits 0 to 7 its number of ones, 0 to n. That all of bits 8 to 27 are the check number or zero, so below
-- 256, makes bits 16 to 27 zero.
unfoldable pub open_word : Form → ℕ → ℕ → ℕ → Bool
open_word f n c w = eqb (kind_of w) 2 && eqb (payload w / 256) (number_in f c) && leb (payload w % 256) n

-- Kind 3, that many after it: a bit number below n, rising within the check, so at least one above the last.
unfoldable pub bit_word : ℕ → ℕ → ℕ → Bool
bit_word n low w = eqb (kind_of w) 3 && leb low (payload w) && ltb (payload w) n

-- The third form carries splits, the others none.
abbrev pub carries : Form → Bool
carries First = false
carries Second = false
carries Third = true

-- Kind 6, after m checks: bits 0 to 8 the lower bit of a split, bits 9 to 17 the higher. It must not be refused for the matrix h with k splits made.
-- That all of bits 9 to 27 are below n + k, so below 512, makes bits 18 to 27 zero.
unfoldable pub pair_in : ℕ → Pair
pair_in w = record { lower = payload w % 512; higher = payload w / 512 }

unfoldable pub split_word : Form → Matrix → ℕ → ℕ → ℕ → ℕ → Bool
split_word f h n m k w = carries f && eqb (kind_of w) 6 && split_right h n m k (pair_in w)

-- Kind 15, after m checks and the splits, the last word.
unfoldable pub end_word : ℕ → Bool
end_word w = eqb (kind_of w) 15 && eqb (payload w) 0

-- What the checks of a record are: faulty at a place, or a matrix, with the words that follow and the place of the first of these.
pub data Checked : Type 0 where
  stopped : ℕ → Checked
  checked : List ℕ → ℕ → Matrix → Checked

-- Reading the checks from place p on. c checks are opened; of the last one `due` more ones are due, none below `low`; h holds those that were read.
-- A missing word is faulty at the place where it should be.
unfoldable pub reading : Form → ℕ → ℕ → List ℕ → ℕ → ℕ → ℕ → ℕ → Matrix → Checked
reading f n m [] p c zero low h = cond (ltb c m) (stopped p) (checked [] p h)
reading f n m [] p c (suc due) low h = stopped p
reading f n m (w ∷ ws) p c zero low h =
    cond (ltb c m)
    (cond (open_word f n c w) (reading f n m ws (suc p) (suc c) (payload w % 256) 0 h) (stopped p))
    (checked (w ∷ ws) p h)
reading f n m (w ∷ ws) p c (suc due) low h =
    cond (bit_word n low w) (reading f n m ws (suc p) c due (suc (payload w)) (put (c - 1) (payload w) true h)) (stopped p)

-- What a record is: faulty at a place, or n, m, k and a matrix.
pub data Loaded : Type 0 where
  faulty : ℕ → Loaded
  loaded : ℕ → ℕ → ℕ → Matrix → Loaded

-- after the end word: a word there is faulty
unfoldable pub ending : ℕ → ℕ → ℕ → List ℕ → ℕ → Matrix → Loaded
ending n m k [] p h = loaded n m k h
ending n m k (w ∷ ws) p h = faulty p

-- Reading the splits and the end word from place p on: h is the matrix after k splits. Each kind 6 word performs its split.
unfoldable pub performing : Form → ℕ → ℕ → List ℕ → ℕ → ℕ → Matrix → Loaded
performing f n m [] p k h = faulty p
performing f n m (w ∷ ws) p k h =
    cond (split_word f h n m k w)
    (performing f n m ws (suc p) (suc k) (split_of h (n + k) (m + k) (pair_in w).lower (pair_in w).higher))
    (cond (end_word w) (ending n m k ws (suc p) h) (faulty p))

unfoldable pub behind : Form → ℕ → ℕ → Checked → Loaded
behind f n m (stopped p) = faulty p
behind f n m (checked ws p h) = performing f n m ws p 0 h

-- Loading a record, of any form.
unfoldable pub loading : List ℕ → Loaded
loading [] = faulty 0
loading (w ∷ ws) =
    let f = form_of w in
    let n = payload w % 256 in
    let m = payload w / 256 in
    cond (head_word f w) (behind f n m (reading f n m ws 1 0 0 0 (λ c b. false))) (faulty 0)

-- Writing: the kind 3 words of a check's bits below b, rising;
unfoldable pub bit_words : (ℕ → Bool) → ℕ → List ℕ
bit_words s zero = []
bit_words s (suc b) = bit_words s b ++ cond (s b) ((3 * 2 ^ 28 + b) ∷ []) []

-- the kind 2 word that opens check c, of x ones;
unfoldable pub opening : Form → ℕ → ℕ → ℕ
opening f c x = 2 * 2 ^ 28 + number_in f c * 256 + x

-- the checks below c, each opened by its kind 2 word;
unfoldable pub check_words : Form → Matrix → ℕ → ℕ → List ℕ
check_words f h n zero = []
check_words f h n (suc c) = check_words f h n c ++ (opening f c (count n (h c)) ∷ bit_words (h c) n)

-- the kind 6 word of a split, and those of a list of splits, whose newest comes first there and last here;
unfoldable pub splitting : Pair → ℕ
splitting p = 6 * 2 ^ 28 + (p.higher * 512 + p.lower)

unfoldable pub split_words : List Pair → List ℕ
split_words [] = []
split_words (p ∷ ps) = split_words ps ++ (splitting p ∷ [])

-- the record, of a form, of a matrix with k = 0 and some splits;
unfoldable pub record_of : Form → Matrix → ℕ → ℕ → List Pair → List ℕ
record_of f h n m ps = (head_kind f * 2 ^ 28 + m * 256 + n) ∷ check_words f h n m ++ (split_words ps ++ ((15 * 2 ^ 28) ∷ []))

-- and what is written: the second form where k = 0, else the third, with the checks before the splits and the splits in order. Its length is the number
-- of words used.
abbrev pub form_for : ℕ → Form
form_for zero = Second
form_for (suc k) = Third

unfoldable pub written : Matrix → ℕ → ℕ → ℕ → List ℕ
written h n m k = record_of (form_for k) (all_back h n m k) n m (recovered_list h n m k)

-- A record without its kind 6 words.
unfoldable pub without_splits : List ℕ → List ℕ
without_splits [] = []
without_splits (w ∷ ws) = cond (eqb (kind_of w) 6) (without_splits ws) (w ∷ without_splits ws)

-- The second form of a record without splits, word by word: its first word has kind 4, and each kind 2 word holds the number of the check that it
-- opens, which is added to it in the first form alone, c being the number of those before it.
unfoldable pub numbering : ℕ → List ℕ → List ℕ
numbering c [] = []
numbering c (w ∷ ws) = cond (eqb (kind_of w) 2) ((w + c * 256) ∷ numbering (suc c) ws) (w ∷ numbering c ws)

unfoldable pub second_form : List ℕ → List ℕ
second_form [] = []
second_form (w ∷ ws) = (4 * 2 ^ 28 + payload w) ∷ cond (eqb (kind_of w) 1) (numbering 0 ws) ws
