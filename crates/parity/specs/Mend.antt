-- Document 01, '`mend`': the program's output bytes as a function of its input bytes. Assumes nothing.
use Rattle.std.specs.Prelude.{ℕ, zero, suc, ◌+◌, ◌*◌, ◌/◌, ◌%◌, Bool, true, false, cond, ◌||◌, List, [], ◌∷◌, ◌++◌, eqb, ltb, get_or, length, drop, replicate}
use Rattle.parity.specs.Finite.{list_from}
use Rattle.parity.specs.Causes.{Reply}
use Rattle.parity.specs.Calls.{byte_of, load_outcome, orthogonalise_outcome, peel_outcome}

-- the number in the four bytes from place p on, highest byte first
unfoldable pub word_at : List ℕ → ℕ → ℕ
word_at input p = ((byte_of input p * 256 + byte_of input (p + 1)) * 256 + byte_of input (p + 2)) * 256 + byte_of input (p + 3)

-- cause 14: fewer than 4 bytes, or than 4 + 4 W, or above 65,536
unfoldable pub wrong_input : List ℕ → Bool
wrong_input input = ltb (length input) 4 || ltb 65536 (length input) || ltb (length input) (4 + 4 * word_at input 0)

-- the W record words, and then every byte left
unfoldable pub record_in : List ℕ → List ℕ
record_in input = list_from 0 (word_at input 0) (λ i. word_at input (4 + 4 * i))

unfoldable pub word_in : List ℕ → List ℕ
word_in input = drop (4 + 4 * word_at input 0) input

-- a number in decimal; the first argument only ends the recursion
unfoldable pub digits_of : ℕ → ℕ → List ℕ
digits_of zero x = []
digits_of (suc turns) x = elim (ltb x 10) [ true ↦ (48 + x) ∷ [] | false ↦ digits_of turns (x / 10) ++ ((48 + x % 10) ∷ []) ]

unfoldable pub decimal : ℕ → List ℕ
decimal x = digits_of (suc x) x

-- `SPLITS `, ` SUM `, `RESIDUE`, `WORD `, `REFUSED `
abbrev pub splits_head : List ℕ
splits_head = 83 ∷ 80 ∷ 76 ∷ 73 ∷ 84 ∷ 83 ∷ 32 ∷ []

abbrev pub sum_head : List ℕ
sum_head = 32 ∷ 83 ∷ 85 ∷ 77 ∷ 32 ∷ []

abbrev pub residue_head : List ℕ
residue_head = 82 ∷ 69 ∷ 83 ∷ 73 ∷ 68 ∷ 85 ∷ 69 ∷ []

abbrev pub word_head : List ℕ
word_head = 87 ∷ 79 ∷ 82 ∷ 68 ∷ 32 ∷ []

abbrev pub refused_head : List ℕ
refused_head = 82 ∷ 69 ∷ 70 ∷ 85 ∷ 83 ∷ 69 ∷ 68 ∷ 32 ∷ []

-- each of the first n bytes that is 2, its number with a space before it, rising
unfoldable pub residue_text : List ℕ → ℕ → List ℕ
residue_text w zero = []
residue_text w (suc n) = residue_text w n ++ cond (eqb (byte_of w n) 2) (32 ∷ decimal n) []

-- the characters 0 and 1, and ? for erased
abbrev pub shown : ℕ → ℕ
shown x = cond (eqb x 2) 63 (48 + x)

-- a refusal's line, and nothing else
unfoldable pub refused_line : ℕ → List ℕ
refused_line number = refused_head ++ decimal number ++ (10 ∷ [])

-- the three lines: splits made and the sum, each sent bit left, and n characters
unfoldable pub report : ℕ → ℕ → ℕ → List ℕ → List ℕ
report n splits total w =
    splits_head ++ decimal splits ++ sum_head ++ decimal total ++ (10 ∷ [])
    ++ residue_head ++ residue_text w n ++ (10 ∷ [])
    ++ word_head ++ list_from 0 n (λ b. shown (byte_of w b)) ++ (10 ∷ [])

-- a reply's line where it is a refusal, and else what follows
unfoldable pub unless_refused : Reply → List ℕ → List ℕ
unless_refused r text = cond (eqb r.number 0) text (refused_line r.number)

-- It loads, orthogonalises from the loaded k on, sets added bits to 2 and peels; splits and total are those of the orthogonalise alone. What n, m, splits, total and k are after a refusal, and what follows from them,
-- is discarded: the refusal's line is all that is written.
unfoldable pub mend : List ℕ → List ℕ
mend input =
    let l = load_outcome (record_in input) (replicate 4096 0) in
    let n = get_or l.reply.values 0 0 in
    let m = get_or l.reply.values 1 0 in
    let o = orthogonalise_outcome l.after n m (get_or l.reply.values 2 0) in
    let splits = get_or o.reply.values 0 0 in
    let total = get_or o.reply.values 1 0 in
    let k = get_or o.reply.values 2 0 in
    let p = peel_outcome o.after n m k (word_in input ++ replicate k 2) in
    cond (wrong_input input) (refused_line 14)
    (unless_refused l.reply (unless_refused o.reply (unless_refused p.reply (report n splits total p.after))))
