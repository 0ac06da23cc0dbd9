-- The output from each stage on: after reading the record words, loading, and orthogonalising. Assumes nothing.
use Rattle.std.specs.Prelude.{ℕ, ◌+◌, ◌*◌, ◌≤◌, ◌≡◌, List, ◌++◌, get_or, length, replicate}
use Rattle.parity.specs.Finite.{list_from}
use Rattle.parity.specs.Calls.{load_outcome, orthogonalise_outcome, peel_outcome}
use Rattle.parity.specs.Mend.{word_at, report, unless_refused}

-- the first w record words of an input
unfoldable pub words_in : List ℕ → ℕ → List ℕ
words_in input w = list_from 0 w (λ i. word_at input (4 + 4 * i))

-- how many record words an input has; they are in it, so that they are at most 16,383
pub record Size (input : List ℕ) (w : ℕ) : Type 0 where
  pub count : w ≡ word_at input 0
  pub held : 4 + 4 * w ≤ length input
  pub most : w ≤ 16383

-- peeling a word of n + k bytes, with the splits made and their sum
unfoldable pub peel_text : List ℕ → ℕ → ℕ → ℕ → ℕ → ℕ → List ℕ → List ℕ
peel_text ws n m k splits total w =
    let p = peel_outcome ws n m k w in
    unless_refused p.reply (report n splits total p.after)

-- orthogonalising from the loaded k, j, on, with the sent bits of a word
unfoldable pub orthogonalise_text : List ℕ → ℕ → ℕ → ℕ → List ℕ → List ℕ
orthogonalise_text ws n m j sent =
    let o = orthogonalise_outcome ws n m j in
    let splits = get_or o.reply.values 0 0 in
    let total = get_or o.reply.values 1 0 in
    let k = get_or o.reply.values 2 0 in
    unless_refused o.reply (peel_text o.after n m k splits total (sent ++ replicate k 2))

-- loading a record into words, and into words that are zero
unfoldable pub load_into : List ℕ → List ℕ → List ℕ → List ℕ
load_into ws source sent =
    let l = load_outcome source ws in
    unless_refused l.reply (orthogonalise_text l.after (get_or l.reply.values 0 0) (get_or l.reply.values 1 0) (get_or l.reply.values 2 0) sent)

unfoldable pub load_text : List ℕ → List ℕ → List ℕ
load_text source sent = load_into (replicate 4096 0) source sent
