-- Laws of the whole: an input that is refused or not, and a text copied to an output. Assumes nothing.
use Prim.Native.Nat.{ℕ, ◌+◌, ◌*◌, ◌-◌, ◌≤◌, ◌<◌}
use mathlib.Core.Path.{◌≡◌, refl}
use mathlib.Core.Bool.{true, false, ◌||◌}
use mathlib.Core.List.{List, [], ◌∷◌, ◌++◌}
use native.Mathlib.Omega.{arith}
use borrow.Author.Tests.{lt-ltb, le-ltb, ltb-false}
use lib.Dec.{ltb}
use lib.ListN.{length, take, drop, length-drop}
use lib.Seq.{take_at, take_all}
use Rattle.parity.specs.Mend.{word_at, wrong_input, record_in, word_in, refused_line, mend}
use Rattle.parity.proofs.Finite.Bools.{or_false_both}
use Rattle.parity.proofs.Finite.Lists.{list_from_more}
use Rattle.lines.specs.Placed.{placed, Placed}
use Rattle.receiver.specs.declared.TooShort.{TooShort}
use Rattle.std.specs.Prelude.{Result, Ok, Err}
use Rattle.receiver.specs.Answers.{mending_answer, mending_output}
use Rattle.receiver.specs.Stages.{words_in, Size, peel_text, orthogonalise_text, load_into, load_text}

-- one record word more
pub words_more : (input : List ℕ) (w : ℕ) → words_in input (w + 1) ≡ words_in input w ++ (word_at input (4 + 4 * w) ∷ [])
unfolding words_in
words_more input w = list_from_more w (λ i. word_at input (4 + 4 * i))

pub wrong_mend : (input : List ℕ) → wrong_input input ≡ true → refused_line 14 ≡ mend input
unfolding mend
wrong_mend input e = rw e

pub right_mend : (input : List ℕ) → wrong_input input ≡ false
    → load_text (words_in input (word_at input 0)) (drop (4 + 4 * word_at input 0) input) ≡ mend input
unfolding mend record_in word_in words_in load_text load_into orthogonalise_text peel_text
right_mend input e = rw e

-- an input that is not refused holds its record words
pub right_size : (input : List ℕ) → wrong_input input ≡ false → Size input (word_at input 0)
unfolding wrong_input
right_size input e =
    let n = length input in
    let (f, c) = or_false_both (ltb n 4 || ltb 65536 n) (ltb n (4 + 4 * word_at input 0)) e in
    let (a, b) = or_false_both (ltb n 4) (ltb 65536 n) f in
    record {
      count = refl;
      held = ltb-false n (4 + 4 * word_at input 0) c;
      most = omega (arith, ltb-false 65536 n b, ltb-false n (4 + 4 * word_at input 0) c);
    }

-- every byte from a place on
pub every_rest : (s : ℕ) (l : List ℕ) → take (length l - s) (drop s l) ≡ drop s l
every_rest s l = take_all (length l - s) (drop s l) (omega (arith, length-drop s l))

-- the text at the start of a buffer
pub first : {old text new : List ℕ} {r : ℕ} → Placed old 0 text new r → take r new ≡ text
unfolding placed
first {old} {text} {new} {r} f = rw f.made (take_at text (drop (0 + length text) old) r (omega (arith, f.next)))

-- an output without room is left, and one with room begins with the text
module _ (text out : List ℕ) (r : ℕ) (e : r ≡ length text) where
  pub no_room : length out < r → (◌≡◌ {A = Result ℕ TooShort} (Err (record { needed = r })) (mending_answer text out)) × (out ≡ mending_output text out)
  unfolding mending_answer mending_output
  no_room h = let l = lt-ltb (length out) (length text) (omega arith) in (rw (l, e), rw l)

  pub room : r ≤ length out → (s : List ℕ) → s ≡ text → (Ok r ≡ mending_answer text out) × (s ++ drop r out ≡ mending_output text out)
  unfolding mending_answer mending_output
  room h s p = let l = le-ltb (length out) (length text) (omega arith) in (rw (l, e), rw (l, p, e))
