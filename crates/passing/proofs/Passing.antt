-- Values at the front of a list, and replies passed. Assumes nothing.
use mathlib.Core.Path.{◌≡◌, refl, sym}
use mathlib.Core.List.{List, [], ◌∷◌, ◌++◌}
use Prim.Native.Nat.{ℕ, ◌≤◌, min}
use native.Mathlib.Omega.{arith}
use native.Mathlib.Decide.{dec_le}
use lib.ListN.{length, take, drop}
use lib.Seq.{take-length, drop-length}
use Rattle.std.proofs.lemmas.List.{append-nil, drop_all, take_all}
use Rattle.parity.specs.Causes.{Reply, refusal}
use Rattle.passing.specs.Passed.{filled, Passed}

pub fill_none : {A : Type 0} (old : List A) → old ≡ filled [] old
unfolding filled
fill_none [] = refl
fill_none (x ∷ xs) = refl

-- all values, where they fit, and else as many as the list has places for
pub fill_all : {A : Type 0} (vs old : List A) → length vs ≤ length old → vs ++ drop (length vs) old ≡ filled vs old
unfolding filled
fill_all vs old l = rw (take_all (length old) vs l) refl

pub fill_part : {A : Type 0} (vs old : List A) → length old ≤ length vs → take (length old) vs ≡ filled vs old
unfolding filled
fill_part vs old l = rw (drop_all (length vs) old l) (sym (append-nil _))

-- as many values as there are, or as the list reaches
pub fill_front : {A : Type 0} (vs old : List A) → take (min (length old) (length vs)) vs ++ drop (min (length old) (length vs)) old ≡ filled vs old
unfolding filled
fill_front vs old =
    elim (dec_le (length old) (length vs)) [
      | yes l ↦ let e : min (length old) (length vs) ≡ length old = omega arith in rw (e, drop_all (length vs) old l, drop-length old)
      | no l ↦ let e : min (length old) (length vs) ≡ length vs = omega arith in rw (e, take-length vs, take_all (length old) vs (omega arith))
    ]

-- a reply with no values leaves the list
pub bare : {p : Reply} (number : ℕ) (old : List ℕ) → refusal number [] ≡ p → Passed p old old number
bare number old e = rw (sym e) (record { number = refl; values = fill_none old })

-- passing a reply is passing an equal one
pub same : {p q : Reply} {old new : List ℕ} {r : ℕ} → p ≡ q → Passed p old new r → Passed q old new r
same e h = rw (sym e) h

-- values at the front are passed
pub front : {vs old new : List ℕ} (number : ℕ) → new ≡ filled vs old → Passed (refusal number vs) old new number
front number e = record { number = refl; values = e }
