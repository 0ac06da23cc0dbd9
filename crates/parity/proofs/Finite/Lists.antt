-- Laws of lists that a function gives, and of numbers stored one after another. Assumes nothing.
use mathlib.Core.Path.{◌≡◌, refl, sym, ap, ◌∙◌}
use mathlib.Core.List.{List, [], ◌∷◌, ◌++◌}
use Prim.Native.Nat.{ℕ, zero, suc, ◌+◌, ◌<◌}
use native.Mathlib.Nat.{not-suc-le-zero, add-zero}
use native.Mathlib.Numerals.{add-one}
use native.Mathlib.Omega.{arith}
use lib.ListN.{get_or, length, set}
use lib.Seq.{sets, ext_get_or}
use Rattle.parity.specs.Finite.{list_from}

-- the entries of a list that a function gives
pub length_list_from : (i n : ℕ) (f : ℕ → ℕ) → length (list_from i n f) ≡ n
unfolding list_from
length_list_from i zero f = refl
length_list_from i (suc n) f = ap suc (length_list_from (suc i) n f)

pub at_list_from : (i n : ℕ) (f : ℕ → ℕ) (j : ℕ) → j < n → get_or (list_from i n f) j 0 ≡ f (i + j)
unfolding list_from
at_list_from i zero f j k = absurd (not-suc-le-zero k)
at_list_from i (suc n) f zero k = ap f (sym (add-zero i))
at_list_from i (suc n) f (suc j) k =
    let e : suc i + j ≡ i + suc j = omega arith in
    at_list_from (suc i) n f j (omega arith) ∙ ap f e

pub list_from_cong : (i n : ℕ) (f g : ℕ → ℕ) → ((j : ℕ) → j < n → f (i + j) ≡ g (i + j)) → list_from i n f ≡ list_from i n g
list_from_cong i n f g h =
    ext_get_or 0 (list_from i n f) (list_from i n g) (length_list_from i n f ∙ sym (length_list_from i n g)) (λ j k.
    let l : j < n = rw (length_list_from i n f) at k in
    at_list_from i n f j l ∙ h j l ∙ sym (at_list_from i n g j l))

-- the last entry
pub list_from_snoc : (i n : ℕ) (f : ℕ → ℕ) → list_from i (suc n) f ≡ list_from i n f ++ (f (i + n) ∷ [])
unfolding list_from
list_from_snoc i zero f = rw (add-zero i)
list_from_snoc i (suc n) f = let e : suc i + n ≡ i + suc n = omega arith in ap (f i ∷◌) (list_from_snoc (suc i) n f ∙ rw e)

pub list_from_more : (n : ℕ) (f : ℕ → ℕ) → list_from 0 (n + 1) f ≡ list_from 0 n f ++ (f n ∷ [])
list_from_more n f = rw add-one (list_from_snoc 0 n f ∙ ap (λ (j : ℕ). list_from 0 n f ++ (f j ∷ [])) {x = 0 + n} {y = n} (omega arith))

-- stores, one list after another
pub sets_append : (l : List ℕ) (p : ℕ) (vs us : List ℕ) → sets l p (vs ++ us) ≡ sets (sets l p vs) (p + length vs) us
sets_append l p [] us = rw (add-zero p)
sets_append l p (v ∷ vs) us = let e : p + suc (length vs) ≡ suc p + length vs = omega arith in rw e (sets_append (set l p v) (suc p) vs us)
