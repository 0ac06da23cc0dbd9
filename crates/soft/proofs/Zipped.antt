-- A search in two slices side by side, and a test that all elements pass. Assumes nothing.
use mathlib.Core.Path.{◌≡◌, sym, ap, fun_ext, ◌∙◌}
use mathlib.Core.Bool.{Bool, true, true≢false}
use mathlib.Core.List.{List}
use Prim.Native.Nat.{ℕ, ◌<◌}
use native.Mathlib.Omega.{arith}
use native.Mathlib.Decide.{dec_lt}
use lib.ListN.{get_or, length, get_or-eq_default}
use Rattle.std.specs.Prelude.{position}
use Rattle.std.specs.List.{zip, list_all}
use Rattle.std.proofs.lemmas.Slice.Zip.{get_or-zip, length-zip}
use Rattle.std.proofs.lemmas.List.Folds.{list_all_at}
use Rattle.parity.specs.Finite.{first}
use Rattle.parity.proofs.Finite.Sums.{is_true, is_false, is}
use Rattle.parity.proofs.Finite.Positions.{position_first}

module _ {A B : Type 0} (t : A × B → Bool) (xs : List A) (ys : List B) (same : length xs ≡ length ys) (d : A) (e : B) where
  length_zip : length (zip xs ys) ≡ length xs
  length_zip = omega (arith, length-zip xs ys, same)

  zip_at : (i : ℕ) → get_or (zip xs ys) i (d, e) ≡ (get_or xs i d, get_or ys i e)
  zip_at i =
      elim (dec_lt i (length xs)) [
        | yes k ↦ get_or-zip xs ys i (d, e) k (omega (arith, same))
        | no k ↦ rw (get_or-eq_default (zip xs ys) (d, e) {n = i} (omega (arith, length_zip)), get_or-eq_default xs d {n = i} (omega arith), get_or-eq_default ys e {n = i} (omega (arith, same)))
      ]

  -- the first place at which both together pass a test
  pub position_zip : position t (zip xs ys) ≡ first (length xs) (λ i. t (get_or xs i d, get_or ys i e))
  position_zip =
      position_first t (zip xs ys) (d, e)
      ∙ ap (λ p. first (length (zip xs ys)) p) (fun_ext (λ i. ap t (zip_at i)))
      ∙ ap (λ n. first n (λ i. t (get_or xs i d, get_or ys i e))) length_zip

pub all_at : {A : Type 0} (t : A → Bool) (xs : List A) → list_all t xs ≡ true → (i : ℕ) (d : A) → i < length xs → t (get_or xs i d) ≡ true
all_at t xs e i d k =
    elim (is (t (get_or xs i d))) [
      | is_true q ↦ q
      | is_false q ↦ absurd (true≢false (sym e ∙ list_all_at t xs i d k q))
    ]
