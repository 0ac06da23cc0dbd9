-- The smallest number that passes a test, if one does, and the first place of a list. Assumes nothing.
use Rattle.std.proofs.iter.Yields.{nat_range_steps}
use Rattle.std.proofs.lemmas.Iterator.{YieldsList-from_range}
use Rattle.std.proofs.lemmas.Iterator.Search.{all_from_yields_List, any_from_yields_List}
use Rattle.std.specs.Fn.{Called}
use Rattle.std.specs.Iterator.{YieldsThen}
use Rattle.std.specs.List.{FoldsTo}
use Rattle.std.specs.Option.{MatchOption}
use Rattle.std.specs.declared.ops.Range.{Range}
use denote.Param.Members.{Mut}
use mathlib.Core.Path.{◌≡◌, refl, ap, ◌∙◌}
use mathlib.Core.Bool.{Bool, true, false, and-true, or-false, true≢false, false≢true}
use mathlib.Core.List.{List, [], ◌∷◌, ◌++◌}
use Prim.Native.Nat.{ℕ, zero, suc, ◌+◌, ◌≤◌, ◌<◌}
use native.Mathlib.Omega.{arith}
use native.Mathlib.Decide.{dec_lt}
use lib.ListN.{get_or, length}
use borrow.Author.Tests.{lt-ltb, le-ltb}
use Rattle.std.specs.Prelude.{Option, Some, None, position, is_some, unwrap_or}
use Rattle.std.specs.List.{position_or_len, list_all, list_any, range_with_len}
use Rattle.std.proofs.lemmas.List.Folds.{list_all-append, list_any-append}
use Rattle.std.proofs.lemmas.List.Sums.{passes_at_first, fails_before_first}
use Rattle.parity.specs.Finite.{all, any, least, first}
use Rattle.parity.proofs.Finite.Sums.{is_true, is_false, is, any_of}
use Rattle.parity.proofs.Finite.Firsts.{any_none, least_is}

module _ (n : ℕ) (p : ℕ → Bool) where
  pub first_some : (i : ℕ) → Some i ≡ first n p → (any n p ≡ true) × (i ≡ least n p)
  first_some i e =
      elim (is (any n p)) [
        | is_true q ↦ (q, ap (λ o. unwrap_or o i) (rw q at e))
        | is_false q ↦ absurd (true≢false (ap is_some (rw q at e)))
      ]

  pub first_none : None ≡ first n p → any n p ≡ false
  first_none e = elim (is (any n p)) [ is_false q ↦ q | is_true q ↦ absurd (false≢true (ap is_some (rw q at e))) ]

  pub is_some_first : is_some (first n p) ≡ any n p
  is_some_first = elim (is (any n p)) [ is_true q ↦ rw q | is_false q ↦ rw q ]

module _ {X : Type 0} (t : X → Bool) (xs : List X) (d : X) where
  -- what the library's search by a test gives
  pub position_first : position t xs ≡ first (length xs) (λ i. t (get_or xs i d))
  position_first =
      let k = position_or_len t xs in
      elim (dec_lt k (length xs)) [
        | yes l ↦
            let e = passes_at_first t xs d l in
            rw (lt-ltb k (length xs) l, any_of (length xs) (λ i. t (get_or xs i d)) k l e, least_is (length xs) (λ i. t (get_or xs i d)) k l e (λ j m. fails_before_first t xs j d m))
        | no l ↦ rw (le-ltb k (length xs) (omega arith), any_none (length xs) (λ i. t (get_or xs i d)) (λ j m. fails_before_first t xs j d (omega arith)))
      ]

-- the numbers below a bound, with the last of them
last : (a n j : ℕ) → a + n ≡ j → range_with_len a (suc n) ≡ range_with_len a n ++ j ∷ []
last a zero j e = let s : a ≡ j = omega arith in ap (λ k. k ∷ []) s
last a (suc n) j e = ap (λ l. a ∷ l) (last (a + 1) n j (omega arith))

-- what the library's `all` and `any` over the numbers below n give
module _ (p : ℕ → Bool) where
  pub all_range : (n : ℕ) → list_all p (range_with_len 0 n) ≡ all n p
  unfolding all
  all_range zero = refl
  all_range (suc n) = ap (list_all p) (last 0 n n (omega arith)) ∙ list_all-append p (range_with_len 0 n) (n ∷ []) ∙ rw (all_range n, and-true (p n))

  pub any_range : (n : ℕ) → list_any p (range_with_len 0 n) ≡ any n p
  unfolding any
  any_range zero = refl
  any_range (suc n) = ap (list_any p) (last 0 n n (omega arith)) ∙ list_any-append p (range_with_len 0 n) (n ∷ []) ∙ rw (any_range n, or-false (p n))

-- `(0..n).all(f)` and `(0..n).any(f)`, where f answers as the test p: from the clause `ran` of the call
module _ {F : Type 0} {g : Mut F (ℕ × Unit {0}) Bool} {f : F} {u : Range ℕ} {r : Bool} (p : ℕ → Bool) (n : ℕ) where
  pub all_below : (xs : List ℕ) × (o : Option ℕ) × (j : F) × YieldsThen nat_range_steps (record { start = 0; end = n }) xs o u × FoldsTo (λ h x q. Called g h (x, tt) true q) f xs j
      × MatchOption o (r ≡ true) (λ x. (r ≡ false) × ((h : F) × Called g j (x, tt) false h))
      → ((x : ℕ) (b : Bool) (q : F) → Called g f (x, tt) b q → (q ≡ f) × (b ≡ p x)) → r ≡ all n p
  all_below ran answers = all_from_yields_List p u f r ran (YieldsList-from_range 0 n n refl (omega arith)) answers ∙ all_range p n

  pub any_below : (xs : List ℕ) × (o : Option ℕ) × (j : F) × YieldsThen nat_range_steps (record { start = 0; end = n }) xs o u × FoldsTo (λ h x q. Called g h (x, tt) false q) f xs j
      × MatchOption o (r ≡ false) (λ x. (r ≡ true) × ((h : F) × Called g j (x, tt) true h))
      → ((x : ℕ) (b : Bool) (q : F) → Called g f (x, tt) b q → (q ≡ f) × (b ≡ p x)) → r ≡ any n p
  any_below ran answers = any_from_yields_List p u f r ran (YieldsList-from_range 0 n n refl (omega arith)) answers ∙ any_range p n
