-- What the rounds and the lent slices are found to be. Assumes nothing.
use mathlib.Core.Path.{◌≡◌, ap, ◌∙◌, sym}
use mathlib.Core.Bool.{◌&&◌}
use mathlib.Core.List.{List, [], ◌∷◌}
use Prim.Native.Nat.{ℕ, ◌≤◌}
use lib.Dec.{eqb}
use lib.Ieee.{Float, nan}
use lib.ListN.{length}
use borrow.Author.Tests.{le-leb, eq-eqb}
use Rattle.std.specs.Prelude.{position}
use Rattle.std.specs.List.{zip}
use Rattle.parity.specs.Finite.{any, least, first}
use Rattle.parity.specs.Causes.{answer, refusal, refuse}
use Rattle.parity.specs.Calls.{wrong_byte, wrong_place}
use Rattle.parity.specs.Floats.{too_large}
use Rattle.parity.specs.SoftCall.{wrong_float, soft_reply}
use Rattle.soft.proofs.Zipped.{position_zip}

module _ (N : ℕ) (w : List ℕ) (f : List Float) (p : length w ≡ N) (q : length f ≡ N) where
  -- what the search finds
  pub searched : position (λ p. eqb p.0 3 && too_large p.1) (zip w f) ≡ first N (wrong_float w f)
  unfolding wrong_float
  searched = position_zip (λ p. eqb p.0 3 && too_large p.1) w f (p ∙ sym q) 0 nan ∙ ap (λ n. first n (wrong_float w f)) p

-- right rounds and lengths leave causes 11 and 23
pub fitting : (N r : ℕ) (w : List ℕ) (f : List Float) (ts : List ℕ) (xs : List Float) → 1 ≤ r → r ≤ 512 → length w ≡ N → length f ≡ N → length ts ≡ 65536 → length xs ≡ 65536
    → soft_reply N r w f ts xs ≡ refuse (wrong_byte 3 w) (refusal 11 (wrong_place 3 w ∷ [])) (refuse (any N (wrong_float w f)) (refusal 23 (least N (wrong_float w f) ∷ [])) (answer []))
unfolding soft_reply
fitting N r w f ts xs a b c d e g = rw (le-leb 1 r a, le-leb r 512 b, eq-eqb _ _ c, eq-eqb _ _ d, eq-eqb _ _ e, eq-eqb _ _ g)
