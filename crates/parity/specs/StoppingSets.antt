-- Document 02, 'Small stopping sets' (M-109): every stopping set of exactly t sent bits. Assumes nothing.
-- A set is the list of its members, rising.
use Rattle.std.specs.Prelude.{ℕ, zero, suc, Bool, true, false, cond, ◌&&◌, ◌||◌, List, [], ◌∷◌, ◌++◌, map, eqb, ltb, leb}
use Rattle.parity.specs.Matrix.{Matrix}
use Rattle.parity.specs.Words.{stopping}

-- whether b is a member
unfoldable pub is_in : List ℕ → ℕ → Bool
is_in [] b = false
is_in (a ∷ s) b = eqb b a || is_in s b

-- all sets of t of the r numbers from a on, in dictionary order: first those that contain a, then those that do not
unfoldable pub sets_from : ℕ → ℕ → ℕ → List (List ℕ)
sets_from zero zero a = [] ∷ []
sets_from zero (suc t) a = []
sets_from (suc r) zero a = [] ∷ []
sets_from (suc r) (suc t) a = map (λ s. a ∷ s) (sets_from r t (suc a)) ++ sets_from r (suc t) (suc a)

-- those that pass the test, in the same order
unfoldable pub keep : (List ℕ → Bool) → List (List ℕ) → List (List ℕ)
keep p [] = []
keep p (s ∷ ss) = cond (p s) (s ∷ keep p ss) (keep p ss)

-- Of a matrix with N bits and M checks, given and added ones, every stopping set of exactly t of the n sent bits. No added bit is in one.
unfoldable pub stopping_sets : Matrix → ℕ → ℕ → ℕ → ℕ → List (List ℕ)
stopping_sets h n N M t = keep (λ s. stopping h N M (is_in s)) (sets_from n t 0)

-- their members, one set after the other
unfoldable pub flat : List (List ℕ) → List ℕ
flat [] = []
flat (s ∷ ss) = s ++ flat ss

-- 'Members rising': each is above the one before it; all are a or above, and below n.
unfoldable pub rising : ℕ → ℕ → List ℕ → Bool
rising a n [] = true
rising a n (b ∷ s) = leb a b && ltb b n && rising (suc b) n s

-- 'Dictionary order': the smaller number at the first place where two sets differ, and the front of a set before the set.
unfoldable pub before : List ℕ → List ℕ → Bool
before [] [] = false
before [] (b ∷ u) = true
before (a ∷ s) [] = false
before (a ∷ s) (b ∷ u) = ltb a b || (eqb a b && before s u)

unfoldable pub before_all : List ℕ → List (List ℕ) → Bool
before_all s [] = true
before_all s (u ∷ us) = before s u && before_all s us

-- each set is before all that come after it
unfoldable pub ordered : List (List ℕ) → Bool
ordered [] = true
ordered (s ∷ ss) = before_all s ss && ordered ss
