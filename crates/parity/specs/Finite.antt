-- The vocabulary of the definitions: sums, counts, tests and searches over the numbers below a bound. Assumes nothing.
use Rattle.std.specs.Prelude.{ℕ, zero, suc, ◌+◌, max, Bool, true, false, cond, ◌&&◌, ◌||◌, List, [], ◌∷◌, Option, Some, None, eqb}

-- 1 for true, 0 for false
abbrev pub one : Bool → ℕ
one true = 1
one false = 0

-- f 0 + .. + f (n - 1)
unfoldable pub sum : ℕ → (ℕ → ℕ) → ℕ
sum zero f = 0
sum (suc n) f = sum n f + f n

-- how many of 0 .. n - 1 pass the test
unfoldable pub count : ℕ → (ℕ → Bool) → ℕ
unfolding sum
count n p = sum n (λ i. one (p i))

-- all of 0 .. n - 1 pass the test
unfoldable pub all : ℕ → (ℕ → Bool) → Bool
all zero p = true
all (suc n) p = all n p && p n

-- some of 0 .. n - 1 passes the test
unfoldable pub any : ℕ → (ℕ → Bool) → Bool
any zero p = false
any (suc n) p = any n p || p n

-- the largest of f 0 .. f (n - 1), and 0 if there is none
unfoldable pub most : ℕ → (ℕ → ℕ) → ℕ
most zero f = 0
most (suc n) f = max (most n f) (f n)

-- the smallest of 0 .. n - 1 that passes the test, and n if none does
unfoldable pub least : ℕ → (ℕ → Bool) → ℕ
least zero p = 0
least (suc n) p = cond (any n p) (least n p) (cond (p n) n (suc n))

-- the same, and nothing if none does
abbrev pub first : ℕ → (ℕ → Bool) → Option ℕ
first n p = cond (any n p) (Some (least n p)) None

-- the largest of 0 .. n - 1 that passes the test, and 0 if none does
unfoldable pub greatest : ℕ → (ℕ → Bool) → ℕ
greatest zero p = 0
greatest (suc n) p = cond (p n) n (greatest n p)

-- the smallest and the largest of 0 .. n - 1 that pass the test, in a list, and none of either if none does
unfoldable pub outermost : ℕ → (ℕ → Bool) → List ℕ
outermost n p = cond (any n p) (least n p ∷ greatest n p ∷ []) []

-- some set of the numbers below n, of all 2 ^ n, passes the test
unfoldable pub any_set : ℕ → ((ℕ → Bool) → Bool) → Bool
any_set zero p = p (λ i. false)
any_set (suc n) p = any_set n p || any_set n (λ s. p (λ i. eqb i n || s i))

-- the list f i, f (i + 1), .., of n entries
unfoldable pub list_from : ℕ → ℕ → (ℕ → ℕ) → List ℕ
list_from i zero f = []
list_from i (suc n) f = f i ∷ list_from (suc i) n f
