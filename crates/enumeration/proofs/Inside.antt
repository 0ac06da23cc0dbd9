-- One more member: which checks contain exactly one, or some, of the members, and when they are a stopping set. Assumes nothing.
use mathlib.Core.Path.{◌≡◌, refl, ap, ◌∙◌}
use mathlib.Core.Bool.{Bool, true, false, not, ◌&&◌, ◌||◌, and-true, and-false, or-true, or-false}
use mathlib.Core.List.{List, [], ◌∷◌, ◌++◌}
use Prim.Native.Nat.{ℕ, zero, suc, ◌+◌, ◌≤◌, ◌<◌}
use native.Mathlib.Nat.{add-zero}
use native.Mathlib.Omega.{arith}
use lib.Dec.{eqb, ltb}
use lib.ListN.{length, get_or}
use borrow.Author.Tests.{eq-eqb, ne_eqb, lt-ltb}
use Rattle.parity.specs.Finite.{one, count}
use Rattle.parity.specs.Matrix.{Matrix, lent}
use Rattle.parity.specs.Words.{inside, stopping}
use Rattle.parity.specs.StoppingSets.{is_in}
use Rattle.parity.proofs.Finite.Sums.{sum_point, sum_zero}
use Rattle.parity.proofs.Finite.Firsts.{all_cong}
use Rattle.enumeration.specs.Search.{across, lone, completing, Seen, OnceWith, SomeWith, Under}
use Rattle.enumeration.proofs.Lone.{is_lone}

pub in_more : (p : List ℕ) (d b : ℕ) → is_in (p ++ (d ∷ [])) b ≡ (is_in p b || eqb b d)
unfolding is_in
in_more [] d b = or-false (eqb b d)
in_more (a ∷ p) d b = rw (in_more p d b) (assoc (eqb b a) (is_in p b) (eqb b d))
  where
    assoc : (x y z : Bool) → (x || (y || z)) ≡ ((x || y) || z)
    assoc true y z = refl
    assoc false y z = refl

-- a number above all members is none
pub in_under : (p : List ℕ) (a b : ℕ) → Under p a → a ≤ b → is_in p b ≡ false
unfolding is_in
in_under [] a b U k = refl
in_under (x ∷ p) a b U k =
    let n : b ≡ x → ⊥ = λ e. omega (arith, U.at 0 (omega arith)) in
    rw (ne_eqb b x n) (in_under p a b (record { at = λ i l. U.at (suc i) (omega arith) }) k)

pub under_more : (p : List ℕ) (d : ℕ) → Under p d → Under (p ++ (d ∷ [])) (d + 1)
under_more [] d U = record { at = λ i k. go i k }
  where
    go : (i : ℕ) → i < length (d ∷ []) → get_or (d ∷ []) i 0 < d + 1
    go zero k = omega arith
    go (suc i) k = absurd (omega arith)
under_more (x ∷ p) d U =
    let T = under_more p d (record { at = λ i l. U.at (suc i) (omega arith) }) in
    record { at = λ i k. go T i k }
  where
    go : Under (p ++ (d ∷ [])) (d + 1) → (i : ℕ) → i < length (x ∷ (p ++ (d ∷ []))) → get_or (x ∷ (p ++ (d ∷ []))) i 0 < d + 1
    go T zero k = omega (arith, U.at 0 (omega arith))
    go T (suc i) k = T.at i (omega arith)

pub under_later : (p : List ℕ) (a b : ℕ) → Under p a → a ≤ b → Under p b
under_later p a b U k = record { at = λ i l. omega (arith, U.at i l) }

pub under_none : (a : ℕ) → Under [] a
under_none a = record { at = λ i k. absurd (omega arith) }

-- one more bit of a check
pub inside_more : (h : Matrix) (N c : ℕ) (p : List ℕ) (d : ℕ) → d < N → Under p d → inside h N c (is_in (p ++ (d ∷ []))) ≡ inside h N c (is_in p) + one (h c d)
unfolding inside count
inside_more h N c p d k U =
    let q = sum_point N d {f = λ b. one (h c b && is_in (p ++ (d ∷ [])) b)} {g = λ b. one (h c b && is_in p b)} k
    (λ b l n. ap (λ x. one (h c b && x)) (in_more p d b ∙ rw (ne_eqb b d n) (or-false (is_in p b)))) in
    let f : is_in (p ++ (d ∷ [])) d ≡ true = in_more p d d ∙ rw (eq-eqb d d refl) (or-true (is_in p d)) in
    omega (arith, rw (f, in_under p d d U (omega arith), and-true, and-false) at q)

pub inside_none : (h : Matrix) (N c : ℕ) → inside h N c (is_in []) ≡ 0
unfolding inside count is_in
inside_none h N c = sum_zero N (λ i l. rw (and-false))

lone_sum : (a : ℕ) (b : Bool) → lone (eqb a 1) (ltb 0 a) b ≡ eqb (a + one b) 1
lone_sum zero true = refl
lone_sum (suc a) true = rw (and-false, lt-ltb 0 (suc a) (omega arith), ne_eqb (suc a + 1) 1 (λ e. omega arith))
lone_sum a false = rw (and-true, or-false, add-zero a)

some_sum : (a : ℕ) (b : Bool) → (ltb 0 a || b) ≡ ltb 0 (a + one b)
some_sum a true = rw (or-true, lt-ltb 0 (a + 1) (omega arith))
some_sum a false = rw (or-false, add-zero a)

module _ (cols p x u : List ℕ) (S : Seen (across cols) p x u) (d : ℕ) (k : d < 128) (U : Under p d) where
  -- A check contains exactly one of the members and d
  lone_is : (c : ℕ) → c < 512 → is_lone 8 cols x u d c ≡ eqb (inside (across cols) 128 c (is_in (p ++ (d ∷ [])))) 1
  lone_is c l =
      rw (S.once c l, S.some c l, inside_more (across cols) 128 c p d k U) (lone_sum (inside (across cols) 128 c (is_in p)) (lent 8 cols d c))

  pub seen_more : (x' u' : List ℕ) → OnceWith cols x u d x' → SomeWith cols u d u' → Seen (across cols) (p ++ (d ∷ [])) x' u'
  seen_more x' u' X T = record {
    once = λ c l. X.at c l ∙ lone_is c l;
    some = λ c l. T.at c l ∙ rw (S.some c l, inside_more (across cols) 128 c p d k U) (some_sum (inside (across cols) 128 c (is_in p)) (lent 8 cols d c));
  }

  -- The members and d are a stopping set exactly if no check contains exactly one of them.
  pub completes_law : (M : ℕ) → M ≤ 512 → completing cols x u M d ≡ stopping (across cols) 128 M (is_in (p ++ (d ∷ [])))
  unfolding stopping completing
  completes_law M l = all_cong M (λ c m. ap not (lone_is c (omega arith)))

-- no members
pub seen_none : (h : Matrix) (x u : List ℕ) → ((c : ℕ) → lent 8 x 0 c ≡ false) → ((c : ℕ) → lent 8 u 0 c ≡ false) → Seen h [] x u
seen_none h x u X T = record {
  once = λ c l. X c ∙ rw (inside_none h 128 c);
  some = λ c l. T c ∙ rw (inside_none h 128 c);
}
