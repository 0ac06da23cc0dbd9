-- The list of the stopping sets of t sent bits (M-109): what it lists, and in which order. Assumes nothing.
use mathlib.Core.Path.{◌≡◌, refl, sym, ap, ◌∙◌}
use mathlib.Core.Bool.{Bool, true, false, cond, ◌&&◌, and-eq-true_iff, true≢false}
use mathlib.Core.List.Memᴰ
use mathlib.Core.List.{List, [], ◌∷◌, ◌++◌, map, Memᴰ}
use mathlib.Core.Logic.{inl, inr}
use Prim.Native.Nat.{ℕ, zero, suc, ◌+◌, ◌*◌, ◌≤◌, ◌<◌}
use native.Mathlib.Nat.{zero-mul, suc-mul}
use native.Mathlib.Omega.{arith}
use native.Mathlib.Decide.{ℕ_discrete}
use lib.Dec.{ltb, leb}
use lib.ListN.{length, get_or, length-append}
use borrow.Author.Tests.{eq-eqb, ne_eqb, lt-ltb, le-ltb, le-leb, leb-true, ltb-true}
use Rattle.parity.specs.Finite.{sum, count}
use Rattle.parity.specs.Matrix.{Matrix}
use Rattle.parity.specs.Words.{stopping}
use Rattle.parity.specs.StoppingSets.{is_in, sets_from, keep, flat, stopping_sets, rising, before, before_all, ordered}
use Rattle.parity.proofs.Finite.Sums.{is_true, is_false, is, count_cong}
use Rattle.parity.proofs.Matrix.Lent.{count_first}

-- members that rise from a on
pub rising_first : (a n b : ℕ) (s : List ℕ) → rising a n (b ∷ s) ≡ true → (a ≤ b) × (b < n) × (rising (suc b) n s ≡ true)
unfolding rising
rising_first a n b s e =
    let (p, q) = (and-eq-true_iff (leb a b && ltb b n) (rising (suc b) n s)).0 e in
    let (x, y) = (and-eq-true_iff (leb a b) (ltb b n)).0 p in
    (leb-true a b x, ltb-true b n y, q)

pub rising_cons : (a n b : ℕ) (s : List ℕ) → a ≤ b → b < n → rising (suc b) n s ≡ true → rising a n (b ∷ s) ≡ true
unfolding rising
rising_cons a n b s k l e = rw (le-leb a b k, lt-ltb b n l, e)

rising_down : (a n : ℕ) (s : List ℕ) → rising (suc a) n s ≡ true → rising a n s ≡ true
rising_down a n [] e = unfold rising in refl
rising_down a n (b ∷ s) e = let (k, l, q) = rising_first (suc a) n b s e in rising_cons a n b s (omega arith) l q

-- a set among those that begin with a
in_map : (a : ℕ) (ss : List (List ℕ)) (u : List ℕ) → Memᴰ u (map (λ s. a ∷ s) ss) → (s : List ℕ) × (u ≡ a ∷ s) × Memᴰ s ss
in_map a [] u m = absurd (Memᴰ.not-nil m)
in_map a (x ∷ ss) u m =
    elim (Memᴰ.cases_cons m) [
      | inl e ↦ (x, e, Memᴰ.head refl)
      | inr l ↦ let (s, e, q) = in_map a ss u l in (s, e, Memᴰ.tail q)
    ]

-- the sets of t of the r numbers from a on are those lists that rise
only : (s : List ℕ) → Memᴰ s ([] ∷ []) → s ≡ []
only s m = elim (Memᴰ.cases_cons m) [ inl e ↦ e | inr l ↦ absurd (Memᴰ.not-nil l) ]

pub sets_are : (r t a : ℕ) (s : List ℕ) → Memᴰ s (sets_from r t a) → (rising a (a + r) s ≡ true) × (length s ≡ t)
unfolding sets_from rising
sets_are zero zero a s m = rw (only s m) (refl, refl)
sets_are zero (suc t) a s m = absurd (Memᴰ.not-nil m)
sets_are (suc r) zero a s m = rw (only s m) (refl, refl)
sets_are (suc r) (suc t) a s m =
    let e : a + suc r ≡ suc a + r = omega arith in
    elim (Memᴰ.append_cases (map (λ u. a ∷ u) (sets_from r t (suc a))) m) [
      | inl l ↦
          let (u, q, k) = in_map a (sets_from r t (suc a)) s l in
          let (x, y) = sets_are r t (suc a) u k in
          rw (q, e) (rising_cons a (suc a + r) a u (omega arith) (omega arith) x, ap suc y)
      | inr l ↦
          let (x, y) = sets_are r (suc t) (suc a) s l in
          rw e (rising_down a (suc a + r) s x, y)
    ]

pub are_sets : (r t a : ℕ) (s : List ℕ) → rising a (a + r) s ≡ true → length s ≡ t → Memᴰ s (sets_from r t a)
unfolding sets_from
are_sets zero zero a [] e f = Memᴰ.head refl
are_sets zero zero a (b ∷ s) e f = absurd (omega arith)
are_sets zero (suc t) a [] e f = absurd (omega arith)
are_sets zero (suc t) a (b ∷ s) e f = absurd (omega (arith, (rising_first a (a + 0) b s e).0, (rising_first a (a + 0) b s e).1))
are_sets (suc r) zero a [] e f = Memᴰ.head refl
are_sets (suc r) zero a (b ∷ s) e f = absurd (omega arith)
are_sets (suc r) (suc t) a [] e f = absurd (omega arith)
are_sets (suc r) (suc t) a (b ∷ s) e f =
    let g : a + suc r ≡ suc a + r = omega arith in
    let (k, l, q) = rising_first a (a + suc r) b s e in
    elim (ℕ_discrete b a) [
      | yes i ↦ rw i (Memᴰ.append_left (sets_from r (suc t) (suc a)) (Memᴰ.map (λ u. a ∷ u) (are_sets r t (suc a) s (rw (i, g) at q) (omega arith))))
      | no d ↦ Memᴰ.append_right (map (λ u. a ∷ u) (sets_from r t (suc a))) (are_sets r (suc t) (suc a) (b ∷ s) (rising_cons (suc a) (suc a + r) b s (omega arith) (omega arith) (rw g at q)) f)
    ]

-- those that pass a test
pub in_keep : (p : List ℕ → Bool) (ss : List (List ℕ)) (s : List ℕ) → Memᴰ s (keep p ss) → Memᴰ s ss × (p s ≡ true)
unfolding keep
in_keep p [] s m = absurd (Memᴰ.not-nil m)
in_keep p (x ∷ ss) s m =
    elim (is (p x)) [
      | is_false e ↦ let (l, q) = in_keep p ss s (rw e at m) in (Memᴰ.tail l, q)
      | is_true e ↦ elim (Memᴰ.cases_cons (rw e at m)) [
        | inl i ↦ (Memᴰ.head i, rw i e)
        | inr l ↦ let (k, q) = in_keep p ss s l in (Memᴰ.tail k, q)
      ]
    ]

pub keep_in : (p : List ℕ → Bool) (ss : List (List ℕ)) (s : List ℕ) → Memᴰ s ss → p s ≡ true → Memᴰ s (keep p ss)
unfolding keep
keep_in p [] s m e = absurd (Memᴰ.not-nil m)
keep_in p (x ∷ ss) s m e =
    elim (Memᴰ.cases_cons m) [
      | inl i ↦ rw (← i, e) (Memᴰ.head refl)
      | inr l ↦ elim (is (p x)) [
        | is_true q ↦ rw q (Memᴰ.tail (keep_in p ss s l e))
        | is_false q ↦ rw q (keep_in p ss s l e)
      ]
    ]

-- the order
before_cons : (a : ℕ) (s u : List ℕ) → before (a ∷ s) (a ∷ u) ≡ before s u
unfolding before
before_cons a s u = rw (le-ltb a a (omega arith), eq-eqb a a refl)

before_map : (a : ℕ) (s : List ℕ) (us : List (List ℕ)) → before_all (a ∷ s) (map (λ u. a ∷ u) us) ≡ before_all s us
unfolding before_all
before_map a s [] = refl
before_map a s (u ∷ us) = rw (before_cons a s u, before_map a s us)

ordered_map : (a : ℕ) (ss : List (List ℕ)) → ordered (map (λ u. a ∷ u) ss) ≡ ordered ss
unfolding ordered
ordered_map a [] = refl
ordered_map a (s ∷ ss) = rw (before_map a s ss, ordered_map a ss)

before_append : (s : List ℕ) (us vs : List (List ℕ)) → before_all s us ≡ true → ((u : List ℕ) → Memᴰ u vs → before s u ≡ true) → before_all s (us ++ vs) ≡ true
unfolding before_all
before_append s [] [] e h = refl
before_append s [] (v ∷ vs) e h = rw (h v (Memᴰ.head refl), before_append s [] vs refl (λ u m. h u (Memᴰ.tail m)))
before_append s (u ∷ us) vs e h =
    let (p, q) = (and-eq-true_iff (before s u) (before_all s us)).0 e in
    rw (p, before_append s us vs q h)

ordered_append : (us vs : List (List ℕ)) → ordered us ≡ true → ordered vs ≡ true → ((s u : List ℕ) → Memᴰ s us → Memᴰ u vs → before s u ≡ true)
    → ordered (us ++ vs) ≡ true
unfolding ordered
ordered_append [] vs e f h = f
ordered_append (s ∷ us) vs e f h =
    let (p, q) = (and-eq-true_iff (before_all s us) (ordered us)).0 e in
    rw (before_append s us vs p (λ u m. h s u (Memᴰ.head refl) m), ordered_append us vs q f (λ x u l m. h x u (Memᴰ.tail l) m))

-- a set that begins with a is before those that begin later
before_later : (a n t : ℕ) (s u : List ℕ) → rising (suc a) n u ≡ true → length u ≡ suc t → before (a ∷ s) u ≡ true
unfolding before
before_later a n t s [] e f = absurd (omega arith)
before_later a n t s (b ∷ u) e f = rw (lt-ltb a b (rising_first (suc a) n b u e).0)

pub sets_ordered : (r t a : ℕ) → ordered (sets_from r t a) ≡ true
unfolding sets_from ordered before_all
sets_ordered zero zero a = refl
sets_ordered zero (suc t) a = refl
sets_ordered (suc r) zero a = refl
sets_ordered (suc r) (suc t) a =
    ordered_append (map (λ u. a ∷ u) (sets_from r t (suc a))) (sets_from r (suc t) (suc a))
    (ordered_map a (sets_from r t (suc a)) ∙ sets_ordered r t (suc a)) (sets_ordered r (suc t) (suc a))
    (λ s u l m.
    let (x, e, k) = in_map a (sets_from r t (suc a)) s l in
    let (p, q) = sets_are r (suc t) (suc a) u m in
    rw e (before_later a (suc a + r) t x u p q))

before_keep : (p : List ℕ → Bool) (s : List ℕ) (us : List (List ℕ)) → before_all s us ≡ true → before_all s (keep p us) ≡ true
unfolding before_all keep
before_keep p s [] e = refl
before_keep p s (u ∷ us) e =
    let (x, y) = (and-eq-true_iff (before s u) (before_all s us)).0 e in
    elim (is (p u)) [
      | is_true q ↦ rw (q, x, before_keep p s us y)
      | is_false q ↦ rw (q, before_keep p s us y)
    ]

pub ordered_keep : (p : List ℕ → Bool) (ss : List (List ℕ)) → ordered ss ≡ true → ordered (keep p ss) ≡ true
unfolding ordered keep
ordered_keep p [] e = refl
ordered_keep p (s ∷ ss) e =
    let (x, y) = (and-eq-true_iff (before_all s ss) (ordered ss)).0 e in
    elim (is (p s)) [
      | is_true q ↦ rw (q, before_keep p s ss x, ordered_keep p ss y)
      | is_false q ↦ rw (q, ordered_keep p ss y)
    ]

-- no set is before itself, and so none comes twice
before_self : (s : List ℕ) → before s s ≡ false
before_self [] = unfold before in refl
before_self (a ∷ s) = before_cons a s s ∙ before_self s

before_at : (s : List ℕ) (us : List (List ℕ)) (j : ℕ) → before_all s us ≡ true → j < length us → before s (get_or us j []) ≡ true
unfolding before_all
before_at s [] j e k = absurd (omega arith)
before_at s (u ∷ us) zero e k = ((and-eq-true_iff (before s u) (before_all s us)).0 e).0
before_at s (u ∷ us) (suc j) e k = before_at s us j ((and-eq-true_iff (before s u) (before_all s us)).0 e).1 (omega arith)

pub ordered_once : (ss : List (List ℕ)) → ordered ss ≡ true → (i j : ℕ) → i < j → j < length ss → get_or ss i [] ≡ get_or ss j [] → ⊥
unfolding ordered
ordered_once [] e i j k l q = absurd (omega arith)
ordered_once (s ∷ ss) e i zero k l q = absurd (omega arith)
ordered_once (s ∷ ss) e zero (suc j) k l q =
    true≢false (sym (before_at s ss j ((and-eq-true_iff (before_all s ss) (ordered ss)).0 e).0 (omega arith)) ∙ rw (← q) (before_self s))
ordered_once (s ∷ ss) e (suc i) (suc j) k l q = ordered_once ss ((and-eq-true_iff (before_all s ss) (ordered ss)).0 e).1 i j (omega arith) (omega arith) q

-- a number outside the range of a list that rises
pub rising_low : (a n b : ℕ) (s : List ℕ) → rising a n s ≡ true → b < a → is_in s b ≡ false
unfolding is_in
rising_low a n b [] e k = refl
rising_low a n b (x ∷ s) e k =
    let (u, l, q) = rising_first a n x s e in
    rw (ne_eqb b x (λ i. omega arith)) (rising_low (suc x) n b s q (omega arith))

pub rising_out : (a n b : ℕ) (s : List ℕ) → rising a n s ≡ true → n ≤ b → is_in s b ≡ false
unfolding is_in
rising_out a n b [] e k = refl
rising_out a n b (x ∷ s) e k =
    let (u, l, q) = rising_first a n x s e in
    rw (ne_eqb b x (λ i. omega arith)) (rising_out (suc x) n b s q k)

-- the members of a set, of the r numbers from a on, as a list that rises
unfoldable pub members : (ℕ → Bool) → ℕ → ℕ → List ℕ
members s zero a = []
members s (suc r) a = cond (s a) (a ∷ members s r (suc a)) (members s r (suc a))

pub members_rise : (s : ℕ → Bool) (r a : ℕ) → rising a (a + r) (members s r a) ≡ true
unfolding members rising
members_rise s zero a = refl
members_rise s (suc r) a =
    let e : a + suc r ≡ suc a + r = omega arith in
    let q = members_rise s r (suc a) in
    rw e (elim (is (s a)) [
      | is_true i ↦ rw i (rising_cons a (suc a + r) a (members s r (suc a)) (omega arith) (omega arith) q)
      | is_false i ↦ rw i (rising_down a (suc a + r) (members s r (suc a)) q)
    ])

members_count : (s : ℕ → Bool) (r a : ℕ) → length (members s r a) ≡ count r (λ i. s (a + i))
unfolding members count sum
members_count s zero a = refl
members_count s (suc r) a =
    let c = count_first r (λ i. s (a + i)) in
    let z : a + 0 ≡ a = omega arith in
    let d = count_cong r {p = λ i. s (a + (1 + i))} {q = λ i. s (suc a + i)} (λ i l. ap s (omega arith)) in
    let q = members_count s r (suc a) in
    elim (is (s a)) [
      | is_true i ↦ rw i (omega (arith, rw (z, i) at c))
      | is_false i ↦ rw i (omega (arith, rw (z, i) at c))
    ]

pub members_in : (s : ℕ → Bool) (r a b : ℕ) → a ≤ b → b < a + r → is_in (members s r a) b ≡ s b
unfolding members is_in
members_in s zero a b k l = absurd (omega arith)
members_in s (suc r) a b k l =
    elim (is (s a)) [
      | is_true i ↦ rw i (elim (ℕ_discrete b a) [
        | yes e ↦ rw (eq-eqb b a e, e, i)
        | no d ↦ rw (ne_eqb b a d) (members_in s r (suc a) b (omega arith) (omega arith))
      ])
      | is_false i ↦ rw i (elim (ℕ_discrete b a) [
        | yes e ↦ rw (e, i) (rising_low (suc a) (suc a + r) a (members s r (suc a)) (members_rise s r (suc a)) (omega arith))
        | no d ↦ members_in s r (suc a) b (omega arith) (omega arith)
      ])
    ]

-- Of every matrix each set that is listed has t members, sent bits, rising, and is a stopping set;
module _ (h : Matrix) (n N M t : ℕ) where
  pub each_listed : (s : List ℕ) → Memᴰ s (stopping_sets h n N M t) → (length s ≡ t) × (rising 0 n s ≡ true) × (stopping h N M (is_in s) ≡ true)
  unfolding stopping_sets
  each_listed s m =
      let (l, p) = in_keep (λ u. stopping h N M (is_in u)) (sets_from n t 0) s m in
      let (x, y) = sets_are n t 0 s l in
      let z : 0 + n ≡ n = omega arith in
      (y, rw z at x, p)

  -- each such set is listed;
  pub every_listed : (s : ℕ → Bool) → count n s ≡ t → stopping h N M (is_in (members s n 0)) ≡ true → Memᴰ (members s n 0) (stopping_sets h n N M t)
  unfolding stopping_sets
  every_listed s c p =
      let l = members_count s n 0 ∙ count_cong n {p = λ i. s (0 + i)} {q = s} (λ i k. ap s (omega arith)) ∙ c in
      keep_in (λ u. stopping h N M (is_in u)) (sets_from n t 0) (members s n 0) (are_sets n t 0 (members s n 0) (members_rise s n 0) l) p

  -- and they are in dictionary order, so that none comes twice (`ordered_once`).
  pub listed_ordered : ordered (stopping_sets h n N M t) ≡ true
  unfolding stopping_sets
  listed_ordered = ordered_keep (λ u. stopping h N M (is_in u)) (sets_from n t 0) (sets_ordered n t 0)

-- as many places as t for each set
pub flat_length : (t : ℕ) (ss : List (List ℕ)) → ((s : List ℕ) → Memᴰ s ss → length s ≡ t) → length (flat ss) ≡ length ss * t
unfolding flat
flat_length t [] h = sym (zero-mul t)
flat_length t (s ∷ ss) h =
    length-append s (flat ss) ∙ omega (arith, h s (Memᴰ.head refl), flat_length t ss (λ u m. h u (Memᴰ.tail m)), suc-mul (length ss) t)

-- two tests that agree on the sets
pub keep_cong : (p q : List ℕ → Bool) (ss : List (List ℕ)) → ((s : List ℕ) → Memᴰ s ss → p s ≡ q s) → keep p ss ≡ keep q ss
unfolding keep
keep_cong p q [] h = refl
keep_cong p q (s ∷ ss) h = rw (h s (Memᴰ.head refl), keep_cong p q ss (λ u m. h u (Memᴰ.tail m)))
