-- What the search lists is the list of the stopping sets. Assumes nothing.
use mathlib.Core.Path.{◌≡◌, refl, sym, ap, ◌∙◌}
use mathlib.Core.Bool.{Bool}
use mathlib.Core.List.{List, [], ◌∷◌, ◌++◌, map, append_assoc, append-nil}
use Prim.Native.Nat.{ℕ, zero, suc, ◌+◌, ◌*◌, ◌-◌, ◌≤◌, ◌<◌}
use native.Mathlib.Nat.{add-zero, suc-mul, mul-le-mul_right}
use native.Mathlib.Omega.{arith}
use lib.ListN.{length, length-append}
use Rattle.parity.specs.Matrix.{Matrix}
use Rattle.parity.specs.Words.{stopping}
use Rattle.parity.specs.StoppingSets.{is_in, sets_from, keep, flat, stopping_sets}
use Rattle.parity.proofs.Finite.Sums.{is_true, is_false, is}
use Rattle.enumeration.specs.Search.{joined, if_stopping, listed, Put, room_for}
use Rattle.enumeration.proofs.Joining.{next_of, listed_more}

-- joined lists, the first apart
joined_first : (r a : ℕ) (f : ℕ → List ℕ) → joined (suc r) a f ≡ f a ++ joined r (suc a) f
unfolding joined
joined_first zero a f = rw (add-zero a) (sym (append-nil (f a)))
joined_first (suc r) a f =
    let e : a + suc r ≡ suc a + r = omega arith in
    rw (joined_first r a f, e) (append_assoc (f a) (joined r (suc a) f) (f (suc a + r)))

keep_append : (p : List ℕ → Bool) (us vs : List (List ℕ)) → keep p (us ++ vs) ≡ keep p us ++ keep p vs
unfolding keep
keep_append p [] vs = refl
keep_append p (u ∷ us) vs = elim (is (p u)) [ is_true e ↦ rw (e, keep_append p us vs) | is_false e ↦ rw (e, keep_append p us vs) ]

flat_append : (us vs : List (List ℕ)) → flat (us ++ vs) ≡ flat us ++ flat vs
unfolding flat
flat_append [] vs = refl
flat_append (u ∷ us) vs = rw (flat_append us vs) (sym (append_assoc u (flat us) (flat vs)))

-- the sets ss behind the members p
abbrev behind : List ℕ → List (List ℕ) → List (List ℕ)
behind p ss = map (λ s. p ++ s) ss

behind_cons : (p : List ℕ) (a : ℕ) (ss : List (List ℕ)) → behind p (map (λ s. a ∷ s) ss) ≡ behind (p ++ (a ∷ [])) ss
behind_cons p a [] = refl
behind_cons p a (s ∷ ss) = rw (append_assoc p (a ∷ []) s, behind_cons p a ss)

behind_append : (p : List ℕ) (us vs : List (List ℕ)) → behind p (us ++ vs) ≡ behind p us ++ behind p vs
behind_append p [] vs = refl
behind_append p (u ∷ us) vs = rw (behind_append p us vs)

behind_none : (ss : List (List ℕ)) → behind [] ss ≡ ss
behind_none [] = refl
behind_none (s ∷ ss) = rw (behind_none ss)

-- the test of the search
abbrev stops : Matrix → ℕ → List ℕ → Bool
stops h M s = stopping h 128 M (is_in s)

one_kept : (h : Matrix) (M : ℕ) (p : List ℕ) → flat (keep (stops h M) ((p ++ []) ∷ [])) ≡ if_stopping h M p
unfolding flat keep if_stopping
one_kept h M p =
    rw (append-nil p) (elim (is (stops h M p)) [ is_true e ↦ rw e (append-nil p) | is_false e ↦ rw e ])

-- what is listed with the members p, by the definition of the sets
whole : (h : Matrix) (M n r t a : ℕ) (p : List ℕ) → n ≡ a + r → flat (keep (stops h M) (behind p (sets_from r t a))) ≡ listed h M n t p a
unfolding sets_from listed
whole h M n zero zero a p e = one_kept h M p
whole h M n zero (suc t) a p e = let f : n - a ≡ 0 = omega arith in rw f (unfold flat keep joined in refl)
whole h M n (suc r) zero a p e = one_kept h M p
whole h M n (suc r) (suc t) a p e =
    let f : n - a ≡ suc r = omega arith in
    let g : n - suc a ≡ r = omega arith in
    let i : n ≡ suc a + r = omega arith in
    rw (behind_append p (map (λ s. a ∷ s) (sets_from r t (suc a))) (sets_from r (suc t) (suc a)), behind_cons p a (sets_from r t (suc a)))
    (ap flat (keep_append (stops h M) (behind (p ++ (a ∷ [])) (sets_from r t (suc a))) (behind p (sets_from r (suc t) (suc a))))
    ∙ flat_append (keep (stops h M) (behind (p ++ (a ∷ [])) (sets_from r t (suc a)))) (keep (stops h M) (behind p (sets_from r (suc t) (suc a))))
    ∙ two (whole h M n r t (suc a) (p ++ (a ∷ [])) i) (whole h M n r (suc t) (suc a) p i ∙ listed_more h M n t p (suc a) ∙ ap (λ (k : ℕ). joined k (suc a) (next_of h M n t p)) g)
    ∙ sym (joined_first r a (next_of h M n t p)) ∙ ap (λ (k : ℕ). joined k a (next_of h M n t p)) (sym f))
  where
    two : {x y z w : List ℕ} → x ≡ y → z ≡ w → x ++ z ≡ y ++ w
    two k l = rw (k, l)

-- What is listed from no member on are the stopping sets.
listed_whole : (h : Matrix) (M n t : ℕ) → listed h M n t [] 0 ≡ flat (stopping_sets h n 128 M t)
unfolding stopping_sets
listed_whole h M n t =
    let z : 0 + n ≡ n = omega arith in
    sym (rw (behind_none (sets_from n t 0)) at (whole h M n n t 0 [] (sym z)))

-- at most 120 times as many numbers with one member more
joined_few : (r a B : ℕ) (f : ℕ → List ℕ) → ((b : ℕ) → length (f b) ≤ B) → length (joined r a f) ≤ r * B
unfolding joined
joined_few zero a B f h = omega arith
joined_few (suc r) a B f h = omega (arith, length-append (joined r a f) (f (a + r)), joined_few r a B f h, h (a + r), suc-mul r B)

times_few : (r B : ℕ) → r ≤ 120 → r * B ≤ 120 * B
times_few r B k = mul-le-mul_right B k

listed_few_more : (h : Matrix) (M n t B : ℕ) → n ≤ 120 → ((p : List ℕ) (a : ℕ) → length p + t ≤ 4 → length (listed h M n t p a) ≤ B)
    → (p : List ℕ) (a : ℕ) → length p + suc t ≤ 4 → length (listed h M n (suc t) p a) ≤ 120 * B
unfolding listed
listed_few_more h M n t B k f p a l =
    omega (arith, joined_few (n - a) a B (next_of h M n t p) (λ b. f (p ++ (b ∷ [])) (suc b) (rw (length-append p (b ∷ [])) (omega arith))), times_few (n - a) B (omega arith))

few_kept : (h : Matrix) (M n : ℕ) (p : List ℕ) (a : ℕ) → length p + 0 ≤ 4 → length (listed h M n 0 p a) ≤ 4
unfolding listed if_stopping
few_kept h M n p a l = elim (is (stops h M p)) [ is_true e ↦ rw e (omega arith) | is_false e ↦ rw e (omega arith) ]

-- at most 829,440,000
module _ (h : Matrix) (M n : ℕ) (k : n ≤ 120) where
  few1 : (p : List ℕ) (a : ℕ) → length p + 1 ≤ 4 → length (listed h M n 1 p a) ≤ 480
  few1 = listed_few_more h M n 0 4 k (few_kept h M n)

  few2 : (p : List ℕ) (a : ℕ) → length p + 2 ≤ 4 → length (listed h M n 2 p a) ≤ 57600
  few2 = listed_few_more h M n 1 480 k few1

  few3 : (p : List ℕ) (a : ℕ) → length p + 3 ≤ 4 → length (listed h M n 3 p a) ≤ 6912000
  few3 = listed_few_more h M n 2 57600 k few2

  few4 : (p : List ℕ) (a : ℕ) → length p + 4 ≤ 4 → length (listed h M n 4 p a) ≤ 829440000
  few4 = listed_few_more h M n 3 6912000 k few3

  listed_few : (t : ℕ) → t ≤ 4 → length (listed h M n t [] 0) ≤ 829440000
  listed_few zero l = omega (arith, few_kept h M n [] 0 (omega arith))
  listed_few (suc zero) l = omega (arith, few1 [] 0 (omega arith))
  listed_few (suc (suc zero)) l = omega (arith, few2 [] 0 (omega arith))
  listed_few (suc (suc (suc zero))) l = omega (arith, few3 [] 0 (omega arith))
  listed_few (suc (suc (suc (suc zero)))) l = few4 [] 0 (omega arith)
  listed_few (suc (suc (suc (suc (suc t))))) l = absurd (omega arith)

-- A call from no member on, for T = t: what it asks for, and what it lists.
module _ (h : Matrix) (M n t T : ℕ) (e : T ≡ t) (w : Bool) where
  pub whole_call : (old : List ℕ) → n ≤ 120 → t ≤ 4 → room_for w (length (flat (stopping_sets h n 128 M t))) ≤ length old
      → (0 + length (listed h M n T [] 0) < 1099511627776) × (room_for w (0 + length (listed h M n T [] 0)) ≤ length old)
  whole_call old k l r =
      let z : (x : ℕ) → 0 + x ≡ x = λ x. omega arith in
      rw (e, z) (omega (arith, listed_few h M n k t l), rw (listed_whole h M n t) r)

  pub whole_put : {old new : List ℕ} {r : ℕ} → Put w old new 0 (listed h M n T [] 0) r → Put w old new 0 (flat (stopping_sets h n 128 M t)) r
  whole_put P = rw (e, listed_whole h M n t) at P
