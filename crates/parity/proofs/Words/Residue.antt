-- The residue is the largest stopping set inside the erased bits, and what peeling writes outside it is unique. Assumes nothing.
use mathlib.Core.Path.{◌≡◌, refl, sym, ◌∙◌, fun_ext}
use mathlib.Core.Logic.{◌↔◌}
use mathlib.Core.Bool.{Bool, true, false, not, ◌&&◌, ◌||◌, xor, beq, and-false, or-true, and-eq-true_iff, false≢true}
use Prim.Native.Nat.{ℕ, zero, suc, ◌+◌, ◌*◌, ◌%◌, ◌≤◌, ◌<◌}
use native.Mathlib.Omega.{arith}
use native.Mathlib.Decide.{ℕ_discrete, dec_lt}
use lib.Dec.{eqb, ltb}
use borrow.Author.Tests.{eq-eqb, ne_eqb, eqb-true, lt-ltb, le-ltb}
use Rattle.parity.specs.Finite.{one, count, all, any_set}
use Rattle.parity.specs.Matrix.{Matrix}
use Rattle.parity.specs.Words.{inside, stopping, within, residue, solves}
use Rattle.parity.proofs.Finite.Sums.{is_true, is_false, is, all_at, all_of, one_le, count_pos, count_at, count_cong, sum_le, sum_cong, sum_add}
use Rattle.parity.proofs.Splits.Split.{Stops, stops}
use Rattle.parity.proofs.Finite.Bools.{then, when, or_else, beq_same, beq_refl, differ, xor_self}
use Rattle.parity.proofs.Words.Extend.{inside_cong}

-- a set, of which only the numbers below n count
abbrev pub below : ℕ → (ℕ → Bool) → ℕ → Bool
below n s i = ltb i n && s i

pub below_at : (n : ℕ) (s : ℕ → Bool) (i : ℕ) → i < n → below n s i ≡ s i
below_at n s i k = rw (lt-ltb i n k)

below_zero : (s : ℕ → Bool) → below 0 s ≡ (λ i. false)
below_zero s = fun_ext (λ i. rw (le-ltb i 0 (omega arith)))

less : (n i : ℕ) → (i ≡ n → ⊥) → ltb i (suc n) ≡ ltb i n
less n i d =
    elim (dec_lt i n)
    [ yes k ↦ rw (lt-ltb i n k, lt-ltb i (suc n) (omega arith)) | no k ↦ rw (le-ltb i n (omega arith), le-ltb i (suc n) (omega arith)) ]

below_in : (n : ℕ) (s : ℕ → Bool) → s n ≡ true → below (suc n) s ≡ (λ i. eqb i n || below n s i)
below_in n s e = fun_ext (λ i.
    elim (ℕ_discrete i n) [
      | yes q ↦ rw (eq-eqb i n q, q, e, lt-ltb n (suc n) (omega arith))
      | no d ↦ rw (ne_eqb i n d, less n i d)
    ])

below_out : (n : ℕ) (s : ℕ → Bool) → s n ≡ false → below (suc n) s ≡ below n s
below_out n s e = fun_ext (λ i.
    elim (ℕ_discrete i n) [
      | yes q ↦ rw (q, e, and-false, and-false)
      | no d ↦ rw (less n i d)
    ])

-- a set that passes is found
pub any_set_of : (n : ℕ) (p : (ℕ → Bool) → Bool) (s : ℕ → Bool) → p (below n s) ≡ true → any_set n p ≡ true
unfolding any_set
any_set_of zero p s e = rw (← below_zero s) e
any_set_of (suc n) p s e =
    elim (is (s n)) [
      | is_true q ↦ rw (any_set_of n (λ t. p (λ i. eqb i n || t i)) s (rw (← below_in n s q) e), or-true)
      | is_false q ↦ rw (any_set_of n p s (rw (← below_out n s q) e))
    ]

pub any_set_at : (n : ℕ) (p : (ℕ → Bool) → Bool) → any_set n p ≡ true → (s : ℕ → Bool) × (p s ≡ true)
unfolding any_set
any_set_at zero p e = (_, e)
any_set_at (suc n) p e =
    elim (is (any_set n p)) [
      | is_true q ↦ any_set_at n p q
      | is_false q ↦ let (s, t) = any_set_at n (λ s. p (λ i. eqb i n || s i)) (rw q at e) in (_, t)
    ]

-- A bit in which all sets that pass agree, as x does, is found.
pub the_one : (n : ℕ) (p : (ℕ → Bool) → Bool) (x : ℕ → Bool) → p (below n x) ≡ true → (b : ℕ) → b < n → ((z : ℕ → Bool) → p z ≡ true → z b ≡ x b)
    → any_set n (λ z. p z && z b) ≡ x b
the_one n p x e b k u =
    elim (is (x b)) [
      | is_true q ↦ any_set_of n (λ z. p z && z b) x (rw (e, below_at n x b k) q) ∙ sym q
      | is_false q ↦ elim (is (any_set n (λ z. p z && z b))) [
        | is_false r ↦ r ∙ sym q
        | is_true r ↦
            let (z, t) = any_set_at n (λ z. p z && z b) r in
            let (t₁, t₂) = (and-eq-true_iff (p z) (z b)).0 t in
            r ∙ sym t₂ ∙ u z t₁
      ]
    ]

-- a set within another
abbrev pub Within : ℕ → (ℕ → Bool) → (ℕ → Bool) → Type 0
Within N s e = (b : ℕ) → b < N → s b ≡ true → e b ≡ true

pub withins : (N : ℕ) (s e : ℕ → Bool) → (within N s e ≡ true) ↔ Within N s e
unfolding within
withins N s e = (λ t b k p. then (s b) (e b) (all_at N _ t b k) p, λ f. all_of N _ (λ b k. when (s b) (e b) (f b k)))

pub inside_le : (h : Matrix) (N c : ℕ) (s t : ℕ → Bool) → Within N s t → inside h N c s ≤ inside h N c t
unfolding inside count
inside_le h N c s t w = sum_le N (λ b k. one_le (h c b && s b) (h c b && t b) (λ e.
    let (p, q) = (and-eq-true_iff (h c b) (s b)).0 e in rw (p, w b k q)))

pub inside_pos : (h : Matrix) (N c : ℕ) (s : ℕ → Bool) (b : ℕ) → b < N → h c b ≡ true → s b ≡ true → 1 ≤ inside h N c s
unfolding inside
inside_pos h N c s b k p q = count_pos N (λ b. h c b && s b) b k (rw (p, q))

module _ (h : Matrix) (N M : ℕ) (e : ℕ → Bool) where
  -- each bit of the residue is in a stopping set inside the erased bits
  pub residue_at : (b : ℕ) → residue h N M e b ≡ true → (s : ℕ → Bool) × Stops h N M s × Within N s e × (s b ≡ true)
  unfolding residue
  residue_at b q =
      let (s, t) = any_set_at N (λ s. stopping h N M s && within N s e && s b) q in
      let (t₁, t₂) = (and-eq-true_iff (stopping h N M s && within N s e) (s b)).0 t in
      let (t₃, t₄) = (and-eq-true_iff (stopping h N M s) (within N s e)).0 t₁ in
      (s, (stops h N M s).0 t₃, (withins N s e).0 t₄, t₂)

  -- and the residue holds every such set
  pub residue_of : (s : ℕ → Bool) → Stops h N M s → Within N s e → Within N s (residue h N M e)
  unfolding residue
  residue_of s t w b k p =
      let r : (b : ℕ) → b < N → below N s b ≡ s b = below_at N s in
      any_set_of N _ s
      (rw ((stops h N M (below N s)).1 (λ c l q. t c l (sym (inside_cong h N c r) ∙ q)), (withins N (below N s) e).1 (λ b l q. w b l (sym (r b l) ∙ q)), r b k) p)

  pub residue_within : Within N (residue h N M e) e
  residue_within b k q = let (s, t, w, p) = residue_at b q in w b k p

  -- so it is a stopping set itself
  pub residue_stops : Stops h N M (residue h N M e)
  residue_stops c k q =
      let (b, bn, p) = count_at N (λ b. h c b && residue h N M e b) (unfold inside in omega arith) in
      let (p₁, p₂) = (and-eq-true_iff (h c b) (residue h N M e b)).0 p in
      let (s, t, w, r) = residue_at b p₂ in
      t c k (omega (arith, inside_le h N c s (residue h N M e) (residue_of s t w), inside_pos h N c s b bn p₁ r))

-- a check without a bit of r
pub outside : (h : Matrix) (N c : ℕ) (r : ℕ → Bool) → inside h N c r ≡ 0 → (b : ℕ) → b < N → h c b ≡ true → r b ≡ false
outside h N c r g b k p = elim (is (r b)) [ is_false q ↦ q | is_true q ↦ absurd (omega (arith, inside_pos h N c r b k p q)) ]

inside_or : (h : Matrix) (N c : ℕ) (r d : ℕ → Bool) → inside h N c r ≡ 0 → inside h N c (λ b. r b || d b) ≡ inside h N c d
inside_or h N c r d g = unfold inside in count_cong N (λ b k. elim (is (h c b)) [ is_true p ↦ rw (p, outside h N c r g b k p) | is_false p ↦ rw p ])

-- the ones of two words and of their sum, in a check
pub inside_xor : (h : Matrix) (N c : ℕ) (y z : ℕ → Bool)
    → inside h N c y + inside h N c z ≡ inside h N c (λ b. xor (y b) (z b)) + 2 * inside h N c (λ b. y b && z b)
unfolding inside count xor
inside_xor h N c y z =
    let d : ℕ → ℕ = λ b. one (h c b && xor (y b) (z b)) in
    let a : ℕ → ℕ = λ b. one (h c b && (y b && z b)) in
    omega (
      arith,
      sum_add N (λ b. one (h c b && y b)) (λ b. one (h c b && z b)),
      sum_add N (λ b. d b + a b) a,
      sum_add N d a,
      sum_cong N {f = λ b. one (h c b && y b) + one (h c b && z b)} {g = λ b. d b + a b + a b} (λ b k. bits (h c b) (y b) (z b)),
    )
  where
    bits : (i y z : Bool) → one (i && y) + one (i && z) ≡ one (i && xor y z) + one (i && (y && z)) + one (i && (y && z))
    bits true true true = refl
    bits true true false = refl
    bits true false true = refl
    bits true false false = refl
    bits false y z = refl

-- what it is to solve
pub record Solves (h : Matrix) (N M : ℕ) (e r x y : ℕ → Bool) : Type 0 where
  pub known : (b : ℕ) → b < N → e b ≡ false → y b ≡ x b
  pub even : (c : ℕ) → c < M → inside h N c r ≡ 0 → inside h N c y % 2 ≡ 0

pub solve : (h : Matrix) (N M : ℕ) (e r x y : ℕ → Bool) → (solves h N M e r x y ≡ true) ↔ Solves h N M e r x y
unfolding solves
solve h N M e r x y = (
  λ t. let (t₁, t₂) = (and-eq-true_iff (all N (λ b. e b || beq (y b) (x b))) _).0 t in
      record {
        known = λ b k q. beq_same (y b) (x b) (or_else (e b) _ (all_at N _ t₁ b k) q);
        even = λ c k q. eqb-true (inside h N c y % 2) 0 (or_else (not (eqb (inside h N c r) 0)) _ (all_at M _ t₂ c k) (rw (eq-eqb _ _ q)));
      },
  λ s. (and-eq-true_iff (all N (λ b. e b || beq (y b) (x b))) _).1 (
    all_of N _ (λ b k. elim (is (e b)) [ is_true q ↦ rw q | is_false q ↦ rw (q, s.known b k q) (beq_refl (x b)) ]),
    all_of M _ (λ c k. elim (ℕ_discrete (inside h N c r) 0)
        [ yes q ↦ rw (eq-eqb _ _ q, s.even c k q) | no d ↦ rw (ne_eqb _ _ d) ]),
  ),
)

module _ (h : Matrix) (N M : ℕ) (e x : ℕ → Bool) where
  -- Two solutions differ in no bit outside the residue.
  pub unique : (y z : ℕ → Bool) → Solves h N M e (residue h N M e) x y → Solves h N M e (residue h N M e) x z
      → (b : ℕ) → b < N → residue h N M e b ≡ false → y b ≡ z b
  unique y z s t b k q =
      differ (y b) (z b)
      (elim (is (xor (y b) (z b))) [
        | is_false p ↦ p
        | is_true p ↦ absurd (false≢true (sym q ∙ residue_of h N M e both stop inner b k (rw (p, or-true))))
      ])
    where
      r : ℕ → Bool
      r = residue h N M e

      d : ℕ → Bool
      d b = xor (y b) (z b)

      both : ℕ → Bool
      both b = r b || d b

      inner : Within N both e
      inner b k p =
          elim (is (e b)) [
            | is_true q ↦ q
            | is_false q ↦ elim (is (r b)) [
              | is_true f ↦ residue_within h N M e b k f
              | is_false f ↦ absurd (false≢true (sym (xor_self (y b) (z b) (s.known b k q ∙ sym (t.known b k q))) ∙ (rw f at p)))
            ]
          ]

      stop : Stops h N M both
      stop c l f =
          elim (ℕ_discrete (inside h N c r) 0) [
            | no g ↦ omega (arith, residue_stops h N M e c l, inside_le h N c r both (λ b k p. rw p))
            | yes g ↦
                let a = inside_or h N c r d g in
                omega (arith, s.even c l g, t.even c l g, inside_xor h N c y z)
          ]
