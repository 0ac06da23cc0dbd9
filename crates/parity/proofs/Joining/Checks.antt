-- Laws of the joined checks: where each comes from, that none of either matrix is missing, and that nothing stands outside. Assumes nothing.
use mathlib.Core.Path.{◌≡◌, refl, ap, fun_ext}
use mathlib.Core.Bool.{Bool, true, false, beq}
use Prim.Native.Nat.{ℕ, zero, suc, ◌≤◌, ◌<◌}
use native.Mathlib.Omega.{arith}
use native.Mathlib.Decide.{ℕ_discrete, dec_lt}
use borrow.Author.Tests.{eq-eqb, ne_eqb}
use Rattle.parity.specs.Finite.{all, any}
use Rattle.parity.specs.Matrix.{Matrix}
use Rattle.parity.specs.Joining.{same_check, Joined, equals_earlier, with_check, join_check, joined}
use Rattle.parity.specs.Sound.{Clean}
use Rattle.parity.proofs.Finite.Bools.{beq_same, same_test}
use Rattle.parity.proofs.Finite.Sums.{is_true, is_false, is, all_at, all_of, any_at}

-- equal checks contain the same of the n bits
pub same_bits_of : (n : ℕ) (s t : ℕ → Bool) → same_check n s t ≡ true → (b : ℕ) → b < n → s b ≡ t b
unfolding same_check
same_bits_of n s t e b l = beq_same (s b) (t b) (all_at n _ e b l)

-- a check that equals an earlier one
pub earlier_at : (n : ℕ) (j : Joined) (s : ℕ → Bool) → equals_earlier n j s ≡ true → (i : ℕ) × (i < j.checks) × (same_check n (j.matrix i) s ≡ true)
unfolding equals_earlier
earlier_at n j s e = any_at j.checks (λ d. same_check n (j.matrix d) s) e

-- a check is added or not
pub join_equal : (n : ℕ) (j : Joined) (s : ℕ → Bool) → equals_earlier n j s ≡ true → join_check n j s ≡ j
unfolding join_check
join_equal n j s e = rw e

pub join_new : (n : ℕ) (j : Joined) (s : ℕ → Bool) → equals_earlier n j s ≡ false → join_check n j s ≡ with_check j s
unfolding join_check
join_new n j s e = rw e

-- the checks of a result with one more
pub with_checks : (j : Joined) (s : ℕ → Bool) → (with_check j s).checks ≡ suc j.checks
unfolding with_check
with_checks j s = refl

pub with_last : (j : Joined) (s : ℕ → Bool) → (with_check j s).matrix j.checks ≡ s
unfolding with_check
with_last j s = fun_ext (λ b. rw (eq-eqb j.checks j.checks refl))

pub with_other : (j : Joined) (s : ℕ → Bool) (c : ℕ) → (c ≡ j.checks → ⊥) → (with_check j s).matrix c ≡ j.matrix c
unfolding with_check
with_other j s c d = fun_ext (λ b. rw (ne_eqb c j.checks d))

-- each check of M checks has a property
abbrev pub Each : ((ℕ → Bool) → Type 0) → Matrix → ℕ → Type 0
Each P h M = (c : ℕ) → c < M → P (h c)

module _ (n : ℕ) (h : Matrix) (m : ℕ) (g : Matrix) where
  abbrev up_to : ℕ → Joined
  up_to c = joined n h m g c

  -- the next check of the second
  pub next_equal : (c : ℕ) → equals_earlier n (up_to c) (g c) ≡ true → up_to (suc c) ≡ up_to c
  unfolding joined
  next_equal c e = join_equal n (up_to c) (g c) e

  pub next_new : (c : ℕ) → equals_earlier n (up_to c) (g c) ≡ false → up_to (suc c) ≡ with_check (up_to c) (g c)
  unfolding joined
  next_new c e = join_new n (up_to c) (g c) e

  -- checks are added only
  pub checks_grow : (c : ℕ) → (up_to c).checks ≤ (up_to (suc c)).checks
  checks_grow c =
      elim (is (equals_earlier n (up_to c) (g c))) [
        | is_true e ↦ rw (next_equal c e) (omega arith)
        | is_false e ↦ rw (next_new c e, with_checks (up_to c) (g c)) (omega arith)
      ]

  pub checks_most : (c d : ℕ) → c ≤ d → (up_to c).checks ≤ (up_to d).checks
  checks_most c zero l = let e : c ≡ 0 = omega arith in rw e (omega arith)
  checks_most c (suc d) l =
      elim (ℕ_discrete c (suc d)) [
        | yes e ↦ rw e (omega arith)
        | no q ↦ omega (arith, checks_most c d (omega arith), checks_grow d)
      ]

  module _ (P : (ℕ → Bool) → Type 0) where
    -- What holds of each check of both holds of each joined one;
    pub each_joined : Each P h m → (c : ℕ) → Each P g c → Each P (up_to c).matrix (up_to c).checks
    unfolding joined
    each_joined H zero G = H
    each_joined H (suc c) G =
        let E = each_joined H c (λ d l. G d (omega arith)) in
        elim (is (equals_earlier n (up_to c) (g c))) [
          | is_true e ↦ rw (join_equal n (up_to c) (g c) e) E
          | is_false e ↦ rw (join_new n (up_to c) (g c) e) (more c E (G c (omega arith)))
        ]
      where
        more : (c : ℕ) → Each P (up_to c).matrix (up_to c).checks → P (g c) → Each P (with_check (up_to c) (g c)).matrix (with_check (up_to c) (g c)).checks
        more c E G d l =
            elim (ℕ_discrete d (up_to c).checks) [
              | yes q ↦ rw (q, with_last (up_to c) (g c)) G
              | no q ↦ rw (with_other (up_to c) (g c) d q) (E d (omega (arith, with_checks (up_to c) (g c))))
            ]

    -- of each joined one, so of those before the last check of the second,
    fewer : (c : ℕ) → Each P (up_to (suc c)).matrix (up_to (suc c)).checks → Each P (up_to c).matrix (up_to c).checks
    fewer c E d l =
        elim (is (equals_earlier n (up_to c) (g c))) [
          | is_true e ↦ let F = rw (next_equal c e) at E in F d l
          | is_false e ↦
              let F = rw (next_new c e) at E in
              rw (with_other (up_to c) (g c) d (λ q. omega arith)) at (F d (omega (arith, with_checks (up_to c) (g c))))
        ]

    -- and of each check of the first;
    pub each_first : (c : ℕ) → Each P (up_to c).matrix (up_to c).checks → Each P h m
    unfolding joined
    each_first zero E = E
    each_first (suc c) E = each_first c (fewer c E)

    -- and, where it depends on the n bits alone, of each check of the second.
    pub each_second : ((s t : ℕ → Bool) → ((b : ℕ) → b < n → s b ≡ t b) → P s → P t) → (c : ℕ) → Each P (up_to c).matrix (up_to c).checks → Each P g c
    each_second R zero E d l = absurd (omega arith)
    each_second R (suc c) E d l =
        elim (ℕ_discrete d c) [
          | no q ↦ each_second R c (fewer c E) d (omega arith)
          | yes q ↦ rw q (elim (is (equals_earlier n (up_to c) (g c))) [
            | is_true e ↦
                let (i, k, s) = earlier_at n (up_to c) (g c) e in
                R ((up_to c).matrix i) (g c) (same_bits_of n _ _ s) (fewer c E i k)
            | is_false e ↦
                let F = rw (next_new c e) at E in
                rw (with_last (up_to c) (g c)) at (F (up_to c).checks (omega (arith, with_checks (up_to c) (g c))))
          ])
        ]

  -- No joined check contains a bit from N on, and there is none behind the last.
  module _ (N : ℕ) (H : Clean h N m) where
    pub joined_clean : (c : ℕ) → ((d b : ℕ) → N ≤ b → g d b ≡ false) → Clean (up_to c).matrix N (up_to c).checks
    unfolding joined
    joined_clean zero G = H
    joined_clean (suc c) G =
        let K = joined_clean c G in
        elim (is (equals_earlier n (up_to c) (g c))) [
          | is_true e ↦ rw (join_equal n (up_to c) (g c) e) K
          | is_false e ↦ rw (join_new n (up_to c) (g c) e) record {
            checks = λ d b l. let q : d ≡ (up_to c).checks → ⊥ = λ r. omega (arith, with_checks (up_to c) (g c)) in
                rw (with_other (up_to c) (g c) d q) (K.checks d b (omega (arith, with_checks (up_to c) (g c))));
            bits = λ d b l. elim (ℕ_discrete d (up_to c).checks) [
              | yes q ↦ rw (q, with_last (up_to c) (g c)) (G c b l)
              | no q ↦ rw (with_other (up_to c) (g c) d q) (K.bits d b l)
            ];
          }
        ]

-- Bits from n on that no check contains may be compared too: the result is the same.
module _ (n N : ℕ) (l : n ≤ N) where
  same_short : (s t : ℕ → Bool) → ((b : ℕ) → n ≤ b → s b ≡ false) → ((b : ℕ) → n ≤ b → t b ≡ false) → same_check N s t ≡ same_check n s t
  unfolding same_check
  same_short s t S T =
      same_test (all N (λ b. beq (s b) (t b))) (all n (λ b. beq (s b) (t b)))
      (λ e. all_of n _ (λ b k. all_at N _ e b (omega arith)))
      (λ e. all_of N _ (λ b k. elim (dec_lt b n) [
        | yes q ↦ all_at n _ e b q
        | no q ↦ rw (S b (omega arith), T b (omega arith))
      ]))

  earlier_short : (j : Joined) (s : ℕ → Bool) → ((d b : ℕ) → n ≤ b → j.matrix d b ≡ false) → ((b : ℕ) → n ≤ b → s b ≡ false)
      → equals_earlier N j s ≡ equals_earlier n j s
  unfolding equals_earlier
  earlier_short j s J S = ap (any j.checks) (fun_ext (λ d. same_short (j.matrix d) s (J d) S))

  pub joined_short : (h : Matrix) (m : ℕ) (g : Matrix) → Clean h n m → ((d b : ℕ) → n ≤ b → g d b ≡ false) → (c : ℕ) → joined N h m g c ≡ joined n h m g c
  unfolding joined join_check
  joined_short h m g H G zero = refl
  joined_short h m g H G (suc c) =
      rw (joined_short h m g H G c, earlier_short (joined n h m g c) (g c) (joined_clean n h m g n H c G).bits (G c))
