-- The first cause of two matrices, each cause over both before the next. Assumes nothing.
use mathlib.Core.Path.{◌≡◌, refl, sym, ap, ◌∙◌}
use mathlib.Core.Bool.{Bool, true, false, not, cond, ◌||◌}
use mathlib.Core.List.{List, []}
use Prim.Native.Nat.{ℕ, ◌+◌, ◌≤◌, ◌<◌, min}
use native.Mathlib.Omega.{arith}
use native.Mathlib.Decide.{ℕ_discrete, dec_lt}
use lib.Dec.{eqb, ltb}
use lib.ListN.{length}
use borrow.Author.Tests.{eq-eqb, ne_eqb, lt-ltb, le-ltb}
use Rattle.parity.specs.Matrix.{lent, in_range, clean, rule_a, cause}
use Rattle.std.specs.Prelude.{⊤, Result, Ok, Err}
use Rattle.parity.specs.Causes.{Reply, answer, refusal, refuse, refusal_of, result_reply, no_values}
use Rattle.parity.specs.Calls.{wrong_length, accept_reply, accepting_both}
use Rattle.parity.specs.declared.Refusal.{Refusal}
use Rattle.parity.specs.declared.Refusal.TheVariants.{AddedBits, DifferentLengths}
use Rattle.parity.proofs.Causes.Refused.{refused_number, accepted_cause}
use Rattle.parity.proofs.Matrix.Accept.{accepting_answers, accepting_refuses}
use Rattle.join.specs.Causes.{lower}

-- the first of causes 1 to 4 that refuses a lent matrix, and 5 if none does
first_cause : List ℕ → ℕ → ℕ → ℕ → ℕ
first_cause ws n m k = cond (eqb (cause ws n m k) 0) 5 (cause ws n m k)

-- what a refusal of acceptance is the first cause of
module _ (ws : List ℕ) (n m k : ℕ) where
  cause_most : cause ws n m k ≤ 4
  unfolding cause
  cause_most = most (eqb (length ws) 4096) (in_range n m k) (clean 8 (n + k) (m + k) 0 ws) (rule_a (lent 8 ws) n m k)
    where
      most : (a b c d : Bool) → cond (not a) 1 (cond (not b) 2 (cond (not c) 3 (cond (not d) 4 0))) ≤ 4
      most true true true true = omega arith
      most true true true false = omega arith
      most true true false d = omega arith
      most true false c d = omega arith
      most false b c d = omega arith

  accepted_first : answer [] ≡ accept_reply ws n m k → first_cause ws n m k ≡ 5
  unfolding first_cause
  accepted_first e = rw (accepted_cause ws n m k e)

  refused_first : (r : Refusal) → refusal_of r ≡ accept_reply ws n m k → (refusal_of r ≡ refusal (first_cause ws n m k) []) × (first_cause ws n m k < 5)
  unfolding first_cause accept_reply
  refused_first r e =
      elim (ℕ_discrete (cause ws n m k) 0) [
        | yes q ↦ absurd (refused_number r (ap (λ (x : Reply). x.number) (e ∙ accepting_answers ws n m k (answer []) q)))
        | no d ↦ rw (ne_eqb (cause ws n m k) 0 d) (e ∙ accepting_refuses ws n m k (answer []) d, omega (arith, cause_most))
      ]

-- the first of four tests that fails, and 5 if none does
abbrev firsts : Bool → Bool → Bool → Bool → ℕ
firsts a b c d = cond (not a) 1 (cond (not b) 2 (cond (not c) 3 (cond (not d) 4 5)))

firsts_cause : (a b c d : Bool)
    → let x : ℕ = cond (not a) 1 (cond (not b) 2 (cond (not c) 3 (cond (not d) 4 0))) in cond (eqb x 0) 5 x ≡ firsts a b c d
firsts_cause true true true true = refl
firsts_cause true true true false = refl
firsts_cause true true false d = refl
firsts_cause true false c d = refl
firsts_cause false b c d = refl

first_is : (ws : List ℕ) (n m k : ℕ) → first_cause ws n m k ≡ firsts (eqb (length ws) 4096) (in_range n m k) (clean 8 (n + k) (m + k) 0 ws) (rule_a (lent 8 ws) n m k)
unfolding first_cause cause
first_is ws n m k = firsts_cause (eqb (length ws) 4096) (in_range n m k) (clean 8 (n + k) (m + k) 0 ws) (rule_a (lent 8 ws) n m k)

-- a test in front of others
in_front : (b : Bool) (i x : ℕ) → i ≤ x → i ≤ cond (not b) i x
in_front true i x l = l
in_front false i x l = omega arith

of_both : (a b : Bool) (i x y : ℕ) → i ≤ x → i ≤ y → min (cond (not a) i x) (cond (not b) i y) ≡ cond (not a || not b) i (min x y)
of_both true true i x y k l = refl
of_both true false i x y k l = omega arith
of_both false true i x y k l = omega arith
of_both false false i x y k l = omega arith

-- the smaller of the two first causes is the first, over both before the next
firsts_both : (a b c d a' b' c' d' : Bool)
    → min (firsts a b c d) (firsts a' b' c' d') ≡ cond (not a || not a') 1 (cond (not b || not b') 2 (cond (not c || not c') 3 (cond (not d || not d') 4 5)))
firsts_both a b c d a' b' c' d' =
    let x₄ = in_front d 4 5 (omega arith) in
    let y₄ = in_front d' 4 5 (omega arith) in
    let x₃ = in_front c 3 (cond (not d) 4 5) (omega arith) in
    let y₃ = in_front c' 3 (cond (not d') 4 5) (omega arith) in
    let x₂ = in_front b 2 (cond (not c) 3 (cond (not d) 4 5)) (omega arith) in
    let y₂ = in_front b' 2 (cond (not c') 3 (cond (not d') 4 5)) (omega arith) in
    of_both a a' 1 _ _ (omega arith) (omega arith)
    ∙ ap (cond (not a || not a') 1) (of_both b b' 2 _ _ (omega arith) (omega arith)
    ∙ ap (cond (not b || not b') 2) (of_both c c' 3 _ _ (omega arith) (omega arith)
    ∙ ap (cond (not c || not c') 3) (of_both d d' 4 5 5 (omega arith) (omega arith))))

-- the refusal of the first cause
refusing : (a b c d : Bool) (after : Reply)
    → let x : ℕ = cond a 1 (cond b 2 (cond c 3 (cond d 4 5))) in
    refuse a (refusal 1 []) (refuse b (refusal 2 []) (refuse c (refusal 3 []) (refuse d (refusal 4 []) after))) ≡ cond (eqb x 5) after (refusal x [])
refusing true b c d after = refl
refusing false true c d after = refl
refusing false false true d after = refl
refusing false false false true after = refl
refusing false false false false after = refl

positive : (a b c d : Bool) → 1 ≤ cond a 1 (cond b 2 (cond c 3 (cond d 4 5)))
positive true b c d = omega arith
positive false true c d = omega arith
positive false false true d = omega arith
positive false false false true = omega arith
positive false false false false = omega arith

most : (a b c d : Bool) → cond a 1 (cond b 2 (cond c 3 (cond d 4 5))) ≤ 5
most true b c d = omega arith
most false true c d = omega arith
most false false true d = omega arith
most false false false true = omega arith
most false false false false = omega arith

module _ (ws₁ : List ℕ) (n₁ m₁ k₁ : ℕ) (ws₂ : List ℕ) (n₂ m₂ k₂ : ℕ) where
  abbrev both : ℕ
  both = min (first_cause ws₁ n₁ m₁ k₁) (first_cause ws₂ n₂ m₂ k₂)

  abbrev a : Bool
  a = wrong_length 4096 ws₁ || wrong_length 4096 ws₂

  abbrev b : Bool
  b = not (in_range n₁ m₁ k₁) || not (in_range n₂ m₂ k₂)

  abbrev c : Bool
  c = not (clean 8 (n₁ + k₁) (m₁ + k₁) 0 ws₁) || not (clean 8 (n₂ + k₂) (m₂ + k₂) 0 ws₂)

  abbrev d : Bool
  d = not (rule_a (lent 8 ws₁) n₁ m₁ k₁) || not (rule_a (lent 8 ws₂) n₂ m₂ k₂)

  both_is : both ≡ cond a 1 (cond b 2 (cond c 3 (cond d 4 5)))
  both_is =
      rw (first_is ws₁ n₁ m₁ k₁, first_is ws₂ n₂ m₂ k₂)
      (firsts_both (eqb (length ws₁) 4096) (in_range n₁ m₁ k₁) (clean 8 (n₁ + k₁) (m₁ + k₁) 0 ws₁) (rule_a (lent 8 ws₁) n₁ m₁ k₁)
      (eqb (length ws₂) 4096) (in_range n₂ m₂ k₂) (clean 8 (n₂ + k₂) (m₂ + k₂) 0 ws₂) (rule_a (lent 8 ws₂) n₂ m₂ k₂))

  abbrev later : Reply → Reply
  later after = refuse (ltb 0 k₁ || ltb 0 k₂) (refusal 13 []) (refuse (not (eqb n₁ n₂)) (refusal 20 []) after)

  told : (after : Reply) → accepting_both ws₁ n₁ m₁ k₁ ws₂ n₂ m₂ k₂ after ≡ cond (eqb both 5) (later after) (refusal both [])
  unfolding accepting_both
  told after = refusing a b c d (later after) ∙ sym (ap (λ x. cond (eqb x 5) (later after) (refusal x [])) both_is)

  both_positive : 1 ≤ both
  both_positive = rw both_is (positive a b c d)

  -- a refusal by one of these causes comes before whatever is behind them
  pub both_refused : (r : Refusal) → refusal_of r ≡ accepting_both ws₁ n₁ m₁ k₁ ws₂ n₂ m₂ k₂ (answer []) → (after : Reply)
      → refusal_of r ≡ accepting_both ws₁ n₁ m₁ k₁ ws₂ n₂ m₂ k₂ after
  unfolding accepting_both
  both_refused r e after =
      behind a _ e (λ e. behind b _ e (λ e. behind c _ e (λ e. behind d _ e (λ e.
      behind (ltb 0 k₁ || ltb 0 k₂) _ e (λ e. behind (not (eqb n₁ n₂)) _ e (λ e. absurd (refused_number r (ap (λ (x : Reply). x.number) e))))))))
    where
      behind : (h : Bool) (x : Reply) {y z : Reply} → refusal_of r ≡ refuse h x y → (refusal_of r ≡ y → refusal_of r ≡ z) → refusal_of r ≡ refuse h x z
      behind true x e f = e
      behind false x e f = f e

  -- by two answers of acceptance
  module _ (x y : Result ⊤ Refusal) (e : result_reply no_values x ≡ accept_reply ws₁ n₁ m₁ k₁) (f : result_reply no_values y ≡ accept_reply ws₂ n₂ m₂ k₂) where
    lower_both : result_reply no_values (lower x y) ≡ cond (eqb both 5) (answer []) (refusal both [])
    lower_both = by x y e f
      where
        by : (x y : Result ⊤ Refusal) → result_reply no_values x ≡ accept_reply ws₁ n₁ m₁ k₁ → result_reply no_values y ≡ accept_reply ws₂ n₂ m₂ k₂
            → result_reply no_values (lower x y) ≡ cond (eqb both 5) (answer []) (refusal both [])
        by (Ok u) (Ok v) e f = rw (accepted_first ws₁ n₁ m₁ k₁ e, accepted_first ws₂ n₂ m₂ k₂ f)
        by (Ok u) (Err r) e f =
            let (g, l) = refused_first ws₂ n₂ m₂ k₂ r f in
            let q : both ≡ first_cause ws₂ n₂ m₂ k₂ = omega (arith, accepted_first ws₁ n₁ m₁ k₁ e) in
            rw (q, ne_eqb (first_cause ws₂ n₂ m₂ k₂) 5 (λ i. omega arith)) g
        by (Err r) (Ok v) e f =
            let (g, l) = refused_first ws₁ n₁ m₁ k₁ r e in
            let q : both ≡ first_cause ws₁ n₁ m₁ k₁ = omega (arith, accepted_first ws₂ n₂ m₂ k₂ f) in
            rw (q, ne_eqb (first_cause ws₁ n₁ m₁ k₁) 5 (λ i. omega arith)) g
        by (Err r) (Err s) e f =
            let (g, l) = refused_first ws₁ n₁ m₁ k₁ r e in
            let (h, m) = refused_first ws₂ n₂ m₂ k₂ s f in
            let i : (refusal_of r).number ≡ first_cause ws₁ n₁ m₁ k₁ = ap (λ (z : Reply). z.number) g in
            let j : (refusal_of s).number ≡ first_cause ws₂ n₂ m₂ k₂ = ap (λ (z : Reply). z.number) h in
            elim (dec_lt (refusal_of s).number (refusal_of r).number) [
              | yes u ↦
                  let q : both ≡ first_cause ws₂ n₂ m₂ k₂ = omega arith in
                  rw (lt-ltb (refusal_of s).number (refusal_of r).number u, q, ne_eqb (first_cause ws₂ n₂ m₂ k₂) 5 (λ i. omega arith)) h
              | no u ↦
                  let q : both ≡ first_cause ws₁ n₁ m₁ k₁ = omega arith in
                  rw (le-ltb (refusal_of s).number (refusal_of r).number (omega arith), q, ne_eqb (first_cause ws₁ n₁ m₁ k₁) 5 (λ i. omega arith)) g
            ]

    pub lower_refused : (r : Refusal) → Err r ≡ lower x y → refusal_of r ≡ accepting_both ws₁ n₁ m₁ k₁ ws₂ n₂ m₂ k₂ (answer [])
    lower_refused r g =
        let h : refusal_of r ≡ cond (eqb both 5) (answer []) (refusal both []) = ap (result_reply no_values) g ∙ lower_both in
        elim (ℕ_discrete both 5) [
          | yes q ↦ let z : refusal_of r ≡ answer [] = rw (eq-eqb both 5 q) at h in absurd (refused_number r (ap (λ (x : Reply). x.number) z))
          | no q ↦ h ∙ sym (told (answer []) ∙ rw (ne_eqb both 5 q))
        ]

    module _ (g : Ok tt ≡ lower x y) where
      none_first : (after : Reply) → accepting_both ws₁ n₁ m₁ k₁ ws₂ n₂ m₂ k₂ after ≡ later after
      none_first after =
          let h : answer [] ≡ cond (eqb both 5) (answer []) (refusal both []) = ap (result_reply no_values) g ∙ lower_both in
          elim (ℕ_discrete both 5) [
            | yes q ↦ told after ∙ rw (eq-eqb both 5 q)
            | no q ↦
                let z : answer [] ≡ refusal both [] = rw (ne_eqb both 5 q) at h in
                absurd (omega (arith, both_positive, ap (λ (x : Reply). x.number) z))
          ]

      pub admits_added : 0 < k₁ → refusal_of AddedBits ≡ accepting_both ws₁ n₁ m₁ k₁ ws₂ n₂ m₂ k₂ (answer [])
      admits_added q = sym (none_first (answer []) ∙ rw (lt-ltb 0 k₁ q))

      pub admits_added_second : k₁ ≤ 0 → 0 < k₂ → refusal_of AddedBits ≡ accepting_both ws₁ n₁ m₁ k₁ ws₂ n₂ m₂ k₂ (answer [])
      admits_added_second p q = sym (none_first (answer []) ∙ rw (le-ltb 0 k₁ p, lt-ltb 0 k₂ q))

      pub admits_different : k₁ ≤ 0 → k₂ ≤ 0 → (n₁ ≡ n₂ → ⊥) → refusal_of DifferentLengths ≡ accepting_both ws₁ n₁ m₁ k₁ ws₂ n₂ m₂ k₂ (answer [])
      admits_different p q r = sym (none_first (answer []) ∙ rw (le-ltb 0 k₁ p, le-ltb 0 k₂ q, ne_eqb n₁ n₂ r))

      pub admits_both : k₁ ≤ 0 → k₂ ≤ 0 → n₁ ≡ n₂ → answer [] ≡ accepting_both ws₁ n₁ m₁ k₁ ws₂ n₂ m₂ k₂ (answer [])
      admits_both p q r = sym (none_first (answer []) ∙ rw (le-ltb 0 k₁ p, le-ltb 0 k₂ q, eq-eqb n₁ n₂ r))
