-- The codewords that agree with a received word, and what determining writes by them: what peeling recovers is among it. Assumes nothing.
use mathlib.Core.Path.{◌≡◌, sym, ap, ◌∙◌, fun_ext}
use mathlib.Core.Logic.{◌↔◌}
use mathlib.Core.Bool.{Bool, true, false, not, ◌&&◌, and-eq-true_iff, true≢false, false≢true}
use Prim.Native.Nat.{ℕ, ◌≤◌, ◌<◌}
use native.Mathlib.Omega.{arith}
use lib.Dec.{eqb}
use Rattle.parity.specs.Finite.{one}
use Rattle.parity.specs.Matrix.{Matrix}
use Rattle.parity.specs.Words.{erased, is_one, even_checks, residue, peels, peeled}
use Rattle.parity.specs.Determining.{agrees_with, some_agrees, agrees_at_one, agrees_at_zero, determined}
use Rattle.parity.proofs.Finite.Sums.{is_true, is_false, is, one≤1, all_at, all_of, one_only}
use Rattle.parity.proofs.Finite.Bools.{or_else, same_test, beq_same, beq_refl}
use Rattle.parity.proofs.Splits.Split.{Even, evens}
use Rattle.parity.proofs.Words.Extend.{inside_cong}
use Rattle.parity.proofs.Words.Residue.{below, below_at, any_set_of, any_set_at, Solves, solve}
use Rattle.parity.proofs.Encoding.Dependent.{inside_zero}
use Rattle.parity.proofs.Words.Peel.{peels_solved, right_value}
use Rattle.parity.proofs.Words.Steps.{Stage}

-- y is a codeword that agrees with the received word w
pub record Agree (h : Matrix) (N M : ℕ) (w : ℕ → ℕ) (y : ℕ → Bool) : Type 0 where
  pub even : Even h N M y
  pub known : (b : ℕ) → b < N → erased w b ≡ false → y b ≡ is_one w b

module _ (h : Matrix) (N M : ℕ) (w : ℕ → ℕ) where
  pub agree : (y : ℕ → Bool) → (agrees_with h N M w y ≡ true) ↔ Agree h N M w y
  unfolding agrees_with
  agree y = (
    λ t. let (t₁, t₂) = (and-eq-true_iff (even_checks h N M y) _).0 t in
        record { even = (evens h N M y).0 t₁; known = λ b k q. beq_same (y b) _ (or_else (erased w b) _ (all_at N _ t₂ b k) q) },
    λ a. (and-eq-true_iff (even_checks h N M y) _).1 (
      (evens h N M y).1 a.even,
      all_of N _ (λ b k. elim (is (erased w b)) [ is_true q ↦ rw q | is_false q ↦ rw (q, a.known b k q) (beq_refl (is_one w b)) ]),
    ),
  )

  -- a set of bits counts as far as N
  agree_below : (y : ℕ → Bool) → Agree h N M w y → agrees_with h N M w (below N y) ≡ true
  agree_below y a = (agree (below N y)).1 record {
    even = λ c k. rw (inside_cong h N c (below_at N y)) (a.even c k);
    known = λ b k q. below_at N y b k ∙ a.known b k q;
  }

  pub some_of : (y : ℕ → Bool) → Agree h N M w y → some_agrees h N M w ≡ true
  unfolding some_agrees
  some_of y a = any_set_of N _ y (agree_below y a)

  pub some_at : some_agrees h N M w ≡ true → (y : ℕ → Bool) × Agree h N M w y
  unfolding some_agrees
  some_at e = let (y, t) = any_set_at N _ e in (y, (agree y).0 t)

  pub none_of : ((y : ℕ → Bool) → Agree h N M w y → ⊥) → some_agrees h N M w ≡ false
  none_of f = elim (is (some_agrees h N M w)) [ is_false q ↦ q | is_true q ↦ let (y, a) = some_at q in absurd (f y a) ]

  module _ (b : ℕ) where
    one_of : b < N → (y : ℕ → Bool) → Agree h N M w y → y b ≡ true → agrees_at_one h N M w b ≡ true
    unfolding agrees_at_one
    one_of k y a q = any_set_of N _ y (rw (agree_below y a, below_at N y b k) q)

    zero_of : b < N → (y : ℕ → Bool) → Agree h N M w y → y b ≡ false → agrees_at_zero h N M w b ≡ true
    unfolding agrees_at_zero
    zero_of k y a q = any_set_of N _ y (rw (agree_below y a, below_at N y b k, q))

    one_at : agrees_at_one h N M w b ≡ true → (y : ℕ → Bool) × Agree h N M w y × (y b ≡ true)
    unfolding agrees_at_one
    one_at e =
        let (y, t) = any_set_at N (λ y. agrees_with h N M w y && y b) e in
        let (t₁, t₂) = (and-eq-true_iff (agrees_with h N M w y) (y b)).0 t in
        (y, (agree y).0 t₁, t₂)

    zero_at : agrees_at_zero h N M w b ≡ true → (y : ℕ → Bool) × Agree h N M w y × (not (y b) ≡ true)
    unfolding agrees_at_zero
    zero_at e =
        let (y, t) = any_set_at N (λ y. agrees_with h N M w y && not (y b)) e in
        let (t₁, t₂) = (and-eq-true_iff (agrees_with h N M w y) (not (y b))).0 t in
        (y, (agree y).0 t₁, t₂)

    -- two that agree differ at the bit: it stays
    pub stays_open : b < N → (y z : ℕ → Bool) → Agree h N M w y → Agree h N M w z → y b ≡ true → z b ≡ false → determined h N M w b ≡ 2
    unfolding determined
    stays_open k y z a d p q = rw (one_of k y a p, zero_of k z d q)

    -- and only then
    pub open_at : determined h N M w b ≡ 2 → (y : ℕ → Bool) × (z : ℕ → Bool) × Agree h N M w y × Agree h N M w z × (y b ≡ true) × (not (z b) ≡ true)
    unfolding determined
    open_at e = elim (is (agrees_at_one h N M w b)) [
      | is_false p ↦ absurd (omega (arith, rw p at e))
      | is_true p ↦ elim (is (agrees_at_zero h N M w b)) [
        | is_false q ↦ absurd (omega (arith, rw (p, q) at e))
        | is_true q ↦ let (y, a, s) = one_at p in let (z, d, t) = zero_at q in (y, z, a, d, s, t)
      ]
    ]

    -- all have one value at the bit: it is written
    pub one_value : b < N → (v : Bool) (y : ℕ → Bool) → Agree h N M w y → ((z : ℕ → Bool) → Agree h N M w z → z b ≡ v) → determined h N M w b ≡ one v
    unfolding determined
    one_value k v y a f = elim (is v) [
      | is_true q ↦ elim (is (agrees_at_zero h N M w b)) [
        | is_false p ↦ rw (one_of k y a (f y a ∙ q), p, q)
        | is_true p ↦ let (z, d, t) = zero_at p in absurd (false≢true (rw (f z d, q) at t))
      ]
      | is_false q ↦ elim (is (agrees_at_one h N M w b)) [
        | is_false p ↦ rw (p, q)
        | is_true p ↦ let (z, d, t) = one_at p in absurd (false≢true (sym (f z d ∙ q) ∙ t))
      ]
    ]

    -- a bit that is written has the value of each that agrees
    pub written_value : b < N → (y : ℕ → Bool) → Agree h N M w y → (determined h N M w b ≡ 2 → ⊥) → determined h N M w b ≡ one (y b)
    written_value k y a d = one_value k (y b) y a (λ z e. same_test (z b) (y b) (one_way z y e a) (one_way y z a e))
      where
        one_way : (y z : ℕ → Bool) → Agree h N M w y → Agree h N M w z → y b ≡ true → z b ≡ true
        one_way y z a e p = elim (is (z b)) [ is_true q ↦ q | is_false q ↦ absurd (d (stays_open k y z a e p q)) ]

  -- a bit that is not erased keeps its value
  pub known_value : some_agrees h N M w ≡ true → (b : ℕ) → b < N → erased w b ≡ false → determined h N M w b ≡ one (is_one w b)
  known_value t b k q = let (y, a) = some_at t in one_value b k (is_one w b) y a (λ z e. e.known b k q)

  pub determined_byte : (b : ℕ) → determined h N M w b ≤ 2
  unfolding determined
  determined_byte b = elim (is (agrees_at_one h N M w b && agrees_at_zero h N M w b)) [
    | is_true q ↦ rw q (omega arith)
    | is_false q ↦ rw q (omega (arith, one≤1 (agrees_at_one h N M w b)))
  ]

  -- A codeword that agrees solves, so that peeling is not refused,
  agree_solves : (y : ℕ → Bool) → Agree h N M w y → Solves h N M (erased w) (residue h N M (erased w)) (is_one w) y
  agree_solves y a = record { known = a.known; even = λ c k q. a.even c k }

  pub agrees_peels : some_agrees h N M w ≡ true → peels h N M w ≡ true
  agrees_peels e = let (y, a) = some_at e in peels_solved h N M w y (agree_solves y a)

  -- a word that peeling recovers whole is a codeword that agrees,
  pub whole_agrees : peels h N M w ≡ true → ((b : ℕ) → b < N → erased (peeled h N M w) b ≡ false) → some_agrees h N M w ≡ true
  unfolding peels peeled
  whole_agrees p f =
      let r = residue h N M (erased w) in
      let (y, t) = any_set_at N _ p in
      let s = (solve h N M (erased w) r (is_one w) y).0 t in
      some_of y record {
        even = λ c l. s.even c l (inside_zero h N c r (λ b j q. elim (is (r b)) [ is_false z ↦ z | is_true z ↦ absurd (false≢true (sym (rw z at (f b j)))) ]));
        known = s.known;
      }

  -- and what peeling recovers is recovered here, with equal values.
  pub peeled_determined : some_agrees h N M w ≡ true → (b : ℕ) → b < N → (peeled h N M w b ≡ 2 → ⊥) → determined h N M w b ≡ peeled h N M w b
  peeled_determined e b k d =
      let (y, a) = some_at e in
      one_value b k (y b) y a (λ z f. one_only (z b) (y b) (sym (right_value h N M w z (agree_solves z f) b k d) ∙ right_value h N M w y (agree_solves y a) b k d))
      ∙ sym (right_value h N M w y (agree_solves y a) b k d)

  -- the codewords that agree with a stage of peeling
  module _ (u : ℕ → ℕ) (S : Stage h N M w u) where
    pub agree_stage : (y : ℕ → Bool) → Agree h N M w y ↔ Agree h N M u y
    agree_stage y = (
      λ a. record { even = a.even; known = λ b k q. S.right y (agree_solves y a) b k q },
      λ a. record { even = a.even; known = λ b k q. a.known b k (still b k q) ∙ ap (λ (a : ℕ). eqb a 1) (S.known b k q) },
    )
      where
        still : (b : ℕ) → b < N → erased w b ≡ false → erased u b ≡ false
        still b k q = elim (is (erased u b)) [ is_false p ↦ p | is_true p ↦ absurd (true≢false (sym (S.shrinks b k p) ∙ q)) ]

-- Where the same codewords agree, with another word and other checks, determining comes to the same.
module _ (h g : Matrix) (N M L : ℕ) (w u : ℕ → ℕ) (same : (y : ℕ → Bool) → Agree h N M w y ↔ Agree g N L u y) where
  tests : agrees_with h N M w ≡ agrees_with g N L u
  tests = fun_ext (λ y. same_test (agrees_with h N M w y) (agrees_with g N L u y)
      (λ t. (agree g N L u y).1 ((same y).0 ((agree h N M w y).0 t))) (λ t. (agree h N M w y).1 ((same y).1 ((agree g N L u y).0 t))))

  pub some_same : some_agrees h N M w ≡ some_agrees g N L u
  unfolding some_agrees
  some_same = rw tests

  pub determined_same : determined h N M w ≡ determined g N L u
  unfolding determined agrees_at_one agrees_at_zero
  determined_same = fun_ext (λ b. rw tests)
