-- The outcome of joining, by what its parts tell. Assumes nothing.
use mathlib.Core.Path.{◌≡◌, sym, ap, ◌∙◌}
use mathlib.Core.List.{List, [], ◌∷◌}
use Prim.Native.Nat.{ℕ}
use native.Mathlib.Omega.{arith}
use lib.Dec.{lit<}
use lib.ListN.{length}
use borrow.Author.Tests.{eq-eqb, ne_eqb}
use Rattle.parity.specs.Matrix.{lent}
use Rattle.parity.specs.Joining.{joined}
use Rattle.parity.specs.Causes.{Reply, answer, refusal, refusal_of, Outcome}
use Rattle.parity.specs.Calls.{accepting_both, joining, join_reply, join_outcome}
use Rattle.parity.specs.declared.Refusal.{Refusal}
use Rattle.parity.proofs.Causes.Refused.{refused_number}
use Rattle.parity.proofs.Joining.Checks.{joined_short}
use Rattle.parity.proofs.Joining.Join.{Acceptable, both_acceptable, both_clean, join_made, join_too_many}
use Rattle.std.specs.Prelude.{Some, None}
use Rattle.join.specs.Rows.{AllRows, Gathered, Spread}
use Rattle.join.proofs.Causes.{both_refused}
use Rattle.join.proofs.Rows.{spread_all}

module _ (ws₁ : List ℕ) (n₁ m₁ k₁ : ℕ) (ws₂ : List ℕ) (n₂ m₂ k₂ : ℕ) (ws₃ : List ℕ) where
  -- the reply and the third words are those of joining
  abbrev pub Comes : Reply → List ℕ → Type 0
  Comes r ws = (r ≡ (join_outcome ws₁ n₁ m₁ k₁ ws₂ n₂ m₂ k₂ ws₃).reply) × (ws ≡ (join_outcome ws₁ n₁ m₁ k₁ ws₂ n₂ m₂ k₂ ws₃).after)

  pub wrong_third : (length ws₃ ≡ 4096 → ⊥) → Comes (refusal 1 []) ws₃
  unfolding join_outcome join_reply
  wrong_third d = let e = ne_eqb (length ws₃) 4096 d in (rw e, rw e)

  -- no cause before 21
  abbrev pub Admitted : Type 0
  Admitted = answer [] ≡ accepting_both ws₁ n₁ m₁ k₁ ws₂ n₂ m₂ k₂ (answer [])

  pub not_admitted : length ws₃ ≡ 4096 → (why : Refusal) → refusal_of why ≡ accepting_both ws₁ n₁ m₁ k₁ ws₂ n₂ m₂ k₂ (answer []) → Comes (refusal_of why) ws₃
  unfolding join_outcome
  not_admitted l why A =
      let f : refusal_of why ≡ join_reply ws₁ n₁ m₁ k₁ ws₂ n₂ m₂ k₂ ws₃ = unfold join_reply in (rw (eq-eqb (length ws₃) 4096 l) (both_refused ws₁ n₁ m₁ k₁ ws₂ n₂ m₂ k₂ why A _)) in
      (f, rw (← f, ne_eqb (refusal_of why).number 0 (refused_number why)))

  pub is_admitted : Admitted → (k₁ ≡ 0) × (k₂ ≡ 0) × (n₁ ≡ n₂) × Acceptable ws₁ n₁ m₁ ws₂ m₂
  is_admitted A = both_acceptable ws₁ n₁ m₁ k₁ ws₂ n₂ m₂ k₂ (answer []) (ap (λ (r : Reply). r.number) (sym A))

  module _ (l : length ws₃ ≡ 4096) (A : Admitted) (rows : List ℕ) where
    J : Acceptable ws₁ n₁ m₁ ws₂ m₂
    J = (is_admitted A).3

    -- the rows, of 128 bits, are compared as far as n
    short : joined 128 (lent 8 ws₁) m₁ (lent 8 ws₂) m₂ ≡ joining ws₁ n₁ m₁ ws₂ m₂
    short =
        let S = J.first.sound in
        let T = J.second.sound in
        joined_short n₁ 128 (omega (arith, S.n120)) (lent 8 ws₁) m₁ (lent 8 ws₂)
        record { checks = λ c b q. S.clean.checks c b (omega arith); bits = λ c b q. S.clean.bits c b (omega arith) }
        (λ d b q. T.clean.bits d b (omega arith)) m₂

    pub too_many : Gathered (joined 128 (lent 8 ws₁) m₁ (lent 8 ws₂) m₂) rows None → Comes (refusal 21 []) ws₃
    too_many G =
        let (z₁, z₂, e, B) = is_admitted A in
        let f = join_too_many ws₁ n₁ m₁ ws₂ m₂ J ws₃ l (rw short at G) in
        rw (z₁, z₂, ← e) (sym (ap (λ (o : Outcome). o.reply) f), sym (ap (λ (o : Outcome). o.after) f))

    pub all_joined : (r : ℕ) → Gathered (joined 128 (lent 8 ws₁) m₁ (lent 8 ws₂) m₂) rows (Some r) → (words : List ℕ) → length words ≡ 4096 → Spread 2 8 rows r words → Comes (answer (r ∷ [])) words
    all_joined r G words s S =
        let (z₁, z₂, e, B) = is_admitted A in
        let H : AllRows (joining ws₁ n₁ m₁ ws₂ m₂) rows r = rw short at G in
        let n : r ≡ (joining ws₁ n₁ m₁ ws₂ m₂).checks = H.number in
        let f = join_made ws₁ n₁ m₁ ws₂ m₂ J ws₃ l (rw n at H.few) in
        let w = spread_all 2 8 (lit< tt) (joining ws₁ n₁ m₁ ws₂ m₂).matrix n₁ (joining ws₁ n₁ m₁ ws₂ m₂).checks (both_clean ws₁ n₁ m₁ ws₂ m₂ J)
        (omega (arith, J.first.sound.n120)) rows words s (rw n at H.held) (rw n at S) in
        rw (z₁, z₂, ← e) (ap (λ (x : ℕ). answer (x ∷ [])) n ∙ sym (ap (λ (o : Outcome). o.reply) f), w ∙ sym (ap (λ (o : Outcome). o.after) f))
