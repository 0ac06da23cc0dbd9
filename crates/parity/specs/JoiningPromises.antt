-- Document 02, M-111: what is promised of joining, over what the calls answer and leave. Assumes nothing.
use Rattle.std.specs.Prelude.{ℕ, ◌<◌, ◌≡◌, Bool, List, [], ◌∷◌, ◌↔◌}
use Rattle.parity.specs.Causes.{answer, Outcome}
use Rattle.parity.specs.Matrix.{cause}
use Rattle.parity.specs.Calls.{byte_of, peel_outcome, join_outcome}
use Rattle.parity.specs.Demand3.{Verifies, erasing, Left, Recovered}

-- M-111: what peeling w, a joined codeword x with bits erased, comes to with either matrix and with the joined one: none of the three is refused, the joined
-- matrix leaves no bit that either would have recovered, and what it does not leave is the codeword's.
pub record PeelsNoLess (n : ℕ) (x w : List ℕ) (by_first by-second by-joined : Outcome) : Type 0 where
  pub first_answers : by_first.reply.number ≡ 0
  pub second_answers : by-second.reply.number ≡ 0
  pub joined_answers : by-joined.reply.number ≡ 0
  pub no_less_first : (b : ℕ) → b < n → Recovered w by_first.after b → Left by-joined.after b → ⊥
  pub no_less_second : (b : ℕ) → b < n → Recovered w by-second.after b → Left by-joined.after b → ⊥
  pub right : (b : ℕ) → b < n → (Left by-joined.after b → ⊥) → byte_of by-joined.after b ≡ byte_of x b

-- What two matrices and the joined one, ws₃ with n₁ bits and `checks` checks, have to do with each other:
pub record Joins (ws₁ : List ℕ) (n₁ m₁ k₁ : ℕ) (ws₂ : List ℕ) (n₂ m₂ k₂ : ℕ) (ws₃ : List ℕ) (checks : ℕ) : Type 0 where
  -- it is accepted with k = 0;
  pub accepted : cause ws₃ n₁ checks 0 ≡ 0
  -- its codewords are exactly those of both;
  pub codewords : (x : List ℕ) → Verifies ws₃ n₁ checks 0 x ↔ (Verifies ws₁ n₁ m₁ k₁ x × Verifies ws₂ n₂ m₂ k₂ x)
  -- for a joined codeword with bits erased, peeling the joined matrix leaves no bit that either would have recovered.
  pub peelings : (x : List ℕ) → Verifies ws₃ n₁ checks 0 x → (e : ℕ → Bool)
      → let w = erasing e x in
      PeelsNoLess n₁ x w (peel_outcome ws₁ n₁ m₁ k₁ w) (peel_outcome ws₂ n₂ m₂ k₂ w) (peel_outcome ws₃ n₁ checks 0 w)

abbrev pub JoinsBoth : Type 0
JoinsBoth = (ws₁ : List ℕ) (n₁ m₁ k₁ : ℕ) (ws₂ : List ℕ) (n₂ m₂ k₂ : ℕ) (ws₃ : List ℕ) (checks : ℕ)
    → (join_outcome ws₁ n₁ m₁ k₁ ws₂ n₂ m₂ k₂ ws₃).reply ≡ answer (checks ∷ [])
    → Joins ws₁ n₁ m₁ k₁ ws₂ n₂ m₂ k₂ (join_outcome ws₁ n₁ m₁ k₁ ws₂ n₂ m₂ k₂ ws₃).after checks
