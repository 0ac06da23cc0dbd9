-- Document 02, M-110: what is promised of mending a block, over what the calls answer and leave. Assumes nothing.
use Rattle.std.specs.Prelude.{ℕ, ◌≤◌, ◌<◌, ◌≡◌, List, [], ◌∷◌, ◌↔◌}
use Rattle.parity.specs.Causes.{answer, refusal, Outcome}
use Rattle.parity.specs.Matrix.{cause}
use Rattle.parity.specs.Calls.{verify_reply, peel_outcome, determine_outcome}
use Rattle.parity.specs.Demand3.{Left}
use Rattle.parity.specs.Block.{block_outcome}
use Rattle.parity.specs.DeterminingPromises.{Agreeing}

-- M-110: for every matrix with k = 0 and every word, the word afterwards equals M-105's, and the call is refused where that one is, with the same reply;
abbrev pub MendedAsDetermined : Type 0
MendedAsDetermined = (ws : List ℕ) (n m : ℕ) (w : List ℕ)
    → let o = block_outcome ws n m 0 w in
    let d = determine_outcome ws n m 0 w in
    (o.after ≡ d.after) × (o.reply.number ≡ d.reply.number) × ((d.reply.number ≡ 0 → ⊥) → o.reply ≡ d.reply)

-- refusal 12 comes exactly when no codeword agrees; the causes before it are those of verifying;
abbrev pub MendRefusedIfNone : Type 0
MendRefusedIfNone = (ws : List ℕ) (n m : ℕ) (w : List ℕ) → (verify_reply ws n m 0 w).number ≡ 0
    → ((block_outcome ws n m 0 w).reply ≡ refusal 12 []) ↔ ((x : List ℕ) → Agreeing ws n m 0 w x → ⊥)

-- an accepted matrix with k above 0 is refused 13, whatever the word;
abbrev pub MendRefusesAdded : Type 0
MendRefusesAdded = (ws : List ℕ) (n m k : ℕ) (w : List ℕ) → cause ws n m k ≡ 0 → 0 < k → block_outcome ws n m k w ≡ record { reply = refusal 13 []; after = w }

-- an answer has a stage from 1 to 3 and at most 632 recovered bits, and where it names stage 1 or 2, no bit is left.
pub record Mended (n : ℕ) (o : Outcome) : Type 0 where
  pub stage : ℕ
  pub bits : ℕ
  pub answers : o.reply ≡ answer (stage ∷ bits ∷ [])
  pub first : 1 ≤ stage
  pub last : stage ≤ 3
  pub most : bits ≤ 632
  pub whole : stage ≤ 2 → (b : ℕ) → b < n → Left o.after b → ⊥

abbrev pub MendAnswers : Type 0
MendAnswers = (ws : List ℕ) (n m k : ℕ) (w : List ℕ) → (block_outcome ws n m k w).reply.number ≡ 0 → Mended n (block_outcome ws n m k w)

-- A peeling that leaves no sent bit leaves no added bit: so 'bits remain' and 'sent bits remain' are the same after the second peeling.
abbrev pub AddedWithSent : Type 0
AddedWithSent = (ws : List ℕ) (n m k : ℕ) (w : List ℕ) (rs ra la : ℕ) → (peel_outcome ws n m k w).reply ≡ answer (rs ∷ ra ∷ 0 ∷ la ∷ []) → la ≡ 0
