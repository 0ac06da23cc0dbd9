-- Document 02, M-105: what is promised of determining, over what the calls answer and leave. Assumes nothing.
use Rattle.std.specs.Prelude.{ℕ, ◌≤◌, ◌+◌, ◌<◌, ◌≡◌, Bool, List, [], ◌∷◌, ◌++◌, ◌↔◌, length, take, replicate}
use Rattle.parity.specs.Causes.{answer, refusal, Outcome}
use Rattle.parity.specs.Matrix.{cause}
use Rattle.parity.specs.Calls.{byte_of, verify_reply, peel_outcome, determine_outcome}
use Rattle.parity.specs.Demand3.{Call, runs, start, Verifies, erasing, Left, Recovered}

-- M-105: x is a codeword that agrees with the received word w.
pub record Agreeing (ws : List ℕ) (n m k : ℕ) (w x : List ℕ) : Type 0 where
  pub codeword : Verifies ws n m k x
  pub known : (b : ℕ) → b < n + k → (byte_of w b ≡ 2 → ⊥) → byte_of x b ≡ byte_of w b

-- What determining comes to where it answers: a bit is written exactly when all codewords that agree have one value there, and with this value;
-- at a bit that stays 2, two of them differ, so that nothing more could be written.
pub record Determines (ws : List ℕ) (n m k : ℕ) (w : List ℕ) (o : Outcome) : Type 0 where
  pub exactly : (b : ℕ) → b < n + k → (Left o.after b → ⊥) ↔ ((x y : List ℕ) → Agreeing ws n m k w x → Agreeing ws n m k w y → byte_of x b ≡ byte_of y b)
  pub value : (b : ℕ) → b < n + k → (Left o.after b → ⊥) → (x : List ℕ) → Agreeing ws n m k w x → byte_of o.after b ≡ byte_of x b
  pub differ : (b : ℕ) → b < n + k → Left o.after b
      → (x : List ℕ) × (y : List ℕ) × Agreeing ws n m k w x × Agreeing ws n m k w y × (byte_of x b ≡ byte_of y b → ⊥)

abbrev pub WritesOneValue : Type 0
WritesOneValue = (ws : List ℕ) (n m k : ℕ) (w : List ℕ) → (determine_outcome ws n m k w).reply.number ≡ 0
    → Determines ws n m k w (determine_outcome ws n m k w)

-- Refusal 12 comes exactly when no codeword agrees. The causes before it are those of verifying.
abbrev pub RefusedIfNone : Type 0
RefusedIfNone = (ws : List ℕ) (n m k : ℕ) (w : List ℕ) → (verify_reply ws n m k w).number ≡ 0
    → ((determine_outcome ws n m k w).reply ≡ refusal 12 []) ↔ ((x : List ℕ) → Agreeing ws n m k w x → ⊥)

-- Everything peeling recovers is recovered here, with equal values, whenever some codeword agrees; if peeling is refused 12, so is this.
abbrev pub PeeledIsDetermined : Type 0
PeeledIsDetermined = (ws : List ℕ) (n m k : ℕ) (w x : List ℕ) → length w ≡ n + k → Agreeing ws n m k w x
    → (b : ℕ) → b < n + k → Recovered w (peel_outcome ws n m k w).after b
    → Recovered w (determine_outcome ws n m k w).after b × (byte_of (determine_outcome ws n m k w).after b ≡ byte_of (peel_outcome ws n m k w).after b)

abbrev pub RefusedWithPeeling : Type 0
RefusedWithPeeling = (ws : List ℕ) (n m k : ℕ) (w : List ℕ) → (peel_outcome ws n m k w).reply ≡ refusal 12 []
    → (determine_outcome ws n m k w).reply ≡ refusal 12 []

-- A codeword in which some bytes are made 2 is never refused, and every bit written is the codeword's.
abbrev pub ErasedCodeword : Type 0
ErasedCodeword = (ws : List ℕ) (n m k : ℕ) (x : List ℕ) → Verifies ws n m k x → (e : ℕ → Bool)
    → let o = determine_outcome ws n m k (erasing e x) in
    (o.reply.number ≡ 0) × ((b : ℕ) → b < n + k → (Left o.after b → ⊥) → byte_of o.after b ≡ byte_of x b)

-- Determining twice changes nothing more.
abbrev pub DeterminedTwice : Type 0
DeterminedTwice = (ws : List ℕ) (n m k : ℕ) (w : List ℕ) (rs ra ls la : ℕ) → (determine_outcome ws n m k w).reply ≡ answer (rs ∷ ra ∷ ls ∷ la ∷ [])
    → determine_outcome ws n m k (determine_outcome ws n m k w).after
    ≡ record { reply = answer (0 ∷ 0 ∷ ls ∷ la ∷ []); after = (determine_outcome ws n m k w).after }

-- With no erased bit it answers exactly for codewords.
abbrev pub NothingErased : Type 0
NothingErased = (ws : List ℕ) (n m k : ℕ) (w : List ℕ) → ((b : ℕ) → b < n + k → Left w b → ⊥)
    → ((determine_outcome ws n m k w).reply.number ≡ 0) ↔ Verifies ws n m k w

-- With the extended matrix of any list of demand 3's calls and k bytes of 2 behind the n received ones, it answers or is refused as with the given
-- matrix, and the sent bits afterwards are the same: those that the given matrix determines, with the same values.
abbrev pub DeterminedAlike : Type 0
DeterminedAlike = (given : List ℕ) (n m : ℕ) → cause given n m 0 ≡ 0 → (cs : List Call) (w : List ℕ)
    → length w ≡ n → ((b : ℕ) → b < n → byte_of w b ≤ 2)
    → let s = runs n m (start given) cs in
    let by_given = determine_outcome given n m 0 w in
    let by_extended = determine_outcome s.words n m s.k (w ++ replicate s.k 2) in
    (by_extended.reply.number ≡ by_given.reply.number) × (take n by_extended.after ≡ by_given.after)
