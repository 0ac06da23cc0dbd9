-- Document 01, 'Words, peeling', and its demand 2: what is promised of verifying, extending, testing a set and peeling, over what the calls answer and
-- leave. Assumes nothing.
-- The matrix is any that is accepted, with or without added bits. What is in double quotes is document 01's, or the demand's, own sentence.
use Rattle.std.specs.Prelude.{ℕ, ◌≤◌, ◌+◌, ◌%◌, ◌<◌, ◌≡◌, Bool, true, List, [], ◌∷◌, ◌↔◌, eqb, length, take, replicate}
use Rattle.parity.specs.Finite.{one, list_from}
use Rattle.parity.specs.Causes.{answer, refusal, Outcome}
use Rattle.parity.specs.Matrix.{lent, cause}
use Rattle.parity.specs.Words.{is_one, inside, losses}
use Rattle.parity.specs.Calls.{byte_of, verify_reply, extend_outcome, is_stopping_reply, peel_outcome}
use Rattle.parity.specs.Demand3.{Verifies, erasing, Left}

-- how many bytes of 1, of N, check c contains
abbrev pub ones_in : List ℕ → ℕ → List ℕ → ℕ → ℕ
ones_in ws N w c = inside (lent 8 ws) N c (is_one (byte_of w))

-- "A codeword has no 2 and gives each check an even number of ones."
pub record IsCodeword (ws : List ℕ) (n m k : ℕ) (w : List ℕ) : Type 0 where
  pub size : length w ≡ n + k
  pub bits : (b : ℕ) → b < n + k → byte_of w b ≤ 1
  pub even : (c : ℕ) → c < m + k → ones_in ws (n + k) w c % 2 ≡ 0

-- "Verifying is yes exactly for codewords." To any other n + k bytes of 0, 1 and 2 it says no.
abbrev pub VerifiesCodewords : Type 0
VerifiesCodewords = (ws : List ℕ) (n m k : ℕ) (w : List ℕ) → cause ws n m k ≡ 0 → Verifies ws n m k w ↔ IsCodeword ws n m k w

abbrev pub VerifiesNoOther : Type 0
VerifiesNoOther = (ws : List ℕ) (n m k : ℕ) (w : List ℕ) → cause ws n m k ≡ 0 → length w ≡ n + k → ((b : ℕ) → b < n + k → byte_of w b ≤ 2)
    → (IsCodeword ws n m k w → ⊥) → verify_reply ws n m k w ≡ answer (0 ∷ [])

-- "Extending takes n bytes of 0 or 1 and writes n+k: the same, then each added bit as the sum modulo 2 of the two lower bits of its added check." Rule A
-- says that there are two. A codeword has no other added bits (document 001).
pub record Extends (ws : List ℕ) (n m k : ℕ) (sent : List ℕ) (o : Outcome) : Type 0 where
  pub answers : o.reply ≡ answer []
  pub size : length o.after ≡ n + k
  pub same : take n o.after ≡ sent
  pub added : (j a b : ℕ) → j < k → a < b → b < n + j → lent 8 ws (m + j) a ≡ true → lent 8 ws (m + j) b ≡ true
      → byte_of o.after (n + j) ≡ (byte_of o.after a + byte_of o.after b) % 2
  pub only : (y : List ℕ) → Verifies ws n m k y → take n y ≡ sent → y ≡ o.after

abbrev pub ExtendsSent : Type 0
ExtendsSent = (ws : List ℕ) (n m k : ℕ) (sent held : List ℕ) → cause ws n m k ≡ 0 → length sent ≡ n → ((b : ℕ) → b < n → byte_of sent b ≤ 1)
    → length held ≡ n + k → Extends ws n m k sent (extend_outcome ws n m k sent held)

-- "A stopping set is a set of bits such that no check contains exactly one of them". The set is given as n + k bytes of 0 or 1.
pub record IsStopping (ws : List ℕ) (n m k : ℕ) (t : List ℕ) : Type 0 where
  pub size : length t ≡ n + k
  pub bits : (b : ℕ) → b < n + k → byte_of t b ≤ 1
  pub none_once : (c : ℕ) → c < m + k → ones_in ws (n + k) t c ≡ 1 → ⊥

-- testing a set says yes
abbrev pub TestsYes : List ℕ → ℕ → ℕ → ℕ → List ℕ → Type 0
TestsYes ws n m k t = is_stopping_reply ws n m k t ≡ answer (1 ∷ [])

-- "the empty set is one. Testing a set, given as n+k bytes of 0 or 1, is yes exactly then."
abbrev pub TestsStoppingSets : Type 0
TestsStoppingSets = (ws : List ℕ) (n m k : ℕ) (t : List ℕ) → cause ws n m k ≡ 0 → TestsYes ws n m k t ↔ IsStopping ws n m k t

abbrev pub EmptySetStops : Type 0
EmptySetStops = (ws : List ℕ) (n m k : ℕ) → cause ws n m k ≡ 0 → TestsYes ws n m k (replicate (n + k) 0)

-- the bits that are 2, as a set of N bytes
abbrev pub left_bits : ℕ → List ℕ → List ℕ
left_bits N w = list_from 0 N (λ b. one (eqb (byte_of w b) 2))

-- a set lies within the erased bits of w
abbrev pub WithinErased : ℕ → List ℕ → List ℕ → Type 0
WithinErased N t w = (b : ℕ) → b < N → byte_of t b ≡ 1 → Left w b

-- Demand 2: "Unless known bits contradict the checks, recovery by peeling leaves erased exactly the largest stopping set within the erased bits." What is
-- left is a stopping set within them, and every such set is within it. A bit that was known is as it was.
pub record LeavesLargest (ws : List ℕ) (n m k : ℕ) (w after : List ℕ) : Type 0 where
  pub size : length after ≡ n + k
  pub stops : TestsYes ws n m k (left_bits (n + k) after)
  pub within : (b : ℕ) → b < n + k → Left after b → Left w b
  pub largest : (t : List ℕ) → TestsYes ws n m k t → WithinErased (n + k) t w → (b : ℕ) → b < n + k → byte_of t b ≡ 1 → Left after b
  pub kept : (b : ℕ) → b < n + k → (Left w b → ⊥) → byte_of after b ≡ byte_of w b

abbrev pub PeelLeavesLargest : Type 0
PeelLeavesLargest = (ws : List ℕ) (n m k : ℕ) (w : List ℕ) → (peel_outcome ws n m k w).reply.number ≡ 0
    → LeavesLargest ws n m k w (peel_outcome ws n m k w).after

-- "The residue of a word is the union of all stopping sets inside its erased bits": some such set has bit b.
abbrev pub InResidue : List ℕ → ℕ → ℕ → ℕ → List ℕ → ℕ → Type 0
InResidue ws n m k w b = (t : List ℕ) × IsStopping ws n m k t × WithinErased (n + k) t w × (byte_of t b ≡ 1)

-- "consider the checks that contain no residue bit"
abbrev pub NoResidueBit : List ℕ → ℕ → ℕ → ℕ → List ℕ → ℕ → Type 0
NoResidueBit ws n m k w c = (b : ℕ) → b < n + k → lent 8 ws c b ≡ true → InResidue ws n m k w b → ⊥

-- "some values for the erased bits .. make all of these even": y, which has w's own values at the bits that are not erased, does. (It has a value at each
-- residue bit too, which no check that is considered contains.)
pub record Solution (ws : List ℕ) (n m k : ℕ) (w y : List ℕ) : Type 0 where
  pub size : length y ≡ n + k
  pub bits : (b : ℕ) → b < n + k → byte_of y b ≤ 1
  pub known : (b : ℕ) → b < n + k → (Left w b → ⊥) → byte_of y b ≡ byte_of w b
  pub even : (c : ℕ) → c < m + k → NoResidueBit ws n m k w c → ones_in ws (n + k) y c % 2 ≡ 0

-- "If some values for the erased bits outside the residue make all of these even, they are unique and are written; the residue keeps 2." What is written
-- equals every solution outside the residue, so that any two are equal there.
pub record WritesSolution (ws : List ℕ) (n m k : ℕ) (w after : List ℕ) : Type 0 where
  pub some : (y : List ℕ) × Solution ws n m k w y
  pub written : (y : List ℕ) → Solution ws n m k w y → (b : ℕ) → b < n + k → (InResidue ws n m k w b → ⊥) → byte_of after b ≡ byte_of y b
  pub keeps_two : (b : ℕ) → b < n + k → Left after b ↔ InResidue ws n m k w b

abbrev pub PeelWritesSolution : Type 0
PeelWritesSolution = (ws : List ℕ) (n m k : ℕ) (w : List ℕ) → (peel_outcome ws n m k w).reply.number ≡ 0
    → WritesSolution ws n m k w (peel_outcome ws n m k w).after

-- Where such values exist, it answers. "If no such values exist, it is refusal 12", and the word is left. The causes before it are those of verifying.
abbrev pub PeelAnswersIfSome : Type 0
PeelAnswersIfSome = (ws : List ℕ) (n m k : ℕ) (w y : List ℕ) → (verify_reply ws n m k w).number ≡ 0 → Solution ws n m k w y
    → (peel_outcome ws n m k w).reply.number ≡ 0

abbrev pub PeelRefusedIfNone : Type 0
PeelRefusedIfNone = (ws : List ℕ) (n m k : ℕ) (w : List ℕ) → (verify_reply ws n m k w).number ≡ 0
    → (peel_outcome ws n m k w ≡ record { reply = refusal 12 []; after = w }) ↔ ((y : List ℕ) → Solution ws n m k w y → ⊥)

-- "The answer carries how many bits were recovered and how many .. are left", sent and added bits apart (document 02, M-100): of the word before and the
-- word after.
abbrev pub PeelCounts : Type 0
PeelCounts = (ws : List ℕ) (n m k : ℕ) (w : List ℕ) → (peel_outcome ws n m k w).reply.number ≡ 0
    → (peel_outcome ws n m k w).reply ≡ answer (losses n k (byte_of w) (byte_of (peel_outcome ws n m k w).after))

-- A codeword in which some bytes are made 2 is never refused, and every bit that is not left is the codeword's.
abbrev pub PeelsCodeword : Type 0
PeelsCodeword = (ws : List ℕ) (n m k : ℕ) (x : List ℕ) → Verifies ws n m k x → (e : ℕ → Bool)
    → let o = peel_outcome ws n m k (erasing e x) in
    (o.reply.number ≡ 0) × ((b : ℕ) → b < n + k → (Left o.after b → ⊥) → byte_of o.after b ≡ byte_of x b)
