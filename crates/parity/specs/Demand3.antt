-- Document 01, 'The words of demand 3', with document 02's taking back (M-101): lists of calls, and demand 3 as one statement over what the calls
-- answer and leave. Read Causes (replies and outcomes) and Calls (what each call comes to) first. Assumes nothing.
use Rattle.std.specs.Prelude.{ℕ, ◌+◌, ◌-◌, ◌≤◌, ◌<◌, ◌≡◌, ◌↔◌, Bool, cond, ◌||◌, List, [], ◌∷◌, ◌++◌, eqb, get_or, length, take, replicate}
use Rattle.parity.specs.Finite.{list_from}
use Rattle.parity.specs.Matrix.{lent, cause}
use Rattle.parity.specs.Cycles.{pairs}
use Rattle.parity.specs.Splits.{splits_sum}
use Rattle.parity.specs.Causes.{Reply, answer, refusal, Outcome}
use Rattle.parity.specs.Calls.{byte_of, count_reply, split_outcome, take_back_outcome, orthogonalise_outcome, verify_reply, extend_outcome, peel_outcome}

-- The list's calls are splits, of any two numbers, orthogonalisings and takings back.
pub data Call : Type 0 where
  splits : ℕ → ℕ → Call
  orthogonalises : Call
  takes_back : Call

-- the last call of a list, with its reply
pub data Last : Type 0 where
  none : Last
  split_said : Reply → Last
  orthogonalise_said : Reply → Last
  take_back_said : Reply → Last

-- What stands after a list: the words as the last call left them, the k last answered, the carried sum, and the last call.
pub record Stand : Type 0 where
  pub words : List ℕ
  pub k : ℕ
  pub carried : ℕ
  pub last : Last

-- A split and a taking back that are made answer s and k: the one adds s (s - 1) / 2 for its s, the other takes it off.
unfoldable pub made_sum : Reply → ℕ
made_sum r = cond (eqb r.number 0) (pairs (get_or r.values 0 0)) 0

unfoldable pub made_k : ℕ → Reply → ℕ
made_k k r = cond (eqb r.number 0) (get_or r.values 1 0) k

-- An orthogonalise adds the sum in its answer, also when refused 9, and answers k in both. Every other refusal adds nothing.
unfoldable pub orthogonalise_adds : Reply → ℕ
orthogonalise_adds r = cond (eqb r.number 0 || eqb r.number 9) (get_or r.values 1 0) 0

unfoldable pub orthogonalise_k : ℕ → Reply → ℕ
orthogonalise_k k r = cond (eqb r.number 0 || eqb r.number 9) (get_or r.values 2 0) k

-- One call, handed the words as the last one left them, the starting n and m, and the k last answered.
unfoldable pub next : ℕ → ℕ → Stand → Call → Stand
next n m s (splits u v) =
    let o = split_outcome s.words n m s.k u v in
    record { words = o.after; k = made_k s.k o.reply; carried = s.carried + made_sum o.reply; last = split_said o.reply }
next n m s orthogonalises =
    let o = orthogonalise_outcome s.words n m s.k in
    record { words = o.after; k = orthogonalise_k s.k o.reply; carried = s.carried + orthogonalise_adds o.reply; last = orthogonalise_said o.reply }
next n m s takes_back =
    let o = take_back_outcome s.words n m s.k in
    record { words = o.after; k = made_k s.k o.reply; carried = s.carried - made_sum o.reply; last = take_back_said o.reply }

-- the calls of a list, one after the other
unfoldable pub runs : ℕ → ℕ → Stand → List Call → Stand
runs n m s [] = s
runs n m s (c ∷ cs) = runs n m (next n m s c) cs

-- The first call is handed a copy of the given matrix and k = 0; the carried sum starts at 0.
abbrev pub start : List ℕ → Stand
start given = record { words = given; k = 0; carried = 0; last = none }

-- verifying says yes
abbrev pub Verifies : List ℕ → ℕ → ℕ → ℕ → List ℕ → Type 0
Verifies ws n m k w = verify_reply ws n m k w ≡ answer (1 ∷ [])

-- a word in which the bytes of a set are made 2
unfoldable pub erasing : (ℕ → Bool) → List ℕ → List ℕ
erasing e w = list_from 0 (length w) (λ b. cond (e b) 2 (byte_of w b))

-- A bit is left if its byte is 2 afterwards, and recovered if it was 2 before and isn't afterwards.
abbrev pub Left : List ℕ → ℕ → Type 0
Left after b = byte_of after b ≡ 2

abbrev pub Recovered : List ℕ → List ℕ → ℕ → Type 0
Recovered before after b = (byte_of before b ≡ 2) × (byte_of after b ≡ 2 → ⊥)

-- Both peelings of a codeword in which some bytes are made 2: `by_given` is what peeling these n bytes, `before`, with the given matrix comes
-- to; `by_extended` what peeling `longer`, the same n bytes and then k bytes of 2, with the extended matrix comes to; y is the extended codeword.
pub record Peelings (n k : ℕ) (before longer y : List ℕ) (by_given by_extended : Outcome) : Type 0 where
  pub given_answers : by_given.reply.number ≡ 0
  pub extended_answers : by_extended.reply.number ≡ 0
  -- it never recovers less: a sent bit that the extended matrix leaves, the given one leaves
  pub no_less : (b : ℕ) → b < n → Left by_extended.after b → Left by_given.after b
  -- a recovered bit has the extended codeword's value
  pub given_right : (b : ℕ) → b < n → Recovered before by_given.after b → byte_of by_given.after b ≡ byte_of y b
  pub extended_right : (b : ℕ) → b < n + k → Recovered longer by_extended.after b → byte_of by_extended.after b ≡ byte_of y b

-- What a codeword x of the given matrix has: `extending` is what extending it with the extended matrix comes to.
pub record BeginsOne (given : List ℕ) (n m : ℕ) (ws : List ℕ) (k : ℕ) (x : List ℕ) (extending : Outcome) : Type 0 where
  -- extending answers, and writes an extended codeword that x begins
  pub answers : extending.reply ≡ answer []
  pub begun : take n extending.after ≡ x
  pub verified : Verifies ws n m k extending.after
  -- and x begins no other
  pub only : (y : List ℕ) → Verifies ws n m k y → take n y ≡ x → y ≡ extending.after
  pub peelings : (e : ℕ → Bool)
      → let before = erasing e x in
      let longer = before ++ replicate k 2 in
      Peelings n k before longer extending.after (peel_outcome given n m 0 before) (peel_outcome ws n m k longer)

-- What holds of the given matrix and of what stands after a list.
pub record Keeps (given : List ℕ) (n m : ℕ) (s : Stand) : Type 0 where
  -- the extended matrix is accepted with the k last answered, and any other k is refused
  pub accepted : cause s.words n m s.k ≡ 0
  pub other_k : (k : ℕ) → (k ≡ s.k → ⊥) → cause s.words n m k ≡ 0 → ⊥
  -- the carried sum plus the four-cycles left is at most the four-cycles at the start, as counting answers them
  pub cycles_start : ℕ
  pub cycles_left : ℕ
  pub counts_start : count_reply given n m 0 ≡ answer (cycles_start ∷ [])
  pub counts_left : count_reply s.words n m s.k ≡ answer (cycles_left ∷ [])
  pub falls : s.carried + cycles_left ≤ cycles_start
  -- M-101: the carried sum is the sum of s (s - 1) / 2 over the splits not taken back, those inside an orthogonalise among them: the splits that stand
  pub not_taken_back : s.carried ≡ splits_sum (lent 8 s.words) n m s.k
  -- what a taking back takes off next is at most the carried sum, so that the difference of natural numbers in `next` is the true one
  pub enough : made_sum (take_back_outcome s.words n m s.k).reply ≤ s.carried
  -- taking back is refused only 15, where no split stands, and never 16
  pub back_none : s.k ≡ 0 → (take_back_outcome s.words n m s.k).reply ≡ refusal 15 []
  pub back_answers : (s.k ≡ 0 → ⊥) → (take_back_outcome s.words n m s.k).reply.number ≡ 0
  -- it keeps the code: each codeword begins exactly one extended codeword, which extending writes whatever its output held before,
  pub each_codeword : (x held : List ℕ) → Verifies given n m 0 x → length held ≡ n + s.k
      → BeginsOne given n m s.words s.k x (extend_outcome s.words n m s.k x held)
  -- and each extended codeword begins with a codeword
  pub each_extended : (y : List ℕ) → Verifies s.words n m s.k y → Verifies given n m 0 (take n y)
  -- an orthogonalise that is the last call finishes exactly if no four-cycle is left
  pub finishes : (r : Reply) → s.last ≡ orthogonalise_said r → (r.number ≡ 0) ↔ (cycles_left ≡ 0)

-- Demand 3: for every given matrix and every list of calls.
abbrev pub Demand3 : Type 0
Demand3 = (given : List ℕ) (n m : ℕ) → cause given n m 0 ≡ 0 → (cs : List Call) → Keeps given n m (runs n m (start given) cs)
