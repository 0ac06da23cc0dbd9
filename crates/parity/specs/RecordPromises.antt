-- Document 02, M-103 and M-107: what is promised of records of the three forms, and of lists of calls that start at a load, over what the calls answer
-- and leave. Assumes nothing.
use Rattle.std.specs.Prelude.{ℕ, ◌≤◌, ◌+◌, ◌≡◌, false, cond, List, [], ◌∷◌, ◌++◌, get_or, length, take, drop, ltb}
use Rattle.parity.specs.Record.{kind_of, second_form, without_splits}
use Rattle.parity.specs.Causes.{answer, refusal}
use Rattle.parity.specs.Matrix.{lent, cause, pack}
use Rattle.parity.specs.Calls.{load_outcome, write_outcome}
use Rattle.parity.specs.Demand3.{Call, runs, none, Stand, Keeps}
use Rattle.parity.specs.Splits.{all_back, splits_sum, rebuilds}

-- M-103 and M-107: each written record loads to its matrix, with the same words, n, m and k, whatever the words held before;
abbrev pub WrittenLoads : Type 0
WrittenLoads = (ws : List ℕ) (n m k : ℕ) (target held : List ℕ) (used : ℕ) → (write_outcome ws n m k target).reply ≡ answer (used ∷ []) → length held ≡ 4096
    → load_outcome (take used (write_outcome ws n m k target).after) held ≡ record { reply = answer (n ∷ m ∷ k ∷ []); after = ws }

-- a record that loads, with k, is written as the words that k gives
abbrev pub WrittenAs : List ℕ → (ℕ → List ℕ) → Type 0
WrittenAs source words = (held target : List ℕ) (n m k : ℕ) → (load_outcome source held).reply ≡ answer (n ∷ m ∷ k ∷ []) → length source ≤ length target
    → write_outcome (load_outcome source held).after n m k target ≡ record { reply = answer (length source ∷ []); after = words k ++ drop (length source) target }

-- a loaded second_form_lem record writes to itself (M-103);
abbrev pub SecondFormKept : Type 0
SecondFormKept = (source : List ℕ) → kind_of (get_or source 0 0) ≡ 4 → WrittenAs source (λ k. source)

-- a first-form one to its second form, which has as many words (M-103);
abbrev pub FirstFormNumbered : Type 0
FirstFormNumbered = (source : List ℕ) → kind_of (get_or source 0 0) ≡ 1 → WrittenAs source (λ k. second_form source)

-- a third-form one to itself if it has splits, and else to its second form (M-107).
abbrev pub ThirdFormKept : Type 0
ThirdFormKept = (source : List ℕ) → kind_of (get_or source 0 0) ≡ 5 → WrittenAs source (λ k. cond (ltb 0 k) source (second_form source))

-- 01 and M-107: at most 14,522 words are used for a matrix with k = 0, and one more for each split: at most 14,914;
abbrev pub WrittenMost : Type 0
WrittenMost = (ws : List ℕ) (n m k : ℕ) (target : List ℕ) (used : ℕ) → (write_outcome ws n m k target).reply ≡ answer (used ∷ []) → used ≤ 14522 + k

-- an accepted matrix whose recovered list does not rebuild it is refused 16;
abbrev pub NotRebuilt : Type 0
NotRebuilt = (ws : List ℕ) (n m k : ℕ) (target : List ℕ) → cause ws n m k ≡ 0 → rebuilds (lent 8 ws) n m k ≡ false
    → write_outcome ws n m k target ≡ record { reply = refusal 16 []; after = target }

-- the checks before the splits of a loaded matrix, as words of their own
abbrev pub checks_before : List ℕ → ℕ → ℕ → ℕ → List ℕ
checks_before ws n m k = pack 8 (all_back (lent 8 ws) n m k)

-- The record without its kind 6 words loads, with k = 0, to exactly these words.
abbrev pub LoadsBefore : Type 0
LoadsBefore = (source held : List ℕ) (n m k : ℕ) → (load_outcome source held).reply ≡ answer (n ∷ m ∷ k ∷ [])
    → load_outcome (without_splits source) held ≡ record { reply = answer (n ∷ m ∷ 0 ∷ []); after = checks_before (load_outcome source held).after n m k }

-- What stands after loading, at the start of a list of calls: the carried sum is that of the loaded splits. Without splits it is demand 3's start.
abbrev pub loaded_start : List ℕ → ℕ → ℕ → ℕ → Stand
loaded_start ws n m k = record { words = ws; k = k; carried = splits_sum (lent 8 ws) n m k; last = none }

-- What holds of the checks before the splits and of what stands after a list that starts at a load:
pub record Relayed (given : List ℕ) (n m : ℕ) (s : Stand) : Type 0 where
  -- demand 3's words, from the load on: the code of the checks before the splits is kept, and no less is recovered than by them; the carried sum is that
  -- of the splits that stand, loaded or made since, and taking back is refused only 15
  pub accepted : cause given n m 0 ≡ 0
  pub keeps : Keeps given n m s
  -- they are the checks before all splits that are not taken back
  pub checks : checks_before s.words n m s.k ≡ given
  -- writing is never refused 16: it answers, or the record is too short
  pub writes : (target : List ℕ) → 14914 ≤ length target → (write_outcome s.words n m s.k target).reply.number ≡ 0
  pub never : (target : List ℕ) → (write_outcome s.words n m s.k target).reply.number ≡ 16 → ⊥
  -- and loading what was written returns the matrix
  pub returns : (target held : List ℕ) (used : ℕ) → (write_outcome s.words n m s.k target).reply ≡ answer (used ∷ []) → length held ≡ 4096
      → load_outcome (take used (write_outcome s.words n m s.k target).after) held ≡ record { reply = answer (n ∷ m ∷ s.k ∷ []); after = s.words }

-- for every record that loads and every list of splits, orthogonalisings and takings back.
abbrev pub Relays : Type 0
Relays = (source held : List ℕ) (n m k : ℕ) → (load_outcome source held).reply ≡ answer (n ∷ m ∷ k ∷ []) → (cs : List Call)
    → let ws = (load_outcome source held).after in
    Relayed (checks_before ws n m k) n m (runs n m (loaded_start ws n m k) cs)
