-- Document 02, M-109: what is promised of listing stopping sets, over what the calls answer and leave. Assumes nothing.
use Rattle.std.specs.Prelude.{ℕ, ◌≤◌, ◌+◌, ◌*◌, ◌<◌, ◌≡◌, true, ◌↔◌, get_or, length, drop}
use mathlib.Core.List.{List, [], ◌∷◌, ◌++◌, Memᴰ}
use Rattle.parity.specs.Causes.{answer, refusal}
use Rattle.parity.specs.Finite.{one, count, list_from}
use Rattle.parity.specs.Words.{is_one}
use Rattle.parity.specs.StoppingSets.{is_in, flat, rising, ordered}
use Rattle.parity.specs.Calls.{byte_of, is_stopping_reply, stopping_sets_outcome}

-- M-109: the bytes of a set of N bits, as the stopping test takes them: 1 for a member, 0 for another bit.
abbrev pub bytes_of : ℕ → List ℕ → List ℕ
bytes_of N s = list_from 0 N (λ b. one (is_in s b))

-- What an answered listing tells and leaves:
pub record Lists (ws : List ℕ) (n m k t : ℕ) (target : List ℕ) (found : List (List ℕ)) : Type 0 where
  -- the answer carries how many sets there are; they stand one after the other, t places each, and the further places are left
  pub told : (stopping_sets_outcome ws n m k t target).reply ≡ answer (length found ∷ [])
  pub places : length (flat found) ≡ length found * t
  pub left : (stopping_sets_outcome ws n m k t target).after ≡ flat found ++ drop (length found * t) target
  -- each has exactly t members, sent bits, rising, and the stopping test says yes to it
  pub each : (s : List ℕ) → Memᴰ s found → (length s ≡ t) × (rising 0 n s ≡ true) × (is_stopping_reply ws n m k (bytes_of (n + k) s) ≡ answer (1 ∷ []))
  -- every set of t sent bits and no added bit that the stopping test says yes to is listed
  pub every : (w : List ℕ) → is_stopping_reply ws n m k w ≡ answer (1 ∷ []) → count n (is_one (byte_of w)) ≡ t → count k (λ j. is_one (byte_of w) (n + j)) ≡ 0
      → (s : List ℕ) × Memᴰ s found × (bytes_of (n + k) s ≡ w)
  -- in dictionary order, each once
  pub order : ordered found ≡ true
  pub once : (i j : ℕ) → i < j → j < length found → get_or found i [] ≡ get_or found j [] → ⊥

abbrev pub SmallStoppingSets : Type 0
SmallStoppingSets = (ws : List ℕ) (n m k t : ℕ) (target : List ℕ) → (stopping_sets_outcome ws n m k t target).reply.number ≡ 0
    → (found : List (List ℕ)) × Lists ws n m k t target found

-- A slice that is too short is left, and refusal 19 carries the length needed: a slice is answered exactly if it is that long.
abbrev pub LengthNeeded : Type 0
LengthNeeded = (ws : List ℕ) (n m k t : ℕ) (short : List ℕ) (needed : ℕ) → (stopping_sets_outcome ws n m k t short).reply ≡ refusal 19 (needed ∷ [])
    → ((stopping_sets_outcome ws n m k t short).after ≡ short)
    × ((target : List ℕ) → ((stopping_sets_outcome ws n m k t target).reply.number ≡ 0) ↔ (needed ≤ length target))
