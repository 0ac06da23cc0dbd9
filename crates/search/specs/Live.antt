-- A list of checks that may still have an erased bit, of N bits and M checks: its first k, and those from place a on, of n. Assumes nothing.
use Rattle.std.specs.Prelude.{◌≡◌, Bool, true, ◌&&◌, List, ◌⊎◌, ℕ, ◌+◌, ◌*◌, ◌^◌, ◌≤◌, ◌<◌, get_or, Option, Some, None}
use Rattle.parity.specs.Matrix.{Matrix, bit_of, lent}
use Rattle.parity.specs.Words.{inside}
use Rattle.search.specs.declared.Alone.{Alone}
use Rattle.search.specs.declared.Next.{Next}
use Rattle.search.specs.Next.{Lone}

-- check c has an erased bit at offset j of one of its first U words, where a row has W
pub record Offset (W U : ℕ) (ws es : List ℕ) (c j : ℕ) : Type 0 where
  pub word : ℕ
  pub few : word < U
  pub here : (lent W ws c (word * 64 + j) && lent W es 0 (word * 64 + j)) ≡ true

-- and so at each offset that is a one of x
pub record Offsets (W U : ℕ) (ws es : List ℕ) (c x : ℕ) : Type 0 where
  pub fits : x < 2 ^ 64
  pub at : (j : ℕ) → j < 64 → bit_of x j ≡ true → Offset W U ws es c j

-- the list's first M are the checks below M
pub record Listed (M : ℕ) (l : List ℕ) : Type 0 where
  pub at : (i : ℕ) → i < M → get_or l i 0 ≡ i

-- check c stands in the list, at place a or above and below b
pub record Placed (l : List ℕ) (a b c : ℕ) : Type 0 where
  pub place : ℕ
  pub least : a ≤ place
  pub below : place < b
  pub here : get_or l place 0 ≡ c

-- each check with an erased bit stands among them
pub record Live (h : Matrix) (N M : ℕ) (e : ℕ → Bool) (l : List ℕ) (k a n : ℕ) : Type 0 where
  pub low : (i : ℕ) → i < n → get_or l i 0 < M
  pub every : (c : ℕ) → c < M → (inside h N c e ≡ 0 → ⊥) → Placed l 0 k c ⊎ Placed l a n c

-- check c, at place a, has exactly one erased bit, b
pub record AloneAt (h : Matrix) (N M : ℕ) (e : ℕ → Bool) (n : ℕ) (l : List ℕ) (c b a k : ℕ) : Type 0 where
  pub lone : Lone h N M e c b
  pub live : Live h N M e l k a n
  pub here : get_or l a 0 ≡ c
  pub ahead : k ≤ a
  pub below : a < n

-- none of those that were kept, from place k₀ on, has exactly one erased bit
pub record NoneAlone (h : Matrix) (N M : ℕ) (e : ℕ → Bool) (n k₀ : ℕ) (l : List ℕ) (k : ℕ) : Type 0 where
  pub live : Live h N M e l k n n
  pub few : k ≤ n
  pub none : (i : ℕ) → k₀ ≤ i → i < k → inside h N (get_or l i 0) e ≡ 1 → ⊥

abbrev pub AloneOrNone : Matrix → ℕ → ℕ → (ℕ → Bool) → ℕ → ℕ → List ℕ → ℕ → Option Alone → Type 0
AloneOrNone h N M e n k₀ l k None = NoneAlone h N M e n k₀ l k
AloneOrNone h N M e n k₀ l k (Some a) = AloneAt h N M e n l a.check.0 a.bit.0 a.place k

-- the answer names a check with exactly one erased bit, or says that there is none
abbrev pub NextAlone : Matrix → ℕ → ℕ → (ℕ → Bool) → ℕ → ℕ → List ℕ → Next → Type 0
NextAlone h N M e n k₀ l next = AloneOrNone h N M e n k₀ l next.kept next.alone
