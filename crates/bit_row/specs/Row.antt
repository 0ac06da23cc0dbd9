-- A bit's row: its messages side by side, in the last 512 places of the lent memory. Assumes nothing.
use Rattle.std.specs.Prelude.{ℕ, ◌+◌, ◌<◌, ◌≤◌, ◌≡◌, Bool, true, List, length, get_or, Float}
use Rattle.parity.specs.Finite.{count}
use Rattle.parity.specs.Matrix.{Matrix}
use Rattle.parity.specs.Soft.{message_at}
use Rattle.messages.specs.Memory.{place, held, held_at, column, Above}
use Rattle.parity.specs.declared.Channel.{Channel}

-- the places before the row are as they were
pub record Low (ts : List ℕ) (xs : List Float) (ts' : List ℕ) (xs' : List Float) : Type 0 where
  pub tags : length ts' ≡ length ts
  pub values : length xs' ≡ length xs
  pub at : (i : ℕ) → i < 65024 → message_at ts' xs' i ≡ message_at ts xs i

-- The cursors of the checks below c are those of the next bit.
pub record Moving (h : Matrix) (N b c : ℕ) (at : List ℕ) : Type 0 where
  pub size : length at ≡ 512
  pub new : (d a : ℕ) → h d a ≡ true → d < c → get_or at d 0 ≡ place h N d (b + 1)
  pub old : (d a : ℕ) → h d a ≡ true → c ≤ d → get_or at d 0 ≡ place h N d b

-- The row holds the values f of the numbers below N that pass p.
pub record Collected (p : ℕ → Bool) (N : ℕ) (f : ℕ → Channel) (ts : List ℕ) (xs : List Float) : Type 0 where
  pub at : (i : ℕ) → i < N → p i ≡ true → message_at ts xs (65024 + count i p) ≡ f i

-- Of bit b's messages, those with the checks below c stand in the row, d of them, and these checks' cursors have gone on.
pub record Gathering (h : Matrix) (N b c : ℕ) (ts : List ℕ) (xs : List Float) (d : ℕ) (at : List ℕ) (ts' : List ℕ) (xs' : List Float) : Type 0 where
  pub many : d ≡ count c (column h b)
  pub moving : Moving h N b c at
  pub low : Low ts xs ts' xs'
  pub row : Collected (column h b) c (held_at h N ts xs b) ts' xs'

-- The messages of bit b with the checks from l on below c are those of the row, and every other place is as it was.
pub record Spread (h : Matrix) (N b l c : ℕ) (ts : List ℕ) (xs : List Float) (ts' : List ℕ) (xs' : List Float) : Type 0 where
  pub tags : length ts' ≡ length ts
  pub values : length xs' ≡ length xs
  pub done : (d : ℕ) → l ≤ d → d < c → h d b ≡ true → held h N ts' xs' d b ≡ message_at ts xs (65024 + count d (column h b))
  pub rest : (d a : ℕ) → a < N → h d a ≡ true → (a ≡ b → l ≤ d → c ≤ d) → held h N ts' xs' d a ≡ held h N ts xs d a
  pub above : Above h N ts xs ts' xs'
  pub row : (t : ℕ) → message_at ts' xs' (65024 + t) ≡ message_at ts xs (65024 + t)
