-- Messages in lent memory: one for each one of the matrix, check after check, a check's by rising bit. The last 512 of the 65,536 places are the row, in
-- which a bit's messages stand side by side. Assumes nothing.
use Rattle.std.specs.Prelude.{ℕ, ◌+◌, ◌<◌, ◌≤◌, ◌≡◌, Bool, true, false, List, length, get_or, Float}
use Rattle.parity.specs.Finite.{sum, count}
use Rattle.parity.specs.Matrix.{Matrix, lent}
use Rattle.parity.specs.Soft.{Messages, message_at}
use Rattle.parity.specs.declared.Channel.{Channel}

-- the first place of check c: the ones of the checks before it, of N bits
unfoldable pub start : Matrix → ℕ → ℕ → ℕ
start h N c = sum c (λ d. count N (h d))

-- the place of the message between check c and its bit b
unfoldable pub place : Matrix → ℕ → ℕ → ℕ → ℕ
place h N c b = start h N c + count b (h c)

-- the messages that the lists hold
unfoldable pub held : Matrix → ℕ → List ℕ → List Float → Messages
held h N ts xs c b = message_at ts xs (place h N c b)

-- the lent memory
pub record Sized (ts : List ℕ) (xs : List Float) : Type 0 where
  pub tags : length ts ≡ 65536
  pub values : length xs ≡ 65536

-- The words or the columns ws of the matrix h, and the lent memory, in which all messages lie before the row.
pub record Laid (ws : List ℕ) (h : Matrix) (ts : List ℕ) (xs : List Float) : Type 0 where
  pub words : length ws ≡ 4096
  pub memory : Sized ts xs
  pub room : start h 512 512 ≤ 65024

-- No check from M on contains a bit.
pub record Within (h : Matrix) (M : ℕ) : Type 0 where
  pub most : M ≤ 512
  pub after : (d a : ℕ) → M ≤ d → h d a ≡ false

-- The bits that checks contain are those of a word w with its floats f.
pub record Inner (h : Matrix) (w : List ℕ) (f : List Float) : Type 0 where
  pub most : length w ≤ 512
  pub same : length f ≡ length w
  pub below : (d a : ℕ) → h d a ≡ true → a < length w

-- Message i is v now, and every other is as it was.
pub record Written (i : ℕ) (v : Channel) (ts : List ℕ) (xs : List Float) (ts' : List ℕ) (xs' : List Float) : Type 0 where
  pub tags : length ts' ≡ length ts
  pub values : length xs' ≡ length xs
  pub here : message_at ts' xs' i ≡ v
  pub other : (t : ℕ) → (t ≡ i → ⊥) → message_at ts' xs' t ≡ message_at ts xs t

-- the matrix whose columns are g: bit, then check
abbrev pub across : Matrix → Matrix
across g c b = g b c

-- messages of the matrix whose columns are lent, all of its checks below M
abbrev pub LaidAcross : List ℕ → List ℕ → List Float → ℕ → Type 0
LaidAcross cols ts xs M = Laid cols (across (lent 8 cols)) ts xs × Within (across (lent 8 cols)) M

-- the checks that contain bit b
abbrev pub column : Matrix → ℕ → ℕ → Bool
column h b c = h c b

-- the places between the messages and the row are as they were
pub record Above (h : Matrix) (N : ℕ) (ts : List ℕ) (xs : List Float) (ts' : List ℕ) (xs' : List Float) : Type 0 where
  pub at : (i : ℕ) → start h N 512 ≤ i → i < 65024 → message_at ts' xs' i ≡ message_at ts xs i

-- For each check with a bit, the place of its message with bit b, or of the next above b.
pub record Cursors (h : Matrix) (N b : ℕ) (at : List ℕ) : Type 0 where
  pub size : length at ≡ 512
  pub is : (c a : ℕ) → h c a ≡ true → get_or at c 0 ≡ place h N c b

-- cursors at bit b of the matrix whose columns are lent
abbrev pub AtBit : List ℕ → ℕ → List ℕ → Type 0
AtBit cols b at = (b < 512) × Cursors (across (lent 8 cols)) 512 b at

-- what the messages at bit b are, by check
abbrev pub held_at : Matrix → ℕ → List ℕ → List Float → ℕ → ℕ → Channel
held_at h N ts xs b c = held h N ts xs c b

-- The messages of the first c checks, and those of check c with the first b bits, are their bits' values m.
pub record Filling (h : Matrix) (N c b : ℕ) (m : ℕ → Channel) (ts : List ℕ) (xs : List Float) : Type 0 where
  pub tags : length ts ≡ 65536
  pub values : length xs ≡ 65536
  pub before : (d a : ℕ) → d < c → a < N → h d a ≡ true → held h N ts xs d a ≡ m a
  pub here : (a : ℕ) → a < b → a < N → h c a ≡ true → held h N ts xs c a ≡ m a

-- The lists hold the messages m, in the places of the ones.
pub record Holds (h : Matrix) (N M : ℕ) (m : Messages) (ts : List ℕ) (xs : List Float) : Type 0 where
  pub tags : length ts ≡ 65536
  pub values : length xs ≡ 65536
  pub at : (d a : ℕ) → d < M → a < N → h d a ≡ true → held h N ts xs d a ≡ m d a
