-- What the reader of records answers: the kind of a word, and the ones of a check. Assumes nothing.
use Rattle.std.specs.Prelude.{◌≡◌, Bool, true, false, List, ℕ, zero, suc, ◌+◌, ◌-◌, ◌≤◌, ◌<◌, get_or, drop, length}
use Rattle.parity.specs.Matrix.{Matrix, put}
use Rattle.parity.specs.Record.{kind_of, payload, head_kind, bit_word, reading}
use Rattle.parity.specs.declared.Form.{Form}
use Rattle.reading.specs.declared.words.Word.{Word}
use Rattle.reading.specs.declared.words.Word.TheVariants.{Head, Open, Bit, Split, End, Faulty}

-- words of a record behind its first, fewer than 256
abbrev pub Run : List ℕ → ℕ → ℕ → Type 0
Run source from count = (from + count ≤ length source) × (1 ≤ from) × (count < 256)

-- a word of none of the kinds
pub record Kindless (w : ℕ) : Type 0 where
  pub not_head : (f : Form) → kind_of w ≡ head_kind f → ⊥
  pub not_open : kind_of w ≡ 2 → ⊥
  pub not_bit : kind_of w ≡ 3 → ⊥
  pub not_split : kind_of w ≡ 6 → ⊥
  pub not_end : kind_of w ≡ 15 → ⊥

-- a word of a kind, with its payload
pub record Kind (k w x : ℕ) : Type 0 where
  pub kind : kind_of w ≡ k
  pub rest : payload w ≡ x

-- what a word is read as
abbrev pub Reads : ℕ → Word → Type 0
Reads w (Head f x) = Kind (head_kind f) w x
Reads w (Open x) = Kind 2 w x
Reads w (Bit x) = Kind 3 w x
Reads w (Split x) = Kind 6 w x
Reads w (End x) = Kind 15 w x
Reads w Faulty = Kindless w

-- the matrix with the payloads of j words from place `from` on put into check c
unfoldable pub puts : List ℕ → ℕ → ℕ → ℕ → Matrix → Matrix
puts source c from zero h = h
puts source c from (suc j) h = put c (payload (get_or source (from + j) 0)) true (puts source c from j h)

-- The j words from place `from` on are rising bits below n, none of them at `low` or above: reading goes on behind them.
pub record Rising (n : ℕ) (source : List ℕ) (from j low : ℕ) : Type 0 where
  pub goes : (f : Form) (m c d : ℕ) (h : Matrix)
      → reading f n m (drop from source) from c (j + d) 0 h ≡ reading f n m (drop (from + j) source) (from + j) c d low (puts source (c - 1) from j h)

-- Of `count` words from place `from` on j are so, and the next one is not.
pub record BitsRead (n : ℕ) (source : List ℕ) (from count j : ℕ) : Type 0 where
  pub top : j ≤ count
  pub low : ℕ
  pub rising : Rising n source from j low
  pub next : j < count → bit_word n low (get_or source (from + j) 0) ≡ false

-- If r is false, the word is a bit, and above the one before.
pub record Fault (before w : ℕ) (r : Bool) : Type 0 where
  pub kind : r ≡ false → kind_of w ≡ 3
  pub above : r ≡ false → before < w

-- If r is 0, each of `count` words from place `from` on is a bit, and above the one before.
pub record Rises (source : List ℕ) (from count r : ℕ) : Type 0 where
  pub kinds : r ≡ 0 → (i : ℕ) → i < count → kind_of (get_or source (from + i) 0) ≡ 3
  pub rises : r ≡ 0 → (i : ℕ) → i + 1 < count → get_or source (from + i) 0 < get_or source (from + (i + 1)) 0

-- If r is true, they all are rising bits below n.
pub record AllBits (n : ℕ) (source : List ℕ) (from count : ℕ) (r : Bool) : Type 0 where
  pub all : r ≡ true → BitsRead n source from count count
