-- What performing the splits of a record comes to. Assumes nothing.
use Rattle.std.specs.Prelude.{◌≡◌, Bool, true, false, List, ℕ, ◌+◌, ◌/◌, ◌%◌, ◌≤◌, ◌<◌, get_or, length, drop}
use Rattle.parity.specs.Matrix.{Matrix}
use Rattle.parity.specs.Cycles.{split_of}
use Rattle.parity.specs.Splits.{split_right}
use Rattle.parity.specs.Record.{split_word, performing}
use Rattle.parity.specs.declared.Form.TheVariants.{Third}
use Rattle.parity.specs.Sound.{Sound}
use Rattle.columns.specs.Columns.{Columns}

-- r says whether the split of a payload x is right for h, which has k added bits; h' is then the matrix after it, and g its columns
pub record Performed (h h' g : Matrix) (n m k x : ℕ) (r : Bool) : Type 0 where
  pub decides : r ≡ split_right h n m k record { lower = x % 512; higher = x / 512 }
  pub made : r ≡ true → h' ≡ split_of h (n + k) (m + k) (x % 512) (x / 512)
  pub columns : r ≡ true → Columns m h' g
  pub left : r ≡ false → h' ≡ h

-- k words from place p on carry splits that are right, and h' is h after them; the next word carries none.
pub record Performs (source : List ℕ) (n m p : ℕ) (h h' : Matrix) (k : ℕ) : Type 0 where
  pub inside : p + k ≤ length source
  pub sound : Sound h' n m k
  pub goes : performing Third n m (drop p source) p 0 h ≡ performing Third n m (drop (p + k) source) (p + k) k h'
  pub next : p + k < length source → split_word Third h' n m k (get_or source (p + k) 0) ≡ false
