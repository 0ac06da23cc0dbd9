-- What judging a record answers, of its first word, of a check, of all checks and of the end. Assumes nothing.
use Rattle.std.specs.Prelude.{◌≡◌, ⊤, true, false, List, Option, Some, None, Result, Ok, Err, ℕ, suc, ◌/◌, ◌%◌, ◌≤◌, ◌<◌, get_or, length, drop}
use Rattle.parity.specs.Matrix.{Matrix}
use Rattle.parity.specs.Record.{payload, form_of, head_word, split_word, stopped, checked, reading, faulty, loaded, performing, behind, loading}
use Rattle.parity.specs.declared.Form.{Form}
use Rattle.reading.specs.declared.judge.Head.{Head}
use Rattle.reading.specs.declared.judge.Judged.{Judged}
use Rattle.reading.specs.declared.judge.Faulty.{Faulty}

-- The first word gives the form, n and m.
pub record Gives (w : ℕ) (f : Form) (n m : ℕ) : Type 0 where
  pub right : head_word f w ≡ true
  pub form : form_of w ≡ f
  pub bits : payload w % 256 ≡ n
  pub checks : payload w / 256 ≡ m

abbrev pub HeadRead : ℕ → Option Head → Type 0
HeadRead w (Some h) = Gives w h.form h.n h.m
HeadRead w None = head_word (form_of w) w ≡ false

-- Reading, at place p with check c to open, comes to place q with that check complete.
pub record Complete (f : Form) (n c : ℕ) (source : List ℕ) (p q : ℕ) : Type 0 where
  pub top : q ≤ length source
  pub low : ℕ
  pub after : Matrix → Matrix
  pub goes : (m below : ℕ) (h : Matrix) → c < m
      → reading f n m (drop p source) p c 0 below h ≡ reading f n m (drop q source) q (suc c) 0 low (after h)

-- It is faulty at place q.
pub record Stops (f : Form) (n c : ℕ) (source : List ℕ) (p q : ℕ) : Type 0 where
  pub stops : (m below : ℕ) (h : Matrix) → c < m → reading f n m (drop p source) p c 0 below h ≡ stopped q

abbrev pub CheckRead : Form → ℕ → ℕ → List ℕ → ℕ → Result ℕ Faulty → Type 0
CheckRead f n c source p (Ok q) = Complete f n c source p q
CheckRead f n c source p (Err e) = Stops f n c source p e.place

-- Reading the record, of the form f, came to place p with c complete checks.
pub record Reached (f : Form) (n m : ℕ) (source : List ℕ) (p c : ℕ) : Type 0 where
  pub form : form_of (get_or source 0 0) ≡ f
  pub bits : payload (get_or source 0 0) % 256 ≡ n
  pub some : 1 ≤ n
  pub few : n ≤ 120
  pub checks : m ≤ 120
  pub start : loading source ≡ behind f n m (reading f n m (drop 1 source) 1 0 0 0 (λ c b. false))
  pub inside : p ≤ length source
  pub low : ℕ
  pub matrix : Matrix
  pub reached : reading f n m (drop 1 source) 1 0 0 0 (λ c b. false) ≡ reading f n m (drop p source) p c 0 low matrix

-- The checks are right, and end before place p.
pub record ChecksRight (f : Form) (n m : ℕ) (source : List ℕ) (p : ℕ) : Type 0 where
  pub form : form_of (get_or source 0 0) ≡ f
  pub bits : payload (get_or source 0 0) % 256 ≡ n
  pub some : 1 ≤ n
  pub few : n ≤ 120
  pub checks : m ≤ 120
  pub inside : p ≤ length source
  pub matrix : Matrix
  pub reads : reading f n m (drop 1 source) 1 0 0 0 (λ c b. false) ≡ checked (drop p source) p matrix
  pub loads : loading source ≡ performing f n m (drop p source) p 0 matrix

abbrev pub Judges : List ℕ → Result Judged Faulty → Type 0
Judges source (Ok j) = ChecksRight j.head.form j.head.n j.head.m source j.place
Judges source (Err e) = loading source ≡ faulty e.place

-- The record ends at place p, or is faulty at place q, where no split is to be performed at place p.
pub record Ends (source : List ℕ) (p : ℕ) : Type 0 where
  pub ends : (f : Form) (n m k : ℕ) (h : Matrix) → (p < length source → split_word f h n m k (get_or source p 0) ≡ false)
      → performing f n m (drop p source) p k h ≡ loaded n m k h

pub record Breaks (source : List ℕ) (p q : ℕ) : Type 0 where
  pub breaks : (f : Form) (n m k : ℕ) (h : Matrix) → (p < length source → split_word f h n m k (get_or source p 0) ≡ false)
      → performing f n m (drop p source) p k h ≡ faulty q

abbrev pub EndRead : List ℕ → ℕ → Result ⊤ Faulty → Type 0
EndRead source p (Ok _) = Ends source p
EndRead source p (Err e) = Breaks source p e.place
