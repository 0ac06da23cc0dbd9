-- What filling the matrix's words from a record answers. Assumes nothing.
use Rattle.std.specs.Prelude.{◌≡◌, false, List, ℕ, zero, suc, ◌/◌, ◌%◌, ◌^◌, ◌<◌, get_or, length, drop}
use Rattle.std.specs.Int.Bits.{bit_or}
use Rattle.parity.specs.Matrix.{Matrix, lent}
use Rattle.parity.specs.Record.{payload, form_of, checked, reading}
use Rattle.parity.specs.declared.Form.{Form}
use Rattle.reading.specs.Judge.{ChecksRight}

-- the payloads of record words rise, and are below N
pub record Payloads (ones : List ℕ) (N : ℕ) : Type 0 where
  pub below : (j : ℕ) → j < length ones → payload (get_or ones j 0) < N
  pub rising : (i j : ℕ) → i < j → j < length ones → payload (get_or ones i 0) < payload (get_or ones j 0)

-- they all are in word i of a row
pub record InWord (ones : List ℕ) (i : ℕ) : Type 0 where
  pub word : (j : ℕ) → j < length ones → payload (get_or ones j 0) / 64 ≡ i

-- the word x with the bits, modulo 64, of the first j of them
unfoldable pub gathered : List ℕ → ℕ → ℕ → ℕ
gathered ones zero x = x
gathered ones (suc j) x = bit_or (gathered ones j x) (2 ^ (payload (get_or ones j 0) % 64))

-- a record of m checks that are right
pub record Checks (m : ℕ) (source : List ℕ) : Type 0 where
  pub form : Form
  pub n : ℕ
  pub place : ℕ
  pub right : ChecksRight form n m source place

-- The words hold the matrix that the checks of the record are.
pub record Filled (m : ℕ) (source words : List ℕ) : Type 0 where
  pub holds : (rest : List ℕ) (p : ℕ) (h : Matrix)
      → reading (form_of (get_or source 0 0)) (payload (get_or source 0 0) % 256) m (drop 1 source) 1 0 0 0 (λ c b. false) ≡ checked rest p h → lent 8 words ≡ h
