-- Sets of bits that are given by bytes, as words of 64 bits. Assumes nothing.
use Rattle.std.specs.Prelude.{◌≡◌, Bool, false, ◌&&◌, List, ℕ, ◌+◌, ◌*◌, ◌^◌, ◌<◌, ◌≤◌, eqb, ltb, length}
use Rattle.parity.specs.Matrix.{bit_of, lent}
use Rattle.parity.specs.Calls.{byte_of}

-- the words of a matrix, a check of it, and a set of bits, of which the first words are in use
abbrev pub Asked : List ℕ → ℕ → List ℕ → ℕ → Type 0
Asked ws c set used = (length ws ≡ 4096) × (c < 512) × (length set ≡ 8) × (used ≤ 8)

-- the bits whose byte is v
abbrev pub with_byte : List ℕ → ℕ → ℕ → Bool
with_byte w v b = ltb b (length w) && eqb (byte_of w b) v

-- x is word i of their set
pub record WordOf (w : List ℕ) (v i x : ℕ) : Type 0 where
  pub at : (j : ℕ) → j < 64 → bit_of x j ≡ with_byte w v (i * 64 + j)

-- x has those of word i that are below bit b
pub record Upto (w : List ℕ) (v i x b : ℕ) : Type 0 where
  pub at : (j : ℕ) → j < 64 → bit_of x j ≡ (ltb (i * 64 + j) b && eqb (byte_of w (i * 64 + j)) v)

-- y has the eight from bit b on
pub record Eight (w : List ℕ) (v b y : ℕ) : Type 0 where
  pub few : y < 2 ^ 8
  pub at : (t : ℕ) → t < 8 → bit_of y t ≡ eqb (byte_of w (b + t)) v

-- four bytes, as a number
abbrev pub four_bytes : List ℕ → ℕ → ℕ
four_bytes w b = byte_of w b + byte_of w (b + 1) * 256 + byte_of w (b + 2) * 65536 + byte_of w (b + 3) * 16777216

-- the W words r are their set
pub record SetOf (W : ℕ) (w : List ℕ) (v : ℕ) (r : List ℕ) : Type 0 where
  pub size : length r ≡ W
  pub at : (b : ℕ) → lent W r 0 b ≡ with_byte w v b

-- a set that has no bit from N on
pub record Short (N : ℕ) (s : ℕ → Bool) : Type 0 where
  pub none : (b : ℕ) → N ≤ b → s b ≡ false
