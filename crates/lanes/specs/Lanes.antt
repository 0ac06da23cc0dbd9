-- Rows of lanes: bit j of row b is bit b of lane j. Steps that are taken in all lanes at once, in the checks of a matrix h of B bits. Assumes nothing.
use Rattle.std.specs.Prelude.{◌≡◌, Bool, false, not, ◌&&◌, ◌||◌, List, ℕ, zero, suc, ◌+◌, ◌*◌, ◌≤◌, ◌<◌, eqb, leb, get_or, length, map}
use Rattle.std.specs.Bool.{xor}
use Rattle.parity.specs.Finite.{count, any}
use Rattle.parity.specs.Matrix.{Matrix, bit_of}
use Rattle.parity.specs.Words.{inside, odd}
use Rattle.rows.specs.Whole.{combined}
use Rattle.lanes.specs.declared.Step.{Step}

-- lane j of the rows x, as the set of its ones
abbrev pub lane : Matrix → ℕ → ℕ → Bool
lane x j b = x b j

-- Row c of rs, of W words, whose first U are in use, and the tile ts, whose rows have as many words as lanes says, have room for a sum of rows of the tile.
pub record Meets (W U lanes : ℕ) (rs ts : List ℕ) (c : ℕ) : Type 0 where
  pub row : c * W + W ≤ length rs
  pub used : U ≤ W
  pub width : W ≤ 8
  pub tile : U * 64 * lanes ≤ length ts
  pub most : lanes ≤ 16

-- To the lanes a are added the rows of x at the ones of w, word i of a check.
pub record WordAdded (x : Matrix) (i w : ℕ) (a a' : ℕ → Bool) : Type 0 where
  pub at : (j : ℕ) → a' j ≡ xor (a j) (odd (count 64 (λ t. bit_of w t && x (i * 64 + t) j)))

-- s has, in each lane, the sum modulo 2 of the bits that check c contains
pub record SumOf (h : Matrix) (B c : ℕ) (x : Matrix) (s : ℕ → Bool) : Type 0 where
  pub at : (j : ℕ) → s j ≡ odd (inside h B c (lane x j))

-- row c with the bits of a row besides
abbrev pub either : ℕ → (ℕ → Bool) → Matrix → Matrix
either c row x = combined ◌||◌ c row x

-- Bit b is solved by check c in every lane: it enters if the check contains an odd number of the lane's bits.
pub record Solved (h : Matrix) (B c b : ℕ) (x x' : Matrix) : Type 0 where
  pub here : (j : ℕ) → x' b j ≡ (x b j || odd (inside h B c (lane x j)))
  pub else : (a j : ℕ) → (a ≡ b → ⊥) → x' a j ≡ x a j

-- Bit b of the set o is solved by check c: it enters if the check contains an odd number of the set's bits.
unfoldable pub solved_by : Matrix → ℕ → ℕ → ℕ → (ℕ → Bool) → ℕ → Bool
solved_by h B c b o a = o a || (eqb a b && odd (inside h B c o))

-- the set after s steps, by the list cs of their checks and the list bs of their bits: step i solves bit i of the one by check i of the other
unfoldable pub ran : Matrix → ℕ → List ℕ → List ℕ → ℕ → (ℕ → Bool) → ℕ → Bool
ran h B cs bs zero o = o
ran h B cs bs (suc s) o = solved_by h B (get_or cs s 0) (get_or bs s 0) (ran h B cs bs s o)

-- the checks of steps, and their bits
abbrev pub checks_of : List Step → List ℕ
checks_of steps = map (λ s. s.check) steps

abbrev pub bits_of : List Step → List ℕ
bits_of steps = map (λ s. s.bit) steps

-- the same in every lane
pub record Ran (h : Matrix) (B : ℕ) (cs bs : List ℕ) (s : ℕ) (x x' : Matrix) : Type 0 where
  pub each : (j b : ℕ) → x' b j ≡ ran h B cs bs s (lane x j) b

-- Some check from `first` up to `end` that is not skipped contains an odd number of the set's bits.
unfoldable pub uneven : Matrix → ℕ → ℕ → ℕ → (ℕ → Bool) → (ℕ → Bool) → Bool
uneven h B first end skip o = any end (λ c. leb first c && (not (skip c) && odd (inside h B c o)))

-- the lanes in which check c contains an odd number of bits are flagged besides
pub record Checked (h : Matrix) (B c : ℕ) (x : Matrix) (f f' : ℕ → Bool) : Type 0 where
  pub at : (j : ℕ) → f' j ≡ (f j || odd (inside h B c (lane x j)))

-- the lanes where this is so are flagged besides
pub record Tested (h : Matrix) (B first end : ℕ) (skip : ℕ → Bool) (x : Matrix) (f f' : ℕ → Bool) : Type 0 where
  pub at : (j : ℕ) → f' j ≡ (f j || uneven h B first end skip (lane x j))

-- the first s numbers of a list are below n
pub record Low (s n : ℕ) (at : List ℕ) : Type 0 where
  pub low : (i : ℕ) → i < s → get_or at i 0 < n

-- The lists of a plan: s steps by checks of h and t steps by rows of k, of B bits. Checks of h below M that are not skipped are tested between, and so are
-- the rows of k from r up to L, none of which is skipped.
pub record Lists : Type 0 where
  pub checks : List ℕ
  pub bits : List ℕ
  pub s : ℕ
  pub skip : ℕ → Bool
  pub none : ℕ → Bool
  pub r : ℕ
  pub L : ℕ
  pub rows : List ℕ
  pub pivots : List ℕ
  pub t : ℕ

-- the ones of a lane after the first steps, and after all
unfoldable pub peeling : Matrix → ℕ → Lists → (ℕ → Bool) → ℕ → Bool
peeling h B p o = ran h B p.checks p.bits p.s o

unfoldable pub mending : Matrix → Matrix → ℕ → Lists → (ℕ → Bool) → ℕ → Bool
mending h k B p o = ran k B p.rows p.pivots p.t (peeling h B p o)

-- whether a check or a row that is tested is odd in the lane
unfoldable pub contradicted : Matrix → Matrix → ℕ → ℕ → Lists → (ℕ → Bool) → Bool
contradicted h k B M p o = uneven h B 0 M p.skip (peeling h B p o) || uneven k B p.r p.L p.none (peeling h B p o)

-- as the machine has them; no row is skipped
abbrev pub lists_of : List ℕ → List ℕ → ℕ → (ℕ → Bool) → ℕ → ℕ → List ℕ → List ℕ → ℕ → Lists
lists_of cs bs s skip r L ds ps t = record { checks = cs; bits = bs; s = s; skip = skip; none = λ c. false; r = r; L = L; rows = ds; pivots = ps; t = t }

-- the plan carried out in every lane of the rows x; the contradicted lanes are flagged
pub record Mends (h k : Matrix) (B M : ℕ) (p : Lists) (x x' : Matrix) (f : ℕ → Bool) : Type 0 where
  pub each : (j b : ℕ) → x' b j ≡ mending h k B p (lane x j) b
  pub flags : (j : ℕ) → f j ≡ contradicted h k B M p (lane x j)
