-- Tiles: some words of every packet, from a word on, that are brought into rows, mended and put back. A packet has len words; lane i of the packets is
-- lane i - 64 from of the tile. Assumes nothing.
use Rattle.std.specs.Prelude.{◌≡◌, Bool, false, not, cond, ◌&&◌, ℕ, ◌+◌, ◌*◌, ◌≤◌, ◌<◌, List, get_or, length}
use Rattle.parity.specs.Matrix.{Matrix, lent}
use Rattle.lanes.specs.Lanes.{Lists, lists_of, mending, contradicted, Low, checks_of, bits_of}
use Rattle.lanes.specs.declared.Plan.{Plan}
use Rattle.lanes.specs.declared.Part.{Part}
use Rattle.lanes.specs.declared.Step.{Step}

-- the ones of lane i of the packets x that arrived, those that are not lost
unfoldable pub arrived : Matrix → (ℕ → Bool) → ℕ → ℕ → Bool
arrived x lost i b = not (lost b) && x b i

-- packet b of the packets xs, and row b of the tile ts, have room for their part
pub record RowFits (t : Part) (xs ts : List ℕ) (b : ℕ) : Type 0 where
  pub packet : b * t.len + t.len ≤ length xs
  pub part : t.from + t.count ≤ t.len
  pub few : t.count ≤ t.lanes
  pub row : b * t.lanes + t.lanes ≤ length ts

-- and so have the first n, no more than 512
pub record TileFits (t : Part) (n : ℕ) (xs ts : List ℕ) : Type 0 where
  pub packets : n * t.len ≤ length xs
  pub most : n ≤ 512
  pub part : t.from + t.count ≤ t.len
  pub few : t.count ≤ t.lanes
  pub rows : n * t.lanes ≤ length ts

-- r has the eight words of a list from `first` on
pub record Eight (ws : List ℕ) (first : ℕ) (r : List ℕ) : Type 0 where
  pub size : length r ≡ 8
  pub at : (a : ℕ) → a < 8 → get_or r a 0 ≡ get_or ws (first + a) 0

-- Row b has the first count words of packet b's part, and the other rows are as they were.
pub record Taken (x : Matrix) (from count b : ℕ) (t t' : Matrix) : Type 0 where
  pub here : (j : ℕ) → j < count * 64 → t' b j ≡ x b (from * 64 + j)
  pub else : (a j : ℕ) → (a ≡ b → ⊥) → t' a j ≡ t a j

-- row b is empty
pub record Blanked (b : ℕ) (t t' : Matrix) : Type 0 where
  pub here : (j : ℕ) → t' b j ≡ false
  pub else : (a j : ℕ) → (a ≡ b → ⊥) → t' a j ≡ t a j

-- the first n rows have what arrived
pub record Loaded (x : Matrix) (lost : ℕ → Bool) (from count n : ℕ) (t t' : Matrix) : Type 0 where
  pub here : (b j : ℕ) → b < n → j < count * 64 → t' b j ≡ arrived x lost (from * 64 + j) b
  pub else : (b j : ℕ) → n ≤ b → t' b j ≡ t b j

-- no lane is flagged
abbrev pub no_flag : ℕ → Bool
no_flag j = false

-- The part of packet b becomes row b of the tile, in the lanes that are not flagged.
pub record Returned (from count b : ℕ) (t : Matrix) (f : ℕ → Bool) (x x' : Matrix) : Type 0 where
  pub here : (j : ℕ) → j < count * 64 → x' b (from * 64 + j) ≡ cond (f j) (x b (from * 64 + j)) (t b j)
  pub before : (i : ℕ) → i < from * 64 → x' b i ≡ x b i
  pub behind : (i : ℕ) → (from + count) * 64 ≤ i → x' b i ≡ x b i
  pub else : (a i : ℕ) → (a ≡ b → ⊥) → x' a i ≡ x a i

-- If none is said to be flagged, none is.
pub record Unflagged (some : Bool) (f : ℕ → Bool) : Type 0 where
  pub none : some ≡ false → (j : ℕ) → f j ≡ false

-- and so do the parts of the first n packets that were lost and are not left
pub record Stored (lost left : ℕ → Bool) (from count n : ℕ) (t : Matrix) (f : ℕ → Bool) (x x' : Matrix) : Type 0 where
  pub here : (b j : ℕ) → b < n → j < count * 64 → x' b (from * 64 + j) ≡ cond (lost b && (not (left b) && not (f j))) (t b j) (x b (from * 64 + j))
  pub before : (b i : ℕ) → i < from * 64 → x' b i ≡ x b i
  pub behind : (b i : ℕ) → (from + count) * 64 ≤ i → x' b i ≡ x b i
  pub else : (b i : ℕ) → n ≤ b → x' b i ≡ x b i

-- the flags of the tile's lanes are put among those of all lanes
pub record Flagged (from count : ℕ) (f : ℕ → Bool) (y y' : ℕ → Bool) : Type 0 where
  pub here : (j : ℕ) → j < count * 64 → y' (from * 64 + j) ≡ f j
  pub before : (i : ℕ) → i < from * 64 → y' i ≡ y i

-- The lanes below `to` are mended, of the first n packets: a packet that was lost and is not left has, in each lane that is not contradicted, the bit that the plan
-- gives; the contradicted lanes are flagged. The lanes from `to` on are as they were.
pub record Mended (h k : Matrix) (B M : ℕ) (p : Lists) (lost left : ℕ → Bool) (n to : ℕ) (x x' : Matrix) (y' : ℕ → Bool) : Type 0 where
  pub bits : (b i : ℕ) → b < n → i < to → x' b i ≡ cond (lost b && (not (left b) && not (contradicted h k B M p (arrived x lost i)))) (mending h k B p (arrived x lost i) b) (x b i)
  pub flags : (i : ℕ) → i < to → y' i ≡ contradicted h k B M p (arrived x lost i)
  pub later : (b i : ℕ) → to ≤ i → x' b i ≡ x b i

-- the rows from n on are empty
pub record Empty (n : ℕ) (t : Matrix) : Type 0 where
  pub none : (b j : ℕ) → n ≤ b → t b j ≡ false

-- the lists name checks below M and rows below L, and bits below n
pub record Ready (n M : ℕ) (p : Lists) : Type 0 where
  pub checks : Low p.s M p.checks
  pub bits : Low p.s n p.bits
  pub rows : Low p.t p.L p.rows
  pub pivots : Low p.t n p.pivots
  pub first : p.r ≤ p.L

-- The lanes of a tile are mended, and its flags put; the lanes before and behind it are as they were.
pub record TileMended (h k : Matrix) (B M : ℕ) (p : Lists) (lost left : ℕ → Bool) (n from count : ℕ) (x x' : Matrix) (y y' : ℕ → Bool) : Type 0 where
  pub bits : (b j : ℕ) → b < n → j < count * 64
      → x' b (from * 64 + j) ≡ cond (lost b && (not (left b) && not (contradicted h k B M p (arrived x lost (from * 64 + j))))) (mending h k B p (arrived x lost (from * 64 + j)) b) (x b (from * 64 + j))
  pub flags : (j : ℕ) → j < count * 64 → y' (from * 64 + j) ≡ contradicted h k B M p (arrived x lost (from * 64 + j))
  pub before : (b i : ℕ) → i < from * 64 → x' b i ≡ x b i
  pub behind : (b i : ℕ) → (from + count) * 64 ≤ i → x' b i ≡ x b i
  pub flagged : (i : ℕ) → i < from * 64 → y' i ≡ y i

-- the lists of a plan, from its numbers, and its steps by checks and by rows
abbrev pub plan_lists : Plan → (ℕ → Bool) → List Step → List Step → Lists
plan_lists p skip steps more = lists_of (checks_of steps) (bits_of steps) (length steps) skip p.first p.end (checks_of more) (bits_of more) (length more)

-- the lists that a plan names have room for it: rs the reduced rows
pub record Fitting (p : Plan) (ws ss rs : List ℕ) : Type 0 where
  pub words : length ws ≡ 4096
  pub used : p.used ≤ 8
  pub checks : p.checks ≤ 512
  pub skip : length ss ≡ 8
  pub rows : p.end * p.used ≤ length rs
  pub end : p.end ≤ 512

-- A plan that can be carried out: its lists fit, and are ready for its bits, which its words have room for.
pub record Carried (p : Plan) (ws ss : List ℕ) (steps : List Step) (rs : List ℕ) (more : List Step) : Type 0 where
  pub fits : Fitting p ws ss rs
  pub ready : Ready p.bits p.checks (plan_lists p (lent 8 ss 0) steps more)
  pub bits : p.bits ≤ p.used * 64

-- the packets xs, with a word of ys for each of their words, and the sets es of the lost and ls of the left ones, for tiles of T words
pub record Tiled (p : Plan) (T : ℕ) (es ls xs ys : List ℕ) : Type 0 where
  pub lost : length es ≡ 8
  pub left : length ls ≡ 8
  pub packets : length xs ≡ p.bits * length ys
  pub some : 0 < p.lanes
  pub most : p.lanes ≤ 16
  pub room : p.used * 64 * p.lanes ≤ T
