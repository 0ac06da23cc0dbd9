-- Row bounds over the shares of bits, and the pair that they give. `share` is any function that gives two bits a number. Assumes nothing.
use Rattle.std.specs.Prelude.{◌≡◌, List, Option, Some, None, Result, Ok, Err, ℕ, ◌≤◌, ◌<◌, get_or}
use Rattle.parity.specs.declared.Bit.{Bit}
use Rattle.choice.specs.declared.bounds.Pair.{Pair}

-- the first bounds are the bits' numbers of checks
pub record Weights (share : ℕ → ℕ → ℕ) (bound : List ℕ) (bits : ℕ) : Type 0 where
  pub at : (x : ℕ) → x < bits → get_or bound x 0 ≡ share x x

-- No share of two or more in a row is above the row's bound.
pub record Bounded (share : ℕ → ℕ → ℕ) (bits : ℕ) (bound : List ℕ) : Type 0 where
  pub over : (x y : ℕ) → x < y → y < bits → 2 ≤ share x y → share x y ≤ get_or bound x 0

-- No bound is above the cap, and those of the rows before `from` are below it.
pub record Head (bound : List ℕ) (bits from cap : ℕ) : Type 0 where
  pub most : (x : ℕ) → x < bits → get_or bound x 0 ≤ cap
  pub first : (x : ℕ) → x < from → get_or bound x 0 < cap

-- Of the first i bounds s is the largest, and u is the first row that has it; with s = 0 there is none.
pub record Largest (bound : List ℕ) (i u s : ℕ) : Type 0 where
  pub most : (x : ℕ) → x < i → get_or bound x 0 ≤ s
  pub found : 0 < s → (u < i) × (get_or bound u 0 ≡ s)
  pub first : (x : ℕ) → x < u → get_or bound x 0 < s

-- no row from `from` on and before x has the cap
pub record Without (bound : List ℕ) (from cap x : ℕ) : Type 0 where
  pub none : (y : ℕ) → from ≤ y → y < x → get_or bound y 0 ≡ cap → ⊥

-- the first row from `from` on and below `bits` that has the cap, if there is one
abbrev pub FirstAt : List ℕ → ℕ → ℕ → ℕ → Option Bit → Type 0
FirstAt bound bits from cap (Some x) = Without bound from cap x.0 × (x.0 < bits) × (get_or bound x.0 0 ≡ cap)
FirstAt bound bits from cap None = Without bound from cap bits

-- No bit above u shares more than s with it.
pub record RowBelow (share : ℕ → ℕ → ℕ) (bits u s : ℕ) : Type 0 where
  pub over : (y : ℕ) → u < y → y < bits → share u y ≤ s

-- the bits from `bits` on share nothing
pub record Narrow (share : ℕ → ℕ → ℕ) (bits : ℕ) : Type 0 where
  pub none : (x y : ℕ) → bits ≤ y → share x y ≡ 0

-- v is the first bit above u that shares s with it.
pub record Hit (share : ℕ → ℕ → ℕ) (bits u s v : ℕ) : Type 0 where
  pub high : v < bits
  pub low : u < v
  pub here : share u v ≡ s
  pub near : (y : ℕ) → u < y → y < v → share u y < s

-- No bit above u shares more than `most`, which is below s.
pub record Miss (share : ℕ → ℕ → ℕ) (bits u s most : ℕ) : Type 0 where
  pub below : most < s
  pub over : (y : ℕ) → u < y → y < bits → share u y ≤ most

-- what the scan of row u for the share s found: a bit, or the row's largest share
abbrev pub Scanned : (ℕ → ℕ → ℕ) → ℕ → ℕ → ℕ → Result Bit ℕ → Type 0
Scanned share bits u s (Ok v) = Hit share bits u s v.0
Scanned share bits u s (Err most) = Miss share bits u s most

-- The pair of the largest share s, which is two or more, then of the smallest lower bit, then of the smallest higher bit.
pub record Picked (share : ℕ → ℕ → ℕ) (bits u v s : ℕ) : Type 0 where
  pub two : 2 ≤ s
  pub low : u < v
  pub high : v < bits
  pub here : share u v ≡ s
  pub most : (x y : ℕ) → x < y → y < bits → share x y ≤ s
  pub first : (x y : ℕ) → x < y → y < bits → x < u → share x y < s
  pub near : (y : ℕ) → u < y → y < v → share u y < s

-- no pair shares two or more
pub record NoPair (share : ℕ → ℕ → ℕ) (bits : ℕ) : Type 0 where
  pub few : (x y : ℕ) → x < y → y < bits → share x y < 2

-- the choice: that pair, at which the bounds begin to have its share, or none
abbrev pub Chosen : (ℕ → ℕ → ℕ) → ℕ → List ℕ → Option Pair → Type 0
Chosen share bits bound (Some p) = Picked share bits p.low.0 p.high.0 p.share × Head bound bits p.low.0 p.share
Chosen share bits bound None = NoPair share bits

-- The bounds below i took in the shares of two or more of z: none fell, and none rose above both its old value and that share. The bound of z is 0.
pub record Raised (share : ℕ → ℕ → ℕ) (z : ℕ) (bound bound' : List ℕ) (i : ℕ) : Type 0 where
  pub kept : (x : ℕ) → x < z → get_or bound x 0 ≤ get_or bound' x 0
  pub over : (x : ℕ) → x < i → 2 ≤ share x z → share x z ≤ get_or bound' x 0
  pub few : (x t : ℕ) → x < z → get_or bound x 0 ≤ t → share x z ≤ t → get_or bound' x 0 ≤ t
  pub last : get_or bound' z 0 ≡ 0
