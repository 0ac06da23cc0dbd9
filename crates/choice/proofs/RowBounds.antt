-- Row bounds: the largest, the scan of a row, the pair that they give, and how a split changes them. Assumes nothing.
use mathlib.Core.Path.{◌≡◌, sym, ◌∙◌}
use mathlib.Core.Bool.{true, true≢false}
use mathlib.Core.List.{List}
use Prim.Native.Nat.{ℕ, ◌+◌, ◌*◌, ◌-◌, ◌%◌, ◌≤◌, ◌<◌, max}
use native.Mathlib.Nat.{lt_of_le_of_lt}
use native.Mathlib.Omega.{arith}
use native.Mathlib.Decide.{ℕ_discrete, dec_le, dec_lt}
use lib.Count.{count_trailing_zeros}
use lib.ListN.{get_or, length, set}
use lib.Seq.{get_or-set_same, get_or-set_other}
use borrow.Author.Tests.{lt-ltb, le-ltb}
use Rattle.parity.specs.Finite.{sum}
use Rattle.parity.specs.Matrix.{bit_of}
use Rattle.parity.proofs.Finite.Sums.{is, is_true, is_false, sum_point}
use Rattle.parity.proofs.Matrix.Digits.{bit_zero}
use Rattle.parity.proofs.Matrix.Ones.{Lowest, trailing_lowest}
use Rattle.columns.specs.Planes.{number, Shares, From}
use Rattle.choice.specs.Numbers.{Best, Lifted}
use Rattle.columns.specs.declared.planes.Planes.{Planes}
use Rattle.choice.specs.Bounds.{Weights, Bounded, Head, Largest, Without, RowBelow, Narrow, Hit, Miss, Picked, NoPair, Raised}

-- the first bounds
pub weights_next : (share : ℕ → ℕ → ℕ) (bound : List ℕ) (x t : ℕ) → Weights share bound x → x < length bound → t ≡ share x x → Weights share (set bound x t) (x + 1)
weights_next share bound x t W l e = record {
  at = λ y k. elim (ℕ_discrete y x) [
    | yes q ↦ rw (q, get_or-set_same bound x t 0 l) e
    | no d ↦ rw (get_or-set_other bound x y t 0 d) (W.at y (omega arith))
  ];
}

module _ (share : ℕ → ℕ → ℕ) (bound : List ℕ) (bits : ℕ) (W : Weights share bound bits) where
  -- no two bits share more than either has
  pub weights_bound : ((x y : ℕ) → share x y ≤ share x x) → Bounded share bits bound
  weights_bound own = record { over = λ x y a b c. omega (arith, W.at x (omega arith), own x y) }

  pub weights_head : (top : ℕ) → ((x : ℕ) → share x x ≤ top) → Head bound bits 0 top
  weights_head top few = record { most = λ x l. rw (W.at x l) (few x); first = λ x l. absurd (omega arith) }

-- Row u up to v: no bit shares more than `most`, which is below s.
pub record RowTo (share : ℕ → ℕ → ℕ) (u s v most : ℕ) : Type 0 where
  pub low : u < v
  pub below : most < s
  pub over : (y : ℕ) → u < y → y < v → share u y ≤ most

-- the largest bound
pub largest_none : (bound : List ℕ) → Largest bound 0 0 0
largest_none bound = record { most = λ x k. absurd (omega arith); found = λ k. absurd (omega arith); first = λ x k. absurd (omega arith) }

module _ (bound : List ℕ) (i u s : ℕ) (L : Largest bound i u s) where
  pub largest_kept : get_or bound i 0 ≤ s → Largest bound (i + 1) u s
  largest_kept k = record {
    most = λ x l. elim (ℕ_discrete x i) [ yes q ↦ rw q k | no d ↦ L.most x (omega arith) ];
    found = λ l. let (a, b) = L.found l in (omega arith, b);
    first = L.first;
  }

  pub largest_taken : (t : ℕ) → t ≡ get_or bound i 0 → s < t → Largest bound (i + 1) i t
  largest_taken t e k = record {
    most = λ x l. elim (ℕ_discrete x i) [ yes q ↦ rw q (omega arith) | no d ↦ omega (arith, L.most x (omega arith)) ];
    found = λ l. (omega arith, sym e);
    first = λ x l. omega (arith, L.most x l);
  }

pub row_start : (share : ℕ → ℕ → ℕ) (u s i : ℕ) → i * 64 ≤ u + 1 → 0 < s → RowTo share u s (max (u + 1) (i * 64)) 0
row_start share u s i l k = record { low = omega arith; below = k; over = λ y a b. absurd (omega arith) }

pub row_miss : (share : ℕ → ℕ → ℕ) (bits u s v most : ℕ) → RowTo share u s v most → bits ≤ v → Miss share bits u s most
row_miss share bits u s v most R k = record { below = R.below; over = λ y a b. R.over y a (omega arith) }

-- one word more: its largest share at the bits above u, and the places of it
module _ (share : ℕ → ℕ → ℕ) (bits u s i most : ℕ) (R : RowTo share u s (max (u + 1) (i * 64)) most) (mask : ℕ) (F : From mask i (u + 1))
    (p : Planes) (S : Shares (share u) p i) (left value : ℕ) (B : Best p mask left value) (N : Narrow share bits) (two : 2 ≤ s) (A : RowBelow share bits u s) (here : u + 1 < i * 64 + 64) where
  at_most : (y : ℕ) → u < y → share u y ≤ s
  at_most y k = elim (dec_lt y bits) [ yes l ↦ A.over y k l | no l ↦ omega (arith, N.none u y (omega arith)) ]

  -- a bit of the word is above u exactly if it is in the mask
  masked : (t : ℕ) → t < 64 → u < i * 64 + t → bit_of mask t ≡ true
  masked t k l = F.at t k ∙ rw (le-ltb (i * 64 + t) (u + 1) (omega arith))

  unmasked : (t : ℕ) → t < 64 → bit_of mask t ≡ true → u < i * 64 + t
  unmasked t k e =
      elim (dec_lt (i * 64 + t) (u + 1)) [
        | yes l ↦ absurd (true≢false (sym e ∙ F.at t k ∙ rw (lt-ltb (i * 64 + t) (u + 1) l)))
        | no l ↦ omega arith
      ]

  left_some : left ≡ 0 → ⊥
  left_some e = F.some (B.some e)

  the_first : Lowest 64 left (count_trailing_zeros 64 left)
  the_first = trailing_lowest 64 left (lt_of_le_of_lt B.less F.fits) left_some

  value_most : value ≤ s
  value_most =
      let (m, n) = B.here _ the_first.here in
      omega (arith, S.at _ the_first.short, at_most _ (unmasked _ the_first.short m))

  pub word_hit : value ≡ s → Hit share bits u s (i * 64 + count_trailing_zeros 64 left)
  word_hit e =
      let t : ℕ = count_trailing_zeros 64 left in
      let short : t < 64 = the_first.short in
      let (m, n) = B.here t the_first.here in
      let q : share u (i * 64 + t) ≡ s = omega (arith, S.at t short) in
      record {
        high = elim (dec_lt (i * 64 + t) bits) [ yes l ↦ l | no l ↦ absurd (omega (arith, N.none u (i * 64 + t) (omega arith))) ];
        low = unmasked t short m;
        here = q;
        near = λ y a b. elim (dec_lt y (max (u + 1) (i * 64))) [
          | yes c ↦ omega (arith, R.over y a c, R.below)
          | no c ↦
              let w : i * 64 + (y - i * 64) ≡ y = omega arith in
              let j : y - i * 64 < t = omega arith in
              omega (arith, rw w at (S.at (y - i * 64) (omega arith)), B.below (y - i * 64) (omega arith) (masked (y - i * 64) (omega arith) (omega arith)) (the_first.none (y - i * 64) j))
        ];
      }

  pub word_next : (value ≡ s → ⊥) → RowTo share u s (max (u + 1) ((i + 1) * 64)) (max most value)
  word_next d = record {
    low = omega arith;
    below = omega (arith, R.below, value_most);
    over = λ y a b. elim (dec_lt y (max (u + 1) (i * 64))) [
      | yes c ↦ omega (arith, R.over y a c)
      | no c ↦
          let w : i * 64 + (y - i * 64) ≡ y = omega arith in
          let j : y - i * 64 < 64 = omega arith in
          let n = rw w at (S.at (y - i * 64) j) in
          elim (is (bit_of left (y - i * 64))) [
            | is_true f ↦ omega (arith, (B.here (y - i * 64) f).1)
            | is_false f ↦ omega (arith, B.below (y - i * 64) j (masked (y - i * 64) j (omega arith)) f)
          ]
    ];
  }

-- no share in the row with the largest bound is above it
pub row_below : (share : ℕ → ℕ → ℕ) (bits u s : ℕ) (bound : List ℕ) → Bounded share bits bound → get_or bound u 0 ≡ s → 2 ≤ s → RowBelow share bits u s
row_below share bits u s bound B e k = record {
  over = λ y l m. elim (dec_le 2 (share u y)) [ yes a ↦ omega (arith, B.over u y l m a) | no a ↦ omega arith ];
}

module _ (share : ℕ → ℕ → ℕ) (bits : ℕ) (bound : List ℕ) (B : Bounded share bits bound) (u s : ℕ) (L : Largest bound bits u s) where
  pub pick_none : s < 2 → NoPair share bits
  pick_none k = record {
    few = λ x y a b. elim (dec_le 2 (share x y)) [ yes c ↦ absurd (omega (arith, B.over x y a b c, L.most x (omega arith))) | no c ↦ omega arith ];
  }

  module _ (two : 2 ≤ s) where
    pub pick_found : (v : ℕ) → Hit share bits u s v → Picked share bits u v s
    pick_found v S =
        record {
          two = two;
          low = S.low;
          high = S.high;
          here = S.here;
          most = λ x y i j. elim (dec_le 2 (share x y)) [ yes p ↦ omega (arith, B.over x y i j p, L.most x (omega arith)) | no p ↦ omega arith ];
          first = λ x y i j c. elim (dec_le 2 (share x y)) [ yes p ↦ omega (arith, B.over x y i j p, L.first x c) | no p ↦ omega arith ];
          near = S.near;
        }

    module _ (t : ℕ) (S : Miss share bits u s t) (long : u < length bound) where
      pub pick_lower : Bounded share bits (set bound u t)
      pick_lower = record {
        over = λ x y i j c.
            elim (ℕ_discrete x u) [
              | yes q ↦ rw (q, get_or-set_same bound u t 0 long) (S.over y (omega arith) j)
              | no d ↦ rw (get_or-set_other bound u x t 0 d) (B.over x y i j c)
            ];
      }

      pub pick_falls : sum bits (λ x. get_or (set bound u t) x 0) < sum bits (λ x. get_or bound x 0)
      pick_falls =
          let (a, b) = L.found (omega arith) in
          let p = sum_point bits u {f = λ x. get_or (set bound u t) x 0} {g = λ x. get_or bound x 0} a (λ x i d. get_or-set_other bound u x t 0 d) in
          omega (arith, rw (get_or-set_same bound u t 0 long) at p, S.below)

-- After a split: no old share is larger, and the shares of the new bit z were taken in.
pub bounded_split : (share share' : ℕ → ℕ → ℕ) (z : ℕ) (bound bound' : List ℕ) → Bounded share z bound
    → ((x y : ℕ) → x < z → y < z → share' x y ≤ share x y) → Raised share' z bound bound' z → Bounded share' (z + 1) bound'
bounded_split share share' z bound bound' B f R = record {
  over = λ x y a b c.
      elim (ℕ_discrete y z) [
        | yes q ↦ rw q (R.over x (omega arith) (rw q at c))
        | no d ↦ omega (arith, f x y (omega arith) (omega arith), B.over x y a (omega arith) (omega (arith, f x y (omega arith) (omega arith))), R.kept x (omega arith))
      ];
}

-- taking in the shares of the new bit, word by word
pub record Raising (share : ℕ → ℕ → ℕ) (z : ℕ) (bound bound' : List ℕ) (i : ℕ) : Type 0 where
  pub kept : (x : ℕ) → get_or bound x 0 ≤ get_or bound' x 0
  pub over : (x : ℕ) → x < i * 64 → 2 ≤ share x z → share x z ≤ get_or bound' x 0
  pub few : (x t : ℕ) → get_or bound x 0 ≤ t → share x z ≤ t → get_or bound' x 0 ≤ t

pub raising_none : (share : ℕ → ℕ → ℕ) (z : ℕ) (bound : List ℕ) → Raising share z bound bound 0
raising_none share z bound = record { kept = λ x. omega arith; over = λ x k. absurd (omega arith); few = λ x t a b. a }

pub raising_next : (share : ℕ → ℕ → ℕ) → ((x y : ℕ) → share x y ≡ share y x) → (z : ℕ) (bound₀ bound bound' : List ℕ) (i : ℕ) (p : Planes)
    → Raising share z bound₀ bound i → Shares (share z) p i → Lifted p i bound bound' 0 → Raising share z bound₀ bound' (i + 1)
raising_next share comm z bound₀ bound bound' i p R S L = record {
  kept = λ x. omega (arith, R.kept x, L.kept x);
  over = λ x k a. elim (dec_lt x (i * 64)) [
    | yes l ↦ omega (arith, R.over x l a, L.kept x)
    | no l ↦
        let e : i * 64 + x % 64 ≡ x = omega arith in
        let n : number p (x % 64) ≡ share x z = S.at (x % 64) (omega arith) ∙ rw e (comm z x) in
        rw (← n) (rw e at (L.over (x % 64) (omega arith) (bit_zero (x % 64)) (omega arith)))
  ];
  few = λ x t a b. L.few x t (R.few x t a b) (λ q.
      let e : i * 64 + x % 64 ≡ x = omega arith in
      let n : number p (x % 64) ≡ share x z = S.at (x % 64) (omega arith) ∙ rw e (comm z x) in
      omega arith);
}

pub raising_all : (share : ℕ → ℕ → ℕ) (z : ℕ) (bound bound' : List ℕ) (i : ℕ) → Raising share z bound bound' i → z ≤ i * 64 → z < length bound' → Raised share z bound (set bound' z 0) z
raising_all share z bound bound' i R k l = record {
  kept = λ x a. rw (get_or-set_other bound' z x 0 0 (λ q. omega arith)) (R.kept x);
  over = λ x a. rw (get_or-set_other bound' z x 0 0 (λ q. omega arith)) (R.over x (omega arith));
  few = λ x t a. rw (get_or-set_other bound' z x 0 0 (λ q. omega arith)) (R.few x t);
  last = get_or-set_same bound' z 0 0 l;
}

-- the first row that has the cap
pub without_none : (bound : List ℕ) (from cap : ℕ) → Without bound from cap from
without_none bound from cap = record { none = λ y a b. absurd (omega arith) }

pub without_next : (bound : List ℕ) (from cap x : ℕ) → Without bound from cap x → (get_or bound x 0 ≡ cap → ⊥) → Without bound from cap (x + 1)
without_next bound from cap x L d = record { none = λ y a b e. elim (ℕ_discrete y x) [ yes q ↦ d (rw q at e) | no n ↦ L.none y a (omega arith) e ] }

pub without_end : (bound : List ℕ) (from cap x bits : ℕ) → Without bound from cap x → bits ≤ x → Without bound from cap bits
without_end bound from cap x bits L k = record { none = λ y a b. L.none y a (omega arith) }

pub head_top : (bound : List ℕ) (bits from cap x : ℕ) → Head bound bits from cap → Without bound from cap x → x < bits → get_or bound x 0 ≡ cap → Largest bound bits x cap
head_top bound bits from cap x H F k e = record {
  most = H.most;
  found = λ l. (k, e);
  first = λ y l. elim (dec_lt y from) [
    | yes a ↦ H.first y a
    | no a ↦ elim (ℕ_discrete (get_or bound y 0) cap) [ yes q ↦ absurd (F.none y (omega arith) l q) | no d ↦ omega (arith, H.most y (omega arith)) ]
  ];
}

pub largest_head : (bound : List ℕ) (bits u s : ℕ) → Largest bound bits u s → Head bound bits u s
largest_head bound bits u s L = record { most = L.most; first = L.first }

pub lowered_head : (bound : List ℕ) (bits u s t : ℕ) → Largest bound bits u s → t < s → u < length bound → Head (set bound u t) bits (u + 1) s
lowered_head bound bits u s t L k l = record {
  most = λ x a. elim (ℕ_discrete x u) [ yes q ↦ rw (q, get_or-set_same bound u t 0 l) (omega arith) | no d ↦ rw (get_or-set_other bound u x t 0 d) (L.most x a) ];
  first = λ x a. elim (ℕ_discrete x u) [ yes q ↦ rw (q, get_or-set_same bound u t 0 l) k | no d ↦ rw (get_or-set_other bound u x t 0 d) (L.first x (omega arith)) ];
}

-- The bounds begin to have the share of the pair no sooner: those of the new bit are at most that share, and below it in the rows before.
pub raised_head : (share share' : ℕ → ℕ → ℕ) (z u v s : ℕ) (bound bound' : List ℕ) → Picked share z u v s → Head bound z u s → Raised share' z bound bound' z
    → ((x : ℕ) → x < z → share' x z ≤ share u v) → ((x : ℕ) → x < z → share' x z ≤ share x u) → Head bound' (z + 1) u s
raised_head share share' z u v s bound bound' P H R pair row =
    let a = P.low in
    let b = P.high in
    let c = P.two in
    record {
      most = λ x k. elim (ℕ_discrete x z) [
        | yes q ↦ rw q (omega (arith, R.last))
        | no d ↦ R.few x s (omega arith) (H.most x (omega arith)) (omega (arith, pair x (omega arith), P.here))
      ];
      first = λ x k. omega (arith, R.few x (s - 1) (omega arith) (omega (arith, H.first x k)) (omega (arith, row x (omega arith), P.first x u k (omega arith) k)));
    }
