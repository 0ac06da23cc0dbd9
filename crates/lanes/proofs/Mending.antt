-- A plan carried out in the lanes of a tile, and tile by tile. Assumes nothing.
use mathlib.Core.Path.{◌≡◌, refl, sym, ◌∙◌, fun_ext}
use mathlib.Core.Bool.{Bool, false, and-false}
use mathlib.Core.List.{List}
use Prim.Native.Nat.{ℕ, ◌+◌, ◌*◌, ◌-◌, ◌/◌, ◌%◌, ◌^◌, ◌≤◌, ◌<◌}
use native.Mathlib.Nat.{mul-le-mul_right, zero-div}
use native.Mathlib.Omega.{arith}
use native.Mathlib.Decide.{dec_lt}
use lib.ListN.{length, replicate, get_or-eq_default}
use Rattle.parity.specs.Matrix.{Matrix, bit_of, lent}
use Rattle.parity.proofs.Matrix.Lent.{lent_empty}
use Rattle.lanes.specs.Lanes.{lane, Lists, lists_of, ran, Ran, Tested, peeling, mending, contradicted, Mends}
use Rattle.lanes.specs.Tiles.{arrived, Loaded, Stored, Flagged, Mended, Empty, Ready, TileMended}
use Rattle.lanes.proofs.Running.{ran_other}

-- the steps and tests in their order
pub mends_all : (h k : Matrix) (B M : ℕ) (cs bs : List ℕ) (s : ℕ) (skip : ℕ → Bool) (none : List ℕ) (r L : ℕ) (ds ps : List ℕ) (t : ℕ) (x x₁ x₂ : Matrix) (f f₁ f₂ : ℕ → Bool)
    → ((j : ℕ) → f j ≡ false) → Ran h B cs bs s x x₁ → Tested h B 0 M skip x₁ f f₁ → none ≡ replicate 8 0 → Tested k B r L (lent 8 none 0) x₁ f₁ f₂ → Ran k B ds ps t x₁ x₂
    → Mends h k B M (lists_of cs bs s skip r L ds ps t) x x₂ f₂
unfolding peeling mending contradicted
mends_all h k B M cs bs s skip none r L ds ps t x x₁ x₂ f f₁ f₂ z R T e U Z = record {
  each = λ j b. Z.each j b ∙ rw (lanes j);
  flags = λ j. U.at j ∙ rw (T.at j, z j, empty, lanes j);
}
  where
    lanes : (j : ℕ) → lane x₁ j ≡ ran h B cs bs s (lane x j)
    lanes j = fun_ext (R.each j)

    empty : lent 8 none 0 ≡ (λ c. false)
    empty = fun_ext (λ c. lent_empty 8 8 none e 0 c)

-- a tile that is not used yet
pub empty_tile : (n lanes : ℕ) (tile : List ℕ) → tile ≡ replicate 2048 0 → Empty n (lent lanes tile)
empty_tile n lanes tile e = record { none = λ b j l. lent_empty lanes 2048 tile e b j }

-- packets that are not there
pub no_packet : (len n : ℕ) (xs : List ℕ) → length xs ≡ n * len → (b i : ℕ) → n ≤ b → lent len xs b i ≡ false
unfolding lent bit_of
no_packet len n xs e b i k =
    rw (get_or-eq_default xs 0 {n = b * len + i / 64} (omega (arith, mul-le-mul_right len k)), zero-div (2 ^ (i % 64)), and-false)

-- rows of bits that no step names stay
pub mending_other : (h k : Matrix) (B M n : ℕ) (p : Lists) → Ready n M p → (o : ℕ → Bool) (b : ℕ) → n ≤ b → mending h k B p o b ≡ o b
unfolding mending peeling
mending_other h k B M n p R o b l = ran_other k B p.rows p.pivots p.t n _ R.pivots b l ∙ ran_other h B p.checks p.bits p.s n o R.bits b l

module _ (h k : Matrix) (B M n : ℕ) (p : Lists) (R : Ready n M p) (lost left : ℕ → Bool) (from count : ℕ) (x x' : Matrix) (t t₁ t₂ : Matrix) (f' : ℕ → Bool)
    (E : Empty n t) (L : Loaded x lost from count n t t₁) (out : (b i : ℕ) → n ≤ b → x b i ≡ false) (X : Mends h k B M p t₁ t₂ f') where
  pub empty_still : Empty n t₂
  empty_still = record { none = λ b j l. X.each j b ∙ mending_other h k B M n p R (lane t₁ j) b l ∙ L.else b j l ∙ E.none b j l }

  -- a lane of the tile
  lanes : (j : ℕ) → j < count * 64 → lane t₁ j ≡ arrived x lost (from * 64 + j)
  unfolding arrived
  lanes j l = fun_ext (λ b. elim (dec_lt b n) [
    | yes i ↦ L.here b j i l
    | no i ↦ L.else b j (omega arith) ∙ E.none b j (omega arith) ∙ sym (rw (out b (from * 64 + j) (omega arith), and-false))
  ])

  flag_at : (j : ℕ) → j < count * 64 → f' j ≡ contradicted h k B M p (arrived x lost (from * 64 + j))
  flag_at j l = X.flags j ∙ rw (lanes j l)

  pub tile_mended : Stored lost left from count n t₂ f' x x' → (y y' : ℕ → Bool) → Flagged from count f' y y' → TileMended h k B M p lost left n from count x x' y y'
  tile_mended S y y' F = record {
    bits = λ b j i l. S.here b j i l ∙ rw (flag_at j l, X.each j b, lanes j l);
    flags = λ j l. F.here j l ∙ flag_at j l;
    before = S.before;
    behind = S.behind;
    flagged = F.before;
  }

-- tile by tile
module _ (h k : Matrix) (B M : ℕ) (p : Lists) (lost left : ℕ → Bool) (n : ℕ) (x : Matrix) where
  pub mended_none : (y : ℕ → Bool) → Mended h k B M p lost left n (0 * 64) x x y
  mended_none y = record { bits = λ b i k l. absurd (omega arith); flags = λ i l. absurd (omega arith); later = λ b i l. refl }

  pub mended_next : (from count : ℕ) (x₁ x₂ : Matrix) (y₁ y₂ : ℕ → Bool) → Mended h k B M p lost left n (from * 64) x x₁ y₁ → TileMended h k B M p lost left n from count x₁ x₂ y₁ y₂
      → Mended h k B M p lost left n ((from + count) * 64) x x₂ y₂
  mended_next from count x₁ x₂ y₁ y₂ A T = record {
    bits = λ b i u l. elim (dec_lt i (from * 64)) [
      | yes m ↦ T.before b i m ∙ A.bits b i u m
      | no m ↦ let e : from * 64 + (i - from * 64) ≡ i = omega arith in (rw (e, same i (omega arith), A.later b i (omega arith)) at (T.bits b (i - from * 64) u (omega arith)))
    ];
    flags = λ i l. elim (dec_lt i (from * 64)) [
      | yes m ↦ T.flagged i m ∙ A.flags i m
      | no m ↦ let e : from * 64 + (i - from * 64) ≡ i = omega arith in (rw (e, same i (omega arith)) at (T.flags (i - from * 64) (omega arith)))
    ];
    later = λ b i l. T.behind b i l ∙ A.later b i (omega arith);
  }
    where
      same : (i : ℕ) → from * 64 ≤ i → arrived x₁ lost i ≡ arrived x lost i
      same i l = unfold arrived in fun_ext (λ b. rw (A.later b i l))

pub ready_wider : (n B M : ℕ) (p : Lists) → n ≤ B → Ready n M p → Ready B M p
ready_wider n B M p l R = record {
  checks = R.checks;
  bits = record { low = λ i k. omega (arith, R.bits.low i k) };
  rows = R.rows;
  pivots = record { low = λ i k. omega (arith, R.pivots.low i k) };
  first = R.first;
}
