-- The table of pairs of bits. Assumes nothing.
use mathlib.Core.Path.{◌≡◌}
use mathlib.Core.Bool.{true}
use mathlib.Core.List.{List}
use Prim.Native.Nat.{ℕ, ◌*◌, ◌<◌}
use native.Mathlib.Omega.{arith}
use native.Mathlib.Decide.{ℕ_discrete, dec_lt}
use borrow.Author.Tests.{lt-ltb, le-ltb}
use Rattle.parity.specs.Matrix.{lent, put}
use Rattle.parity.proofs.Matrix.Lent.{put_here, put_row, put_place}
use Rattle.matrix.specs.Three.{row_of, place_of, paired, PairIn}

-- no two pairs have the same place
apart : (W a b c d : ℕ) → a < b → b < 64 * W → c < d → d < 64 * W → row_of W d ≡ row_of W b → place_of W c d ≡ place_of W a b → (c ≡ a) × (d ≡ b)
unfolding row_of place_of
apart W a b c d ab bl cd dl e f =
    elim (dec_lt b (32 * W)) [
      | yes p ↦ elim (dec_lt d (32 * W)) [
        | yes q ↦
            let e' = rw (lt-ltb b (32 * W) p, lt-ltb d (32 * W) q) at e in
            let f' = rw (lt-ltb b (32 * W) p, lt-ltb d (32 * W) q) at f in
            (omega arith, omega arith)
        | no q ↦
            let e' = rw (lt-ltb b (32 * W) p, le-ltb d (32 * W) (omega arith)) at e in
            let f' = rw (lt-ltb b (32 * W) p, le-ltb d (32 * W) (omega arith)) at f in
            absurd (omega arith)
      ]
      | no p ↦ elim (dec_lt d (32 * W)) [
        | yes q ↦
            let e' = rw (le-ltb b (32 * W) (omega arith), lt-ltb d (32 * W) q) at e in
            let f' = rw (le-ltb b (32 * W) (omega arith), lt-ltb d (32 * W) q) at f in
            absurd (omega arith)
        | no q ↦
            let e' = rw (le-ltb b (32 * W) (omega arith), le-ltb d (32 * W) (omega arith)) at e in
            let f' = rw (le-ltb b (32 * W) (omega arith), le-ltb d (32 * W) (omega arith)) at f in
            (omega arith, omega arith)
      ]
    ]

pub pair_in_lem : (W : ℕ) (ps₀ ps₁ : List ℕ) (a b : ℕ) → a < b → b < 64 * W → lent W ps₁ ≡ put (row_of W b) (place_of W a b) true (lent W ps₀) → PairIn W ps₀ ps₁ a b
unfolding paired
pair_in_lem W ps₀ ps₁ a b ab bl e = record {
  here = rw e (put_here (row_of W b) (place_of W a b) true (lent W ps₀));
  other = λ c d cd dl n. rw e (elim (ℕ_discrete (row_of W d) (row_of W b)) [
    | no r ↦ put_row (row_of W b) (place_of W a b) true (lent W ps₀) (row_of W d) (place_of W c d) r
    | yes r ↦ put_place (row_of W b) (place_of W a b) true (lent W ps₀) (row_of W d) (place_of W c d) (λ s. n (apart W a b c d ab bl cd dl r s))
  ]);
}
