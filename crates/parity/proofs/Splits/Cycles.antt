-- Lemma 3 of document 000, sharp: a split of a pair with share s takes away at least s (s - 1) / 2 cycles. Assumes nothing.
use mathlib.Core.Path.{◌≡◌, refl, sym}
use mathlib.Core.Bool.{Bool, true, false, not, cond, ◌&&◌, and-false, or-true, or_comm, and_comm}
use Prim.Native.Nat.{ℕ, suc, ◌+◌, ◌≤◌, ◌<◌}
use native.Mathlib.Omega.{arith}
use native.Mathlib.Decide.{ℕ_discrete}
use lib.Dec.{eqb}
use borrow.Author.Tests.{eq-eqb, ne_eqb}
use Rattle.parity.specs.Finite.{one, sum, count}
use Rattle.parity.specs.Matrix.{Matrix}
use Rattle.parity.specs.Cycles.{share, pairs, cycles, split_of}
use Rattle.parity.proofs.Finite.Sums.{sum_cong, sum_le, sum_add, sum_zero, sum_at}
use Rattle.parity.proofs.Splits.Split.{at_new_bit, at_other, at_u, at_v}
use Rattle.parity.proofs.Splits.Pairs.{pairs_add, tri, tri_cong, row, cut, cut_cong, star}

pub share_comm : (h : Matrix) (M i j : ℕ) → share h M i j ≡ share h M j i
unfolding share count
share_comm h M i j = sum_cong M (λ c k. rw (and_comm (h c i) (h c j)))

-- the cycles through two bits
abbrev pub weight : Matrix → ℕ → ℕ → ℕ → ℕ
weight h M i j = pairs (share h M i j)

pairs_one : pairs 1 ≡ 0
unfolding pairs
pairs_one = refl

first_left : (a b t : Bool) → one ((a && not b) && t) + one ((a && b) && t) ≡ one (a && t)
first_left true true t = omega arith
first_left true false t = omega arith
first_left false b t = refl

second_left : (a b t : Bool) → one ((b && not a) && t) + one ((a && b) && t) ≡ one (b && t)
second_left true true t = omega arith
second_left true false t = refl
second_left false true t = omega arith
second_left false false t = refl

apart : (a b : Bool) → one ((a && not b) && (b && not a)) ≡ 0
apart true true = refl
apart true false = refl
apart false b = refl

gone_first : (a b : Bool) → one ((a && not b) && (a && b)) ≡ 0
gone_first true true = refl
gone_first true false = refl
gone_first false b = refl

gone_second : (a b : Bool) → one ((b && not a) && (a && b)) ≡ 0
gone_second true true = refl
gone_second true false = refl
gone_second false true = refl
gone_second false false = refl

module _ (h : Matrix) (N M u v : ℕ) where
  pub new_other : (b : ℕ) → (b ≡ u → ⊥) → (b ≡ v → ⊥) → (b ≡ N → ⊥) → split_of h N M u v M b ≡ false
  unfolding split_of
  new_other b du dv dn = rw (eq-eqb M M refl, ne_eqb b u du, ne_eqb b v dv, ne_eqb b N dn)

  pub new_u : split_of h N M u v M u ≡ true
  unfolding split_of
  new_u = rw (eq-eqb M M refl, eq-eqb u u refl)

  pub new_v : split_of h N M u v M v ≡ true
  unfolding split_of
  new_v = rw (eq-eqb M M refl, eq-eqb v v refl, or-true)

  pub new_z : split_of h N M u v M N ≡ true
  unfolding split_of
  new_z = rw (eq-eqb M M refl, eq-eqb N N refl, or-true)

  -- how many checks contain u, v and t
  pub three : ℕ → ℕ
  three t = count M (λ c. (h c u && h c v) && h c t)

  module _ (un : u < N) (vn : v < N) (uv : u ≡ v → ⊥) where
    -- the shares after the split
    pub share_other : (i j : ℕ) → i < N → j < N → (i ≡ u → ⊥) → (i ≡ v → ⊥) → (j ≡ u → ⊥) → (j ≡ v → ⊥)
        → share (split_of h N M u v) (suc M) i j ≡ share h M i j
    unfolding share count sum
    share_other i j ni nj iu iv ju jv =
        rw (new_other i iu iv (λ q. omega arith))
        (omega (
          arith,
          sum_cong M {f = λ c. one (split_of h N M u v c i && split_of h N M u v c j)} {g = λ c. one (h c i && h c j)}
              (λ c k. rw (at_other h N M u v c i (λ q. omega arith) (λ q. omega arith) iu iv, at_other h N M u v c j (λ q. omega arith) (λ q. omega arith) ju jv)),
        ))

    module _ (t : ℕ) (tn : t < N) (tu : t ≡ u → ⊥) (tv : t ≡ v → ⊥) where
      pub share_u : share (split_of h N M u v) (suc M) u t + three t ≡ share h M u t
      unfolding share count sum three
      share_u = rw (new_other t tu tv (λ q. omega arith), and-false)
          (omega (
            arith,
            sum_add M (λ c. one (split_of h N M u v c u && split_of h N M u v c t)) (λ c. one ((h c u && h c v) && h c t)),
            sum_cong M {f = λ c. one (split_of h N M u v c u && split_of h N M u v c t) + one ((h c u && h c v) && h c t)} {g = λ c. one (h c u && h c t)}
                (λ c k. rw (at_u h N M u v un vn c (λ q. omega arith), at_other h N M u v c t (λ q. omega arith) (λ q. omega arith) tu tv) (first_left (h c u) (h c v) (h c t))),
          ))

      pub share_v : share (split_of h N M u v) (suc M) v t + three t ≡ share h M v t
      unfolding share count sum three
      share_v = rw (new_other t tu tv (λ q. omega arith), and-false)
          (omega (
            arith,
            sum_add M (λ c. one (split_of h N M u v c v && split_of h N M u v c t)) (λ c. one ((h c u && h c v) && h c t)),
            sum_cong M {f = λ c. one (split_of h N M u v c v && split_of h N M u v c t) + one ((h c u && h c v) && h c t)} {g = λ c. one (h c v && h c t)}
                (λ c k. rw (at_v h N M u v un vn c (λ q. omega arith), at_other h N M u v c t (λ q. omega arith) (λ q. omega arith) tu tv) (second_left (h c u) (h c v) (h c t))),
          ))

      pub share_z : share (split_of h N M u v) (suc M) t N ≡ three t
      unfolding share count sum three
      share_z = rw (new_other t tu tv (λ q. omega arith))
          (omega (
            arith,
            sum_cong M {f = λ c. one (split_of h N M u v c t && split_of h N M u v c N)} {g = λ c. one ((h c u && h c v) && h c t)}
                (λ c k. rw (at_new_bit h N M u v c (λ q. omega arith), at_other h N M u v c t (λ q. omega arith) (λ q. omega arith) tu tv, and_comm (h c t) (h c u && h c v))),
          ))

    pub share_uv : share (split_of h N M u v) (suc M) u v ≡ 1
    unfolding share count sum
    share_uv = rw (new_u, new_v) (omega (
      arith,
      sum_zero M {f = λ c. one (split_of h N M u v c u && split_of h N M u v c v)}
          (λ c k. rw (at_u h N M u v un vn c (λ q. omega arith), at_v h N M u v un vn c (λ q. omega arith)) (apart (h c u) (h c v))),
    ))

    pub share_uz : share (split_of h N M u v) (suc M) u N ≡ 1
    unfolding share count sum
    share_uz = rw (new_u, new_z) (omega (
      arith,
      sum_zero M {f = λ c. one (split_of h N M u v c u && split_of h N M u v c N)}
          (λ c k. rw (at_u h N M u v un vn c (λ q. omega arith), at_new_bit h N M u v c (λ q. omega arith)) (gone_first (h c u) (h c v))),
    ))

    pub share_vz : share (split_of h N M u v) (suc M) v N ≡ 1
    unfolding share count sum
    share_vz = rw (new_v, new_z) (omega (
      arith,
      sum_zero M {f = λ c. one (split_of h N M u v c v && split_of h N M u v c N)}
          (λ c k. rw (at_v h N M u v un vn c (λ q. omega arith), at_new_bit h N M u v c (λ q. omega arith)) (gone_second (h c u) (h c v))),
    ))

    -- what each bit t is charged: its pairs with u, v and the new bit after the split, against those with u and v before it
    charge : (t : ℕ) → t < N
        → row u (weight (split_of h N M u v) (suc M)) t + row v (cut u (weight (split_of h N M u v) (suc M))) t
        + weight (split_of h N M u v) (suc M) t N + cond (eqb t v) (pairs (share h M u v)) 0
        ≤ row u (weight h M) t + row v (cut u (weight h M)) t
    charge t tn =
        elim (ℕ_discrete t u) [
          | yes q ↦ rw (q, eq-eqb u u refl, ne_eqb u v uv, or-true, share_uz) (omega (arith, pairs_one))
          | no tu ↦ elim (ℕ_discrete t v) [
            | yes q ↦ rw (q, eq-eqb v v refl, ne_eqb v u (λ e. uv (sym e)), share_uv, share_vz) (omega (arith, pairs_one))
            | no tv ↦ rw (ne_eqb t u tu, ne_eqb t v tv, ne_eqb v u (λ e. uv (sym e)), share_z t tn tu tv, ← share_u t tn tu tv, ← share_v t tn tu tv)
                (omega (arith, pairs_add (share (split_of h N M u v) (suc M) u t) (three t), pairs_add (share (split_of h N M u v) (suc M) v t) (three t)))
          ]
        ]

    weight_sym : (g : Matrix) (K i j : ℕ) → weight g K i j ≡ weight g K j i
    weight_sym g K i j = rw (share_comm g K i j)

    cut_sym : (g : Matrix) (K i j : ℕ) → cut u (weight g K) i j ≡ cut u (weight g K) j i
    cut_sym g K i j = rw (share_comm g K i j, or_comm (eqb i u) (eqb j u))

    rest : tri N (cut v (cut u (weight (split_of h N M u v) (suc M)))) ≡ tri N (cut v (cut u (weight h M)))
    rest = tri_cong N (λ i j k l. cut_cong v i j (cut u (weight (split_of h N M u v) (suc M))) (cut u (weight h M)) (λ iv jv.
        cut_cong u i j (weight (split_of h N M u v) (suc M)) (weight h M) (λ iu ju. rw (share_other i j (omega arith) l iu iv ju jv))))

    pub split_cycles : cycles (split_of h N M u v) (suc N) (suc M) + pairs (share h M u v) ≤ cycles h N M
    unfolding cycles tri sum
    split_cycles =
        let W = weight h M in
        let W' = weight (split_of h N M u v) (suc M) in
        let s = pairs (share h M u v) in
        omega (
          arith,
          star N u W un (weight_sym h M),
          star N v (cut u W) vn (cut_sym h M),
          star N u W' un (weight_sym (split_of h N M u v) (suc M)),
          star N v (cut u W') vn (cut_sym (split_of h N M u v) (suc M)),
          rest,
          sum_le N {f = λ t. row u W' t + row v (cut u W') t + W' t N + cond (eqb t v) s 0} {g = λ t. row u W t + row v (cut u W) t} charge,
          sum_add N (λ t. row u W' t + row v (cut u W') t + W' t N) (λ t. cond (eqb t v) s 0),
          sum_add N (λ t. row u W' t + row v (cut u W') t) (λ t. W' t N),
          sum_add N (row u W') (row v (cut u W')),
          sum_add N (row u W) (row v (cut u W)),
          sum_at N v s vn,
        )
