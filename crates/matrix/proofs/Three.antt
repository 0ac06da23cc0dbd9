-- Rule A for one added check, from its weight and its two lowest bits. Assumes nothing.
use mathlib.Core.Path.{◌≡◌, refl, sym, ap, ◌∙◌}
use mathlib.Core.Bool.{true, false, not, ◌&&◌, true≢false, false≢true}
use Prim.Native.Nat.{ℕ, suc, ◌+◌, ◌≤◌, ◌<◌}
use native.Mathlib.Omega.{arith}
use native.Mathlib.Decide.{ℕ_discrete, dec_lt}
use native.Mathlib.Numerals.{add-one}
use borrow.Author.Tests.{eq-eqb, ne_eqb, not-true}
use Rattle.parity.specs.Finite.{sum, count}
use Rattle.parity.specs.Matrix.{Matrix, no_other, rule_at}
use Rattle.parity.proofs.Finite.Sums.{is_true, is_false, is, all_at, all_of, count_suc, count_mono, count_end}
use Rattle.parity.proofs.Matrix.Rule.{rule, alone_share, share_alone, Place, first, second, new}
use Rattle.rows.specs.Rows.{NextOne}
use Rattle.columns.specs.Three.{two}
use Rattle.columns.proofs.Apart.{two_false, two_none}
use Rattle.matrix.specs.Three.{OnlyIn, Three}

-- a bit of the check is one of the three
pub one_of_three : (h : Matrix) (c x y z : ℕ) → Three h c x y z → (b : ℕ) → h c b ≡ true → Place x y z b
one_of_three h c x y z T b e =
    elim (ℕ_discrete b x) [
      | yes q ↦ first q
      | no dx ↦ elim (ℕ_discrete b y) [
        | yes q ↦ second q
        | no dy ↦ elim (ℕ_discrete b z) [ yes q ↦ new q | no dz ↦ absurd (false≢true (sym (T.others b dx dy dz) ∙ e)) ]
      ]
    ]

-- its weight, its own bit, and the lowest bits, by the search for the next one
module _ (T : ℕ) (h : Matrix) (n m k j : ℕ) (jk : j < k) (end : (b : ℕ) → n + k ≤ b → h (m + j) b ≡ false) (few : n + k ≤ T) where
  total : count T (h (m + j)) ≡ count (n + k) (h (m + j))
  total = count_end (n + k) T (h (m + j)) few (λ b l k. end b l)

  -- another weight than three
  pub not_three : (count T (h (m + j)) ≡ 3 → ⊥) → rule_at h n m k j ≡ false
  not_three d = elim (is (rule_at h n m k j)) [ is_false q ↦ q | is_true q ↦ absurd (d (total ∙ ((rule h n m k j jk).0 q).all3)) ]

  -- its own bit is missing
  pub not_own : h (m + j) (n + j) ≡ false → rule_at h n m k j ≡ false
  not_own d = elim (is (rule_at h n m k j)) [ is_false q ↦ q | is_true q ↦ absurd (true≢false (sym ((rule h n m k j jk).0 q).own ∙ d)) ]

  module _ (three : count T (h (m + j)) ≡ 3) (x : ℕ) (A : NextOne T (h (m + j)) 0 x) where
    none_below : count x (h (m + j)) ≡ 0
    none_below = count_end 0 x (h (m + j)) (omega arith) (λ c l k. A.none c l k) ∙ unfold count sum in refl

    pub first_below : x < T
    first_below =
        elim (dec_lt x T) [
          | yes l ↦ l
          | no l ↦ let e : x ≡ T = omega (arith, A.top) in absurd (omega (arith, rw e at none_below, three))
        ]

    module _ (y : ℕ) (B : NextOne T (h (m + j)) (x + 1) y) where
      one_below : count y (h (m + j)) ≡ 1
      one_below =
          count_end (x + 1) y (h (m + j)) B.least (λ c l k. B.none c l k)
          ∙ rw (add-one x, count_suc x (h (m + j)), A.found first_below) (omega (arith, none_below))

      -- fewer than two bits are below its own
      pub not_lower : n + j ≤ y → rule_at h n m k j ≡ false
      not_lower l =
          elim (is (rule_at h n m k j)) [
            | is_false q ↦ q
            | is_true q ↦ absurd (omega (arith, ((rule h n m k j jk).0 q).two, count_mono (n + j) y (h (m + j)) l, one_below))
          ]

      module _ (own : h (m + j) (n + j) ≡ true) (yz : y < n + j) where
        two_below : count (suc y) (h (m + j)) ≡ 2
        two_below = rw (count_suc y (h (m + j)), B.found (omega arith)) (omega (arith, one_below))

        -- two bits above these are too many
        no_fourth : (b d : ℕ) → suc y ≤ b → b < d → d < T → h (m + j) b ≡ true → h (m + j) d ≡ true → ⊥
        no_fourth b d yb bd dT e f =
            omega (
              arith,
              two_below,
              count_mono (suc y) b (h (m + j)) yb,
              rw e at (count_suc b (h (m + j))),
              count_mono (suc b) d (h (m + j)) bd,
              rw f at (count_suc d (h (m + j))),
              count_mono (suc d) T (h (m + j)) dT,
              three,
            )

        -- above the second one its own bit is the last
        last : (b : ℕ) → suc y ≤ b → (b ≡ n + j → ⊥) → h (m + j) b ≡ false
        last b l d =
            elim (is (h (m + j) b)) [
              | is_false e ↦ e
              | is_true e ↦ elim (dec_lt b (n + j)) [
                | yes v ↦ absurd (no_fourth b (n + j) l v (omega arith) e own)
                | no v ↦ elim (dec_lt b (n + k)) [ yes w ↦ absurd (no_fourth (n + j) b yz (omega arith) (omega arith) own e) | no w ↦ end b (omega arith) ]
              ]
            ]

        pub these_three : Three h (m + j) x y (n + j)
        these_three = record {
          xy = omega (arith, B.least);
          yz = yz;
          in_x = A.found first_below;
          in_y = B.found (omega arith);
          in_z = own;
          others = λ b dx dy dz. elim (dec_lt b x) [
            | yes l ↦ A.none b (omega arith) l
            | no l ↦ elim (dec_lt b y) [
              | yes u ↦ B.none b (omega arith) u
              | no u ↦ last b (omega arith) dz
            ]
          ];
        }

-- an added check of three bits
module _ (h : Matrix) (n m k j : ℕ) (jk : j < k) (x y : ℕ) (T : Three h (m + j) x y (n + j)) where
  up_to_x : count x (h (m + j)) ≡ 0
  up_to_x = count_end 0 x (h (m + j)) (omega arith) (λ b l u. T.others b (λ q. omega arith) (λ q. omega (arith, T.xy)) (λ q. omega (arith, T.xy, T.yz))) ∙ unfold count sum in refl

  up_to_y : count y (h (m + j)) ≡ 1
  up_to_y =
      count_end (suc x) y (h (m + j)) T.xy (λ b l u. T.others b (λ q. omega arith) (λ q. omega arith) (λ q. omega (arith, T.yz)))
      ∙ rw (count_suc x (h (m + j)), T.in_x) (omega (arith, up_to_x))

  lower_two : count (n + j) (h (m + j)) ≡ 2
  lower_two =
      count_end (suc y) (n + j) (h (m + j)) T.yz (λ b l u. T.others b (λ q. omega (arith, T.xy)) (λ q. omega arith) (λ q. omega arith))
      ∙ rw (count_suc y (h (m + j)), T.in_y) (omega (arith, up_to_y))

  all_three : count (n + k) (h (m + j)) ≡ 3
  all_three =
      count_end (suc (n + j)) (n + k) (h (m + j)) (omega arith) (λ b l u. T.others b (λ q. omega (arith, T.xy, T.yz)) (λ q. omega (arith, T.yz)) (λ q. omega arith))
      ∙ rw (count_suc (n + j) (h (m + j)), T.in_z) (omega (arith, lower_two))

  -- two bits of which no other check has both
  pair_alone : OnlyIn h (m + k) (m + j) x y (n + j) → (p q : ℕ) → p < q → h (m + j) p ≡ true → h (m + j) q ≡ true → no_other h (m + k) (m + j) p q ≡ true
  unfolding no_other
  pair_alone O p q pq hp hq = all_of (m + k) _ (λ d dl. elim (ℕ_discrete d (m + j)) [
    | yes r ↦ rw (eq-eqb d (m + j) r)
    | no r ↦ rw (ne_eqb d (m + j) r) (ap not (apart d (O.only d dl r)))
  ])
    where
      apart : (d : ℕ) → two h x y (n + j) d ≡ false → (h d p && h d q) ≡ false
      apart d e =
          let (ab, az, bz) = two_false (h d x) (h d y) (h d (n + j)) e in
          elim (one_of_three h (m + j) x y (n + j) T p hp) [
            | first s ↦ elim (one_of_three h (m + j) x y (n + j) T q hq) [
              | first t ↦ absurd (omega arith)
              | second t ↦ rw (s, t) ab
              | new t ↦ rw (s, t) az
            ]
            | second s ↦ elim (one_of_three h (m + j) x y (n + j) T q hq) [
              | first t ↦ absurd (omega (arith, T.xy))
              | second t ↦ absurd (omega arith)
              | new t ↦ rw (s, t) bz
            ]
            | new s ↦ elim (one_of_three h (m + j) x y (n + j) T q hq) [
              | first t ↦ absurd (omega (arith, T.xy, T.yz))
              | second t ↦ absurd (omega (arith, T.yz))
              | new t ↦ absurd (omega arith)
            ]
          ]

  -- The rule holds exactly if no other check contains two of the three.
  pub three_rule : OnlyIn h (m + k) (m + j) x y (n + j) → rule_at h n m k j ≡ true
  three_rule O = (rule h n m k j jk).1 record {
    own = T.in_z;
    two = lower_two;
    all3 = all_three;
    alone = λ p q pq ql hp hq. alone_share h (m + k) (m + j) p q (omega arith) hp hq (pair_alone O p q pq hp hq);
  }

  pub rule_three : rule_at h n m k j ≡ true → OnlyIn h (m + k) (m + j) x y (n + j)
  unfolding no_other
  rule_three e =
      let R = (rule h n m k j jk).0 e in
      let ab = share_alone h (m + k) (m + j) x y (omega arith) T.in_x T.in_y (R.alone x y T.xy (omega (arith, T.yz)) T.in_x T.in_y) in
      let az = share_alone h (m + k) (m + j) x (n + j) (omega arith) T.in_x T.in_z (R.alone x (n + j) (omega (arith, T.xy, T.yz)) (omega arith) T.in_x T.in_z) in
      let bz = share_alone h (m + k) (m + j) y (n + j) (omega arith) T.in_y T.in_z (R.alone y (n + j) T.yz (omega arith) T.in_y T.in_z) in
      record {
        only = λ d dl r. two_none (h d x) (h d y) (h d (n + j)) (other d dl r x y ab) (other d dl r x (n + j) az) (other d dl r y (n + j) bz);
      }
    where
      other : (d : ℕ) → d < m + k → (d ≡ m + j → ⊥) → (p q : ℕ) → no_other h (m + k) (m + j) p q ≡ true → (h d p && h d q) ≡ false
      other d dl r p q t = not-true (h d p && h d q) (rw (ne_eqb d (m + j) r) at (all_at (m + k) _ (unfold no_other in t) d dl))
