-- A split keeps rule A. Assumes nothing.
use mathlib.Core.Path.{◌≡◌, refl, sym, ap, ◌∙◌}
use mathlib.Core.Logic.{◌↔◌}
use mathlib.Core.Bool.{Bool, true, false, not, cond, ◌&&◌, ◌||◌, and-true, and-eq-true_iff, true≢false, false≢true}
use Prim.Native.Nat.{ℕ, suc, ◌+◌, ◌≤◌, ◌<◌}
use native.Mathlib.Nat.{add-suc}
use native.Mathlib.Omega.{arith}
use native.Mathlib.Decide.{ℕ_discrete, dec_lt}
use lib.Dec.{eqb}
use borrow.Author.Tests.{eq-eqb, ne_eqb, eqb-true, not-true}
use Rattle.parity.specs.Finite.{one, sum, count}
use Rattle.parity.specs.Matrix.{Matrix, no_other, rule_at, rule_a}
use Rattle.parity.specs.Cycles.{share, split_of}
use Rattle.parity.specs.Words.{inside}
use Rattle.parity.proofs.Finite.Sums.{is_true, is_false, is, all_at, all_of, one_le, count_pos, count_two, count_cong, count_suc, sum_le, sum_cong, sum_at}
use Rattle.parity.proofs.Splits.Split.{at_new_bit, at_apart, inside_new}
use Rattle.parity.proofs.Splits.Cycles.{share_comm, new_other, new_z, share_uv, share_uz, share_vz}

-- rule A for the added check m + j, as facts
pub record Rule (h : Matrix) (n m k j : ℕ) : Type 0 where
  pub own : h (m + j) (n + j) ≡ true
  pub two : count (n + j) (h (m + j)) ≡ 2
  pub all3 : count (n + k) (h (m + j)) ≡ 3
  pub alone : (a b : ℕ) → a < b → b < n + k → h (m + j) a ≡ true → h (m + j) b ≡ true → share h (m + k) a b ≡ 1

implied : (a b c : Bool) → not (a && b) || c ≡ true → a ≡ true → b ≡ true → c ≡ true
implied true true c e p q = e
implied true false c e p q = absurd (false≢true q)
implied false b c e p q = absurd (false≢true p)

implies : (a b c : Bool) → (a ≡ true → b ≡ true → c ≡ true) → not (a && b) || c ≡ true
implies true true c h = h refl refl
implies true false c h = refl
implies false b c h = refl

-- two bits of check c share no other check exactly if their share is 1
module _ (h : Matrix) (M c a b : ℕ) (k : c < M) (p : h c a ≡ true) (q : h c b ≡ true) where
  pub alone_share : no_other h M c a b ≡ true → share h M a b ≡ 1
  unfolding no_other share count
  alone_share e =
      sum_cong M {f = λ d. one (h d a && h d b)} {g = λ d. cond (eqb d c) 1 0} (λ d l. elim (ℕ_discrete d c) [
        | yes r ↦ rw (eq-eqb d c r, r, p, q)
        | no r ↦ rw (ne_eqb d c r, not-true (h d a && h d b) (rw (ne_eqb d c r) at (all_at M _ e d l)))
      ])
      ∙ sum_at M c 1 k

  pub share_alone : share h M a b ≡ 1 → no_other h M c a b ≡ true
  unfolding no_other share
  share_alone e = all_of M _ (λ d l. elim (ℕ_discrete d c) [
    | yes r ↦ rw (eq-eqb d c r)
    | no r ↦ elim (is (h d a && h d b)) [
      | is_false t ↦ rw (ne_eqb d c r, t)
      | is_true t ↦ absurd (omega (arith, count_two M (λ d. h d a && h d b) d c l k r t (rw (p, q))))
    ]
  ])

pub rule : (h : Matrix) (n m k j : ℕ) → j < k → (rule_at h n m k j ≡ true) ↔ Rule h n m k j
unfolding rule_at
rule h n m k j jk = (
  λ e. let (e₁, e₂) = (and-eq-true_iff (eqb (count (n + k) (h (m + j))) 3 && h (m + j) (n + j) && eqb (count (n + j) (h (m + j))) 2) _).0 e in
      let (e₃, e₄) = (and-eq-true_iff (eqb (count (n + k) (h (m + j))) 3 && h (m + j) (n + j)) _).0 e₁ in
      let (e₅, e₆) = (and-eq-true_iff (eqb (count (n + k) (h (m + j))) 3) _).0 e₃ in
      record {
        own = e₆;
        two = eqb-true _ _ e₄;
        all3 = eqb-true _ _ e₅;
        alone = λ a b l k p q. alone_share h _ (m + j) a b (omega arith) p q (implied _ _ _ (all_at b _ (all_at _ _ e₂ b k) a l) p q);
      },
  λ r. rw (r.own, eq-eqb _ _ r.two, eq-eqb _ _ r.all3)
      (all_of (n + k) _ (λ b k. all_of b _ (λ a l. implies _ _ _ (λ p q. share_alone h _ (m + j) a b (omega arith) p q (r.alone a b l k p q))))),
)

-- where a bit of the new check stands
pub data Place (u v z b : ℕ) : Type 0 where
  first : b ≡ u → Place u v z b
  second : b ≡ v → Place u v z b
  new : b ≡ z → Place u v z b

share_pos : (h : Matrix) (M a b c : ℕ) → c < M → h c a ≡ true → h c b ≡ true → 1 ≤ share h M a b
unfolding share
share_pos h M a b c k p q = count_pos M (λ c. h c a && h c b) c k (rw (p, q))

module _ (h : Matrix) (N M u v : ℕ) where
  pub place : (b : ℕ) → split_of h N M u v M b ≡ true → Place u v N b
  place b e =
      elim (ℕ_discrete b u) [
        | yes q ↦ first q
        | no du ↦ elim (ℕ_discrete b v) [
          | yes q ↦ second q
          | no dv ↦ elim (ℕ_discrete b N) [ yes q ↦ new q | no dn ↦ absurd (false≢true (sym (new_other h N M u v b du dv dn) ∙ e)) ]
        ]
      ]

  -- an old check contains after the split no old bit that it did not contain before
  pub at_le : (c b : ℕ) → (c ≡ M → ⊥) → (b ≡ N → ⊥) → split_of h N M u v c b ≡ true → h c b ≡ true
  unfolding split_of
  at_le c b d dn e = go ((eqb b u || eqb b v) && (h c u && h c v)) (rw (ne_eqb c M d, ne_eqb b N dn) at e)
    where
      go : (t : Bool) → cond t false (h c b) ≡ true → h c b ≡ true
      go true q = absurd (false≢true q)
      go false q = q

  module _ (un : u < N) (vn : v < N) (uv : u ≡ v → ⊥) where
    -- two old bits that are not u and v share no more checks than before
    share_le : (a b : ℕ) → a < N → b < N → ((split_of h N M u v M a && split_of h N M u v M b) ≡ false)
        → share (split_of h N M u v) (suc M) a b ≤ share h M a b
    unfolding share count sum
    share_le a b an bn e =
        rw e (omega (
          arith,
          sum_le M {f = λ c. one (split_of h N M u v c a && split_of h N M u v c b)} {g = λ c. one (h c a && h c b)}
              (λ c k. one_le (split_of h N M u v c a && split_of h N M u v c b) (h c a && h c b) (λ t.
              let (p, q) = (and-eq-true_iff (split_of h N M u v c a) (split_of h N M u v c b)).0 t in
              rw (at_le c a (λ q. omega arith) (λ q. omega arith) p, at_le c b (λ q. omega arith) (λ q. omega arith) q))),
        ))

module _ (h : Matrix) (n m k u v : ℕ) (un : u < n + k) (vn : v < n + k) (uv : u ≡ v → ⊥) (s2 : 2 ≤ share h (m + k) u v) where
  H : Matrix
  H = split_of h (n + k) (m + k) u v

  -- no added check contains both u and v
  pub old_apart : (j : ℕ) → Rule h n m k j → (h (m + j) u && h (m + j) v) ≡ false
  old_apart j r =
      elim (is (h (m + j) u && h (m + j) v)) [
        | is_false q ↦ q
        | is_true q ↦
            let (hu, hv) = (and-eq-true_iff (h (m + j) u) (h (m + j) v)).0 q in
            elim (dec_lt u v) [
              | yes l ↦ absurd (omega (arith, r.alone u v l vn hu hv))
              | no l ↦ absurd (omega (arith, r.alone v u (omega arith) un hv hu, share_comm h (m + k) u v))
            ]
      ]

  module _ (j : ℕ) (l : j < k) (r : Rule h n m k j) where
    d : m + j ≡ m + k → ⊥
    d q = omega arith

    keep : (b : ℕ) → b < n + k → H (m + j) b ≡ h (m + j) b
    unfolding H
    keep b bn = at_apart h (n + k) (m + k) u v (m + j) b d (λ q. omega arith) (old_apart j r)

    none : H (m + j) (n + k) ≡ false
    unfolding H
    none = at_new_bit h (n + k) (m + k) u v (m + j) d ∙ old_apart j r

    not_both : (a b : ℕ) → a < b → b < n + k → h (m + j) a ≡ true → h (m + j) b ≡ true → (H (m + k) a && H (m + k) b) ≡ false
    unfolding H
    not_both a b ab bn pa pb =
        elim (is (H (m + k) a && H (m + k) b)) [
          | is_false q ↦ q
          | is_true q ↦
              let (e, f) = (and-eq-true_iff (H (m + k) a) (H (m + k) b)).0 q in
              elim (place h (n + k) (m + k) u v a e) [
                | first x ↦ elim (place h (n + k) (m + k) u v b f) [
                  | first y ↦ absurd (omega arith)
                  | second y ↦ absurd (true≢false (sym (rw (← x, ← y, pa, pb)) ∙ old_apart j r))
                  | new y ↦ absurd (omega arith)
                ]
                | second x ↦ elim (place h (n + k) (m + k) u v b f) [
                  | first y ↦ absurd (true≢false (sym (rw (← x, ← y, pa, pb)) ∙ old_apart j r))
                  | second y ↦ absurd (omega arith)
                  | new y ↦ absurd (omega arith)
                ]
                | new x ↦ absurd (omega arith)
              ]
        ]

    old_alone : (a b : ℕ) → a < b → b < n + k → h (m + j) a ≡ true → h (m + j) b ≡ true → share H (suc (m + k)) a b ≡ 1
    unfolding H
    old_alone a b ab bn pa pb =
        omega (
          arith,
          share_le h (n + k) (m + k) u v un vn uv a b (omega arith) bn (not_both a b ab bn pa pb),
          r.alone a b ab bn pa pb,
          share_pos H (suc (m + k)) a b (m + j) (omega arith) (keep a (omega arith) ∙ pa) (keep b bn ∙ pb),
        )

    old_rule : Rule H n m (suc k) j
    old_rule = record {
      own = keep (n + j) (omega arith) ∙ r.own;
      two = count_cong (n + j) (λ b bn. keep b (omega arith)) ∙ r.two;
      all3 = rw (add-suc n k, count_suc (n + k) (H (m + j)), none) (omega (arith, count_cong (n + k) {p = H (m + j)} {q = h (m + j)} keep, r.all3));
      alone = λ a b ab bn pa pb.
          elim (ℕ_discrete b (n + k)) [
            | yes q ↦ absurd (false≢true (sym none ∙ sym (ap (H (m + j)) q) ∙ pb))
            | no q ↦
                let bn' : b < n + k = omega (arith, add-suc n k) in
                rw (add-suc m k) (old_alone a b ab bn' (sym (keep a (omega arith)) ∙ pa) (sym (keep b bn') ∙ pb))
          ];
    }

  new_alone : (a b : ℕ) → a < b → b < suc (n + k) → H (m + k) a ≡ true → H (m + k) b ≡ true → share H (suc (m + k)) a b ≡ 1
  unfolding H
  new_alone a b ab bn pa pb =
      elim (place h (n + k) (m + k) u v a pa) [
        | first x ↦ elim (place h (n + k) (m + k) u v b pb) [
          | first y ↦ absurd (omega arith)
          | second y ↦ rw (x, y) (share_uv h (n + k) (m + k) u v un vn uv)
          | new y ↦ rw (x, y) (share_uz h (n + k) (m + k) u v un vn uv)
        ]
        | second x ↦ elim (place h (n + k) (m + k) u v b pb) [
          | first y ↦ rw (x, y) (share_comm H (suc (m + k)) v u ∙ share_uv h (n + k) (m + k) u v un vn uv)
          | second y ↦ absurd (omega arith)
          | new y ↦ rw (x, y) (share_vz h (n + k) (m + k) u v un vn uv)
        ]
        | new x ↦ absurd (omega arith)
      ]

  new_rule : Rule H n m (suc k) k
  unfolding H
  new_rule =
      let c : count (suc (n + k)) (H (m + k)) ≡ 3 =
      count_cong (suc (n + k)) (λ b l. sym (and-true (H (m + k) b))) ∙ (unfold inside in (inside_new h (n + k) (m + k) u v un vn uv (λ b. true))) in
      let z : H (m + k) (n + k) ≡ true = new_z h (n + k) (m + k) u v in
      record {
        own = z;
        two = omega (arith, c, rw z at (count_suc (n + k) (H (m + k))));
        all3 = rw (add-suc n k) c;
        alone = rw (add-suc n k, add-suc m k) new_alone;
      }

  pub split_rule : rule_a h n m k ≡ true → rule_a (split_of h (n + k) (m + k) u v) n m (suc k) ≡ true
  unfolding rule_a H
  split_rule e = all_of (suc k) _ (λ j l. (rule H n m (suc k) j l).1
      (elim (ℕ_discrete j k) [
        | yes q ↦ rw q new_rule
        | no q ↦ let l' : j < k = omega arith in old_rule j l' ((rule h n m k j l').0 (all_at k _ e j l'))
      ]))
