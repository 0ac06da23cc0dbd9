-- Which matrices are written: those that splits built. Their list is recovered, and it builds them again (M-107). Assumes nothing.
use mathlib.Core.Path.{◌≡◌, refl, sym, ap, ◌∙◌, fun_ext}
use mathlib.Core.Logic.{◌↔◌}
use mathlib.Core.Bool.{true, false, ◌&&◌, or_comm, and_comm, and-eq-true_iff, beq}
use mathlib.Core.List.{List, [], ◌∷◌, ◌++◌}
use Prim.Native.Nat.{ℕ, zero, suc, ◌+◌, ◌≤◌, ◌<◌}
use native.Mathlib.Nat.{add-suc}
use native.Mathlib.Omega.{arith}
use native.Mathlib.Decide.{dec_lt}
use lib.Dec.{eqb, ltb}
use lib.ListN.{length}
use borrow.Author.Tests.{lt-ltb, ltb-true, not-false}
use Rattle.parity.specs.Finite.{least, all, list_from}
use Rattle.parity.specs.Matrix.{Matrix, rule_a}
use Rattle.parity.specs.Cycles.{share, pairs, split_of, taken_back, lower_of, higher_of}
use Rattle.parity.specs.Splits.{Pair, split_all, split_right, splits_right, sum_all, pair_of, all_back, recovered_list, splits_sum, back_right, same_matrix, rebuilds, not_built}
use Rattle.parity.specs.Record.{splitting, split_words}
use Rattle.parity.specs.Sound.{Clean, Sound}
use Rattle.parity.proofs.Finite.Bools.{beq_same, beq_refl}
use Rattle.parity.proofs.Finite.Sums.{is_true, is_false, is, all_at, all_of, any_of}
use Rattle.parity.proofs.Finite.Firsts.{least_at, least_min}
use Rattle.parity.proofs.Splits.Cycles.{share_comm, new_u, new_v}
use Rattle.parity.proofs.Matrix.Rule.{place, first, second, new}
use Rattle.parity.proofs.Splits.Given.{back_added}
use Rattle.parity.proofs.Splits.Back.{back_clean, split_back, back_sound}
use Rattle.parity.proofs.Lists.Built.{Built, given, more, good}
use Rattle.parity.proofs.Finite.Lists.{list_from_cong, list_from_snoc}

-- the split of v and u is that of u and v
split_swap : (h : Matrix) (N M u v : ℕ) → split_of h N M u v ≡ split_of h N M v u
unfolding split_of
split_swap h N M u v = fun_ext (λ c. fun_ext (λ b. rw (or_comm (eqb b u) (eqb b v), and_comm (h c u) (h c v))))

-- the pair is read from the check that a split adds
module _ (h : Matrix) (N M u v : ℕ) (uv : u < v) (vn : v < N) where
  abbrev H : Matrix
  H = split_of h N M u v

  low : least N (H M) ≡ u
  low =
      let (l, e) = least_at N (H M) (any_of N (H M) u (omega arith) (new_u h N M u v)) in
      let i = least_min N (H M) u (omega arith) (new_u h N M u v) in
      elim (place h N M u v (least N (H M)) e) [ first q ↦ q | second q ↦ absurd (omega arith) | new q ↦ absurd (omega arith) ]

  high : least N (λ b. ltb u b && H M b) ≡ v
  high =
      let (l, e) = least_at N (λ b. ltb u b && H M b) (any_of N (λ b. ltb u b && H M b) v vn (rw (lt-ltb u v uv, new_v h N M u v))) in
      let (x, y) = (and-eq-true_iff (ltb u (least N (λ b. ltb u b && H M b))) _).0 e in
      let z = ltb-true u (least N (λ b. ltb u b && H M b)) x in
      elim (place h N M u v (least N (λ b. ltb u b && H M b)) y) [ first q ↦ absurd (omega arith) | second q ↦ q | new q ↦ absurd (omega arith) ]

  split_pair : pair_of H N M ≡ record { lower = u; higher = v }
  unfolding pair_of lower_of higher_of
  split_pair = rw (low, high)

pub length_recovered : (k : ℕ) (h : Matrix) (n m : ℕ) → length (recovered_list h n m k) ≡ k
unfolding recovered_list
length_recovered zero h n m = refl
length_recovered (suc k) h n m = ap suc (length_recovered k (taken_back h (n + k) (m + k)) n m)

-- a split that would not be refused
pub record Right (h : Matrix) (n m k u v : ℕ) : Type 0 where
  pub low : u < v
  pub high : v < n + k
  pub shares : 2 ≤ share h (m + k) u v
  pub room : k < 392

pub right : (h : Matrix) (n m k : ℕ) (p : Pair) → (split_right h n m k p ≡ true) ↔ Right h n m k p.lower p.higher
unfolding split_right
right h n m k p = (
  λ e.
      let (x, d) = (and-eq-true_iff (ltb p.lower p.higher && ltb p.higher (n + k) && ltb 1 (share h (m + k) p.lower p.higher)) (ltb k 392)).0 e in
      let (y, c) = (and-eq-true_iff (ltb p.lower p.higher && ltb p.higher (n + k)) (ltb 1 (share h (m + k) p.lower p.higher))).0 x in
      let (a, b) = (and-eq-true_iff (ltb p.lower p.higher) (ltb p.higher (n + k))).0 y in
      record { low = ltb-true _ _ a; high = ltb-true _ _ b; shares = ltb-true 1 _ c; room = ltb-true k 392 d },
  λ r. rw (lt-ltb _ _ r.low, lt-ltb _ _ r.high, lt-ltb 1 _ r.shares, lt-ltb k 392 r.room),
)

-- What is recovered from a matrix h with k added bits that splits of g built: no taking back is refused, all of them give g, and the recovered
-- list gives h again, with the sum `total`.
pub record Recovers (g : Matrix) (n m : ℕ) (h : Matrix) (k total : ℕ) : Type 0 where
  pub base : all_back h n m k ≡ g
  pub back : back_right h n m k ≡ true
  pub legal : splits_right g n m (recovered_list h n m k) ≡ true
  pub list : split_all g n m (recovered_list h n m k) ≡ h
  pub sum : sum_all g n m (recovered_list h n m k) ≡ total

module _ (g : Matrix) (n m : ℕ) where
  module _ (h : Matrix) (k total u v : ℕ) (S : Sound h n m k) (r : Right h n m k u v) (R : Recovers g n m h k total) where
    undo : taken_back (split_of h (n + k) (m + k) u v) (n + k) (m + k) ≡ h
    undo = split_back h (n + k) (m + k) u v (omega (arith, r.low, r.high)) r.high S.clean

    recovers_split : Recovers g n m (split_of h (n + k) (m + k) u v) (suc k) (total + pairs (share h (m + k) u v))
    unfolding all_back back_right recovered_list splits_right split_all sum_all
    recovers_split =
        let e = split_pair h (n + k) (m + k) u v r.low r.high in
        record {
          base = rw undo R.base;
          back = rw (undo, S.rule) R.back;
          legal = rw (undo, e, length_recovered k h n m, R.list, R.legal) ((right h n m k record { lower = u; higher = v }).1 r);
          list = rw (undo, e, length_recovered k h n m, R.list);
          sum = rw (undo, e, length_recovered k h n m, R.list, R.sum);
        }

  -- Of a built matrix the list is recovered.
  pub built_recovers : Sound g n m 0 → {h : Matrix} {k total : ℕ} → Built g n m h k total → Recovers g n m h k total
  unfolding all_back back_right recovered_list splits_right split_all sum_all
  built_recovers S given = record { base = refl; back = refl; legal = refl; list = refl; sum = refl }
  built_recovers S (more {h = h} {k = k} {total = t} B u v un vn uv s l) =
      let H = (good g n m S B).ok in
      elim (dec_lt u v) [
        | yes i ↦ recovers_split h k t u v H record { low = i; high = vn; shares = s; room = l } (built_recovers S B)
        | no i ↦ rw (split_swap h (n + k) (m + k) u v, share_comm h (m + k) u v) (recovers_split h k t v u H
            record { low = omega arith; high = un; shares = rw (share_comm h (m + k) v u) s; room = l } (built_recovers S B))
      ]

  -- The sum over the splits that built a matrix is that over its recovered list.
  pub built_sum : Sound g n m 0 → {h : Matrix} {k total : ℕ} → Built g n m h k total → total ≡ splits_sum h n m k
  unfolding splits_sum
  built_sum S B = let R = built_recovers S B in rw (R.base, R.sum)

  -- Splits of a list that none refuses build the matrix,
  pub list_built : (ps : List Pair) → splits_right g n m ps ≡ true → Built g n m (split_all g n m ps) (length ps) (sum_all g n m ps)
  unfolding splits_right split_all sum_all
  list_built [] e = given
  list_built (p ∷ ps) e =
      let (a, b) = (and-eq-true_iff (splits_right g n m ps) (split_right (split_all g n m ps) n m (length ps) p)).0 e in
      let r = (right (split_all g n m ps) n m (length ps) p).0 b in
      more (list_built ps a) p.lower p.higher (omega (arith, r.low, r.high)) r.high (λ q. omega (arith, r.low)) r.shares r.room

  -- and the list that is recovered is theirs.
  pub list_recovered : Sound g n m 0 → (ps : List Pair) → splits_right g n m ps ≡ true → recovered_list (split_all g n m ps) n m (length ps) ≡ ps
  unfolding splits_right split_all recovered_list
  list_recovered S [] e = refl
  list_recovered S (p ∷ ps) e =
      let (a, b) = (and-eq-true_iff (splits_right g n m ps) (split_right (split_all g n m ps) n m (length ps) p)).0 e in
      let r = (right (split_all g n m ps) n m (length ps) p).0 b in
      let K = (good g n m S (list_built ps a)).ok.clean in
      let N = n + length ps in
      let M = m + length ps in
      rw (
        split_pair (split_all g n m ps) N M p.lower p.higher r.low r.high,
        split_back (split_all g n m ps) N M p.lower p.higher (omega (arith, r.low, r.high)) r.high K,
        list_recovered S ps a,
      )

-- taking all back leaves a matrix with k = 0 that is accepted
all_clean : (n m k : ℕ) (h : Matrix) → Clean h (n + k) (m + k) → Clean (all_back h n m k) (n + 0) (m + 0)
unfolding all_back
all_clean n m zero h K = K
all_clean n m (suc k) h K = all_clean n m k (taken_back h (n + k) (m + k)) (back_clean h (n + k) (m + k) (rw (add-suc n k, add-suc m k) at K))

pub all_sound : (n m k : ℕ) (h : Matrix) → Sound h n m k → Sound (all_back h n m k) n m 0
unfolding rule_a all
all_sound n m k h S = record {
  n1 = S.n1;
  n120 = S.n120;
  m120 = S.m120;
  k392 = omega arith;
  clean = all_clean n m k h S.clean;
  rule = refl;
}

-- the same entries
same_matrix_lem : (N M : ℕ) (g h : Matrix) → Clean g N M → Clean h N M → same_matrix N M g h ≡ true → g ≡ h
unfolding same_matrix
same_matrix_lem N M g h G H e = fun_ext (λ c. fun_ext (λ b. at c b))
  where
    at : (c b : ℕ) → g c b ≡ h c b
    at c b =
        elim (dec_lt c M) [
          | no i ↦ G.checks c b (omega arith) ∙ sym (H.checks c b (omega arith))
          | yes i ↦ elim (dec_lt b N) [
            | no j ↦ G.bits c b (omega arith) ∙ sym (H.bits c b (omega arith))
            | yes j ↦ beq_same (g c b) (h c b) (all_at N (λ b. beq (g c b) (h c b)) (all_at M (λ c. all N (λ b. beq (g c b) (h c b))) e c i) b j)
          ]
        ]

matrix_same : (N M : ℕ) (h : Matrix) → same_matrix N M h h ≡ true
unfolding same_matrix
matrix_same N M h = all_of M (λ c. all N (λ b. beq (h c b) (h c b))) (λ c i. all_of N (λ b. beq (h c b) (h c b)) (λ b j. beq_refl (h c b)))

-- A matrix that its recovered list rebuilds is built.
rebuilds_built : (n m k : ℕ) (h : Matrix) → Sound h n m k → rebuilds h n m k ≡ true → Built (all_back h n m k) n m h k (splits_sum h n m k)
unfolding rebuilds splits_sum
rebuilds_built n m k h S e =
    let g = all_back h n m k in
    let ps = recovered_list h n m k in
    let (a, b) = (and-eq-true_iff (splits_right g n m ps) (same_matrix (n + k) (m + k) (split_all g n m ps) h)).0 e in
    let l = length_recovered k h n m in
    let B : Built g n m (split_all g n m ps) k (sum_all g n m ps) = rw l at (list_built g n m ps a) in
    let s : split_all g n m ps ≡ h = same_matrix_lem (n + k) (m + k) (split_all g n m ps) h (good g n m (all_sound n m k h S) B).ok.clean S.clean b in
    rw s at B

-- Cause 16 of writing does not hold exactly of the matrices that splits built.
pub written_built : (n m k : ℕ) (h : Matrix) → Sound h n m k → not_built h n m k ≡ false → Built (all_back h n m k) n m h k (splits_sum h n m k)
unfolding not_built
written_built n m k h S e =
    rebuilds_built n m k h S ((and-eq-true_iff (back_right h n m k) (rebuilds h n m k)).0 (not-false (back_right h n m k && rebuilds h n m k) e)).1

pub built_written : (g : Matrix) (n m : ℕ) → Sound g n m 0 → {h : Matrix} {k total : ℕ} → Built g n m h k total → not_built h n m k ≡ false
unfolding not_built rebuilds
built_written g n m S {h = h} {k = k} B =
    let R = built_recovers g n m S B in
    rw (R.back, R.base, R.legal, R.list, matrix_same (n + k) (m + k) h)

pub not_rebuilt : (h : Matrix) (n m k : ℕ) → rebuilds h n m k ≡ false → not_built h n m k ≡ true
unfolding not_built
not_rebuilt h n m k e = elim (is (back_right h n m k)) [ is_true q ↦ rw (q, e) | is_false q ↦ rw q ]

-- Of no added bits there is nothing to rebuild.
pub none_built : (n m : ℕ) (h : Matrix) → not_built h n m 0 ≡ false
unfolding not_built rebuilds back_right recovered_list splits_right split_all all_back
none_built n m h = rw (matrix_same (n + 0) (m + 0) h)

-- The words of the recovered list, from the added checks of the matrix itself: taking back leaves the others as they were.
same_pair : (g h : Matrix) (N M : ℕ) → g M ≡ h M → pair_of g N M ≡ pair_of h N M
unfolding pair_of lower_of higher_of
same_pair g h N M e = rw e

pub recovered_words : (n m k : ℕ) (h : Matrix) → Sound h n m k → back_right h n m k ≡ true
    → split_words (recovered_list h n m k) ≡ list_from 0 k (λ j. splitting (pair_of h (n + j) (m + j)))
unfolding recovered_list back_right split_words list_from
recovered_words n m zero h S e = refl
recovered_words n m (suc k) h S e =
    let t = taken_back h (n + k) (m + k) in
    let f : ℕ → ℕ = λ j. splitting (pair_of h (n + j) (m + j)) in
    let (a, b) = (and-eq-true_iff (rule_a t n m k) (back_right t n m k)).0 e in
    let same : (j : ℕ) → j < k → splitting (pair_of t (n + j) (m + j)) ≡ f j =
    λ j l. ap splitting (same_pair t h (n + j) (m + j) (fun_ext (λ b. back_added h n m k S j b l))) in
    let z : 0 + k ≡ k = omega arith in
    rw (recovered_words n m k t (back_sound h n m k S a) b, list_from_snoc 0 k f, z)
    (ap (λ (l : List ℕ). l ++ (f k ∷ [])) (list_from_cong 0 k (λ j. splitting (pair_of t (n + j) (m + j))) f (λ j l. same (0 + j) (omega arith))))
