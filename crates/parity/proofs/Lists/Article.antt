-- Document 000's Theorem 1, Corollary 2, Lemma 3 and Theorems 4 to 6, of matrices of any size and iterations of any pairs. Assumes nothing.
use mathlib.Core.Path.{◌≡◌, sym, ap, ◌∙◌}
use mathlib.Core.Bool.{Bool, true, false, ◌&&◌, xor, beq, and_assoc, and-true, and-eq-true_iff}
use mathlib.Core.List.{List, [], ◌∷◌, ◌++◌, append_assoc}
use Prim.Native.Nat.{ℕ, zero, suc, ◌+◌, ◌*◌, ◌≤◌, ◌<◌}
use native.Mathlib.Nat.{add-suc, add-zero, zero-mul, add-mul, suc-mul, mul-one}
use native.Mathlib.Omega.{arith}
use native.Mathlib.Decide.{ℕ_discrete, dec_lt}
use lib.Dec.{ltb}
use lib.ListN.{length}
use borrow.Author.Tests.{lt-ltb, ltb-true}
use Rattle.parity.specs.Finite.{one, sum, any}
use Rattle.parity.specs.Matrix.{Matrix}
use Rattle.parity.specs.Cycles.{share, pairs, cycles, split_of, largest_share, lower_bit, higher_bit}
use Rattle.parity.specs.Splits.{Pair, split_all}
use Rattle.parity.specs.Words.{even_checks}
use Rattle.parity.specs.ArticlePromises.{four_cycle, four_cycles, in_four_cycle, iterations, four_cycles_after, are_sums, Theorem1, Corollary2, Lemma3, Theorem4, Theorem5, Theorem6}
use Rattle.parity.proofs.Finite.Bools.{same_test, beq_same, beq_refl}
use Rattle.parity.proofs.Finite.Sums.{is_true, is_false, is, one≤1, any_of, any_at, sum_le, count_two}
use Rattle.parity.proofs.Splits.Pairs.{pairs_suc, pairs_two, tri, tri_cong}
use Rattle.parity.proofs.Splits.Common.{pairs_count, count_both}
use Rattle.parity.proofs.Splits.Split.{Stops, stops, evens, split_stops, split_even, inside_new}
use Rattle.parity.proofs.Splits.Cycles.{split_cycles}
use Rattle.parity.proofs.Splits.Pick.{picked, no_cycles}
use Rattle.parity.proofs.Words.Extend.{inside_cong}
use Rattle.parity.proofs.Words.Residue.{below, below_at}

-- the four-cycles of two bits: two of the checks that contain both
two_checks : (h : Matrix) (m i j : ℕ) → tri m (λ c d. one (four_cycle h i j c d)) ≡ pairs (share h m i j)
unfolding share
two_checks h m i j =
    tri_cong m {w = λ c d. one (four_cycle h i j c d)} {x = λ c d. one ((h c i && h c j) && (h d i && h d j))}
    (λ c d k l. ap one (and_assoc (h c i && h c j) (h d i) (h d j)))
    ∙ sym (pairs_count m (λ c. h c i && h c j))

pub theorem_1 : Theorem1
unfolding four_cycles cycles tri
theorem_1 h n m =
    tri_cong n {w = λ i j. tri m (λ c d. one (four_cycle h i j c d))} {x = λ i j. pairs (share h m i j)} (λ i j k l. two_checks h m i j)

-- as many terms as pairs
sum_same : (n a : ℕ) → sum n (λ i. a) ≡ n * a
unfolding sum
sum_same zero a = sym (zero-mul a)
sum_same (suc n) a = rw (sum_same n a) (sym (suc-mul n a))

tri_same : (n a : ℕ) → tri n (λ i j. a) ≡ pairs n * a
unfolding tri sum
tri_same zero a = unfold pairs in sym (zero-mul a)
tri_same (suc n) a = rw (tri_same n a, sum_same n a, pairs_suc n, add-mul n (pairs n) a) (omega arith)

tri_le : (n : ℕ) (f g : ℕ → ℕ → ℕ) → ((i j : ℕ) → f i j ≤ g i j) → tri n f ≤ tri n g
unfolding tri
tri_le n f g k = sum_le n (λ j l. sum_le j (λ i q. k i j))

complete : (n m : ℕ) → tri n (λ i j. tri m (λ c d. 1)) ≡ pairs n * pairs m
complete n m =
    tri_cong n {w = λ i j. tri m (λ c d. 1)} {x = λ i j. pairs m} (λ i j k l. tri_same m 1 ∙ mul-one (pairs m)) ∙ tri_same n (pairs m)

pub corollary_2 : Corollary2
unfolding four_cycles tri
corollary_2 n m = (
  complete n m,
  λ h. rw (← complete n m)
      (tri_le n (λ i j. tri m (λ c d. one (four_cycle h i j c d))) (λ i j. tri m (λ c d. 1))
      (λ i j. tri_le m (λ c d. one (four_cycle h i j c d)) (λ c d. 1) (λ c d. one≤1 (four_cycle h i j c d)))),
)

-- a pair that is involved in a four-cycle, as facts
record Involved (h : Matrix) (n m : ℕ) (p : Pair) : Type 0 where
  order : p.lower < p.higher
  below : p.higher < n
  shares : 2 ≤ share h m p.lower p.higher

both_checks : (a b c d : Bool) → a && b && c && d ≡ true → (a && b ≡ true) × (c && d ≡ true)
both_checks a b c d e = (and-eq-true_iff (a && b) (c && d)).0 (sym (and_assoc (a && b) c d) ∙ e)

involved : (h : Matrix) (n m : ℕ) (p : Pair) → in_four_cycle h n m p ≡ true → Involved h n m p
unfolding in_four_cycle share
involved h n m p e =
    let u = p.lower in
    let v = p.higher in
    let (e₁, e₂) = (and-eq-true_iff (ltb u v && ltb v n) (any m (λ d. any d (λ c. four_cycle h u v c d)))).0 e in
    let (a, b) = (and-eq-true_iff (ltb u v) (ltb v n)).0 e₁ in
    let (d, dm, f) = any_at m (λ d. any d (λ c. four_cycle h u v c d)) e₂ in
    let (c, cd, g) = any_at d (λ c. four_cycle h u v c d) f in
    let (x, y) = both_checks (h c u) (h c v) (h d u) (h d v) g in
    record {
      order = ltb-true u v a;
      below = ltb-true v n b;
      shares = count_two m (λ c. h c u && h c v) c d (omega arith) dm (λ q. omega arith) x y;
    }

involves : (h : Matrix) (n m u v : ℕ) → u < v → v < n → 2 ≤ share h m u v → in_four_cycle h n m record { lower = u; higher = v } ≡ true
unfolding in_four_cycle share
involves h n m u v uv vn s =
    let (c, d, cd, dm, x, y) = count_both m (λ c. h c u && h c v) s in
    rw (lt-ltb u v uv, lt-ltb v n vn)
    (any_of m (λ d. any d (λ c. four_cycle h u v c d)) d dm (any_of d (λ c. four_cycle h u v c d) c cd
    (and_assoc (h c u && h c v) (h d u) (h d v) ∙ rw (x, y))))

-- an iteration takes the pair's own four-cycles at least
fewer : (h : Matrix) (n m : ℕ) (p : Pair) → Involved h n m p → four_cycles (split_of h n m p.lower p.higher) (suc n) (suc m) < four_cycles h n m
fewer h n m p I =
    rw (theorem_1 (split_of h n m p.lower p.higher) (suc n) (suc m), theorem_1 h n m)
    (omega (
      arith,
      split_cycles h n m p.lower p.higher (omega (arith, I.order, I.below)) I.below (λ q. omega (arith, I.order)),
      pairs_two (share h m p.lower p.higher) I.shares,
    ))

module _ (h : Matrix) (n m : ℕ) where
  -- the newest iteration, and those before
  newest : (p : Pair) (ps : List Pair) → iterations h n m (p ∷ ps) ≡ true
      → (iterations h n m ps ≡ true) × Involved (split_all h n m ps) (n + length ps) (m + length ps) p
  unfolding iterations
  newest p ps e =
      let (a, b) = (and-eq-true_iff (iterations h n m ps) (in_four_cycle (split_all h n m ps) (n + length ps) (m + length ps) p)).0 e in
      (a, involved (split_all h n m ps) (n + length ps) (m + length ps) p b)

  falls : (p : Pair) (ps : List Pair) → iterations h n m (p ∷ ps) ≡ true → four_cycles_after h n m (p ∷ ps) < four_cycles_after h n m ps
  unfolding split_all
  falls p ps e = rw (add-suc n (length ps), add-suc m (length ps)) (fewer (split_all h n m ps) (n + length ps) (m + length ps) p (newest p ps e).1)

  at_most : (ps : List Pair) → iterations h n m ps ≡ true → length ps + four_cycles_after h n m ps ≤ four_cycles h n m
  at_most [] e = unfold split_all in rw (add-zero n, add-zero m) (omega arith)
  at_most (p ∷ ps) e = omega (arith, falls p ps e, at_most ps (newest p ps e).0)

  -- where a four-cycle is left, some pair is involved in one
  another : (ps : List Pair) → iterations h n m ps ≡ true → 0 < four_cycles_after h n m ps → (p : Pair) × (iterations h n m (p ∷ ps) ≡ true)
  unfolding iterations
  another ps e l =
      let g = split_all h n m ps in
      let N = n + length ps in
      let M = m + length ps in
      elim (dec_lt (largest_share g N M) 2) [
        | yes k ↦ absurd (omega (arith, theorem_1 g N M, no_cycles g N M k))
        | no k ↦
            let (a, b, s) = picked g N M (omega arith) in
            (record { lower = lower_bit g N M; higher = higher_bit g N M }, rw e (involves g N M (lower_bit g N M) (higher_bit g N M) a b (omega arith)))
      ]

  until_none : (left : ℕ) (ps : List Pair) → iterations h n m ps ≡ true → four_cycles_after h n m ps ≤ left
      → (more : List Pair) × (iterations h n m (more ++ ps) ≡ true) × (four_cycles_after h n m (more ++ ps) ≡ 0)
  until_none zero ps e l = ([], e, omega arith)
  until_none (suc left) ps e l =
      elim (ℕ_discrete (four_cycles_after h n m ps) 0) [
        | yes q ↦ ([], e, q)
        | no d ↦
            let (p, f) = another ps e (omega arith) in
            let (more, g, z) = until_none left (p ∷ ps) f (omega (arith, falls p ps f)) in
            let s : (more ++ (p ∷ [])) ++ ps ≡ more ++ (p ∷ ps) = append_assoc more (p ∷ []) ps in
            (more ++ (p ∷ []), rw s g, rw s z)
      ]

-- a word of the split matrix
split_word_lem : (h : Matrix) (n m u v : ℕ) → u < n → v < n → (u ≡ v → ⊥) → (x : ℕ → Bool)
    → even_checks (split_of h n m u v) (suc n) (suc m) x ≡ (even_checks h n m x && beq (x n) (xor (x u) (x v)))
split_word_lem h n m u v un vn uv x =
    same_test (even_checks (split_of h n m u v) (suc n) (suc m) x) (even_checks h n m x && beq (x n) (xor (x u) (x v)))
    (λ e.
    let (a, b) = (split_even h n m u v un vn uv x).0 ((evens (split_of h n m u v) (suc n) (suc m) x).0 e) in
    rw ((evens h n m x).1 a, b) (beq_refl (xor (x u) (x v))))
    (λ e.
    let (a, b) = (and-eq-true_iff (even_checks h n m x) (beq (x n) (xor (x u) (x v)))).0 e in
    (evens (split_of h n m u v) (suc n) (suc m) x).1 ((split_even h n m u v un vn uv x).1 ((evens h n m x).0 a, beq_same (x n) (xor (x u) (x v)) b)))

module _ (h : Matrix) (n m : ℕ) where
  same_code : (ps : List Pair) → iterations h n m ps ≡ true → (x : ℕ → Bool)
      → even_checks (split_all h n m ps) (n + length ps) (m + length ps) x ≡ (even_checks h n m x && are_sums n ps x)
  unfolding split_all are_sums
  same_code [] e x = rw (add-zero n, add-zero m) (sym (and-true (even_checks h n m x)))
  same_code (p ∷ ps) e x =
      let (a, I) = newest h n m p ps e in
      rw (
        add-suc n (length ps),
        add-suc m (length ps),
        split_word_lem (split_all h n m ps) (n + length ps) (m + length ps) p.lower p.higher (omega (arith, I.order, I.below)) I.below (λ q. omega (arith, I.order)) x,
        same_code ps a x,
      )
      (and_assoc (even_checks h n m x) (are_sums n ps x) (beq (x (n + length ps)) (xor (x p.lower) (x p.higher))))

  -- a stopping set of H_l is one of H, and has an auxiliary variable only with a standard one
  still_stops : (ps : List Pair) → iterations h n m ps ≡ true → (s : ℕ → Bool) → Stops (split_all h n m ps) (n + length ps) (m + length ps) s → Stops h n m s
  unfolding split_all
  still_stops [] e s t = rw (add-zero n, add-zero m) at t
  still_stops (p ∷ ps) e s t =
      let (a, I) = newest h n m p ps e in
      still_stops ps a s (split_stops (split_all h n m ps) (n + length ps) (m + length ps) p.lower p.higher
      (omega (arith, I.order, I.below)) I.below (λ q. omega (arith, I.order)) s (rw (add-suc n (length ps), add-suc m (length ps)) at t))

  no_auxiliary : (ps : List Pair) → iterations h n m ps ≡ true → (s : ℕ → Bool) → Stops (split_all h n m ps) (n + length ps) (m + length ps) s
      → ((b : ℕ) → b < n → s b ≡ false) → (b : ℕ) → b < n + length ps → s b ≡ false
  unfolding split_all
  no_auxiliary [] e s t f b l = f b (omega arith)
  no_auxiliary (p ∷ ps) e s t f b l =
      let (a, I) = newest h n m p ps e in
      let N = n + length ps in
      let M = m + length ps in
      let un : p.lower < N = omega (arith, I.order, I.below) in
      let uv : p.lower ≡ p.higher → ⊥ = λ q. omega (arith, I.order) in
      let g = split_all h n m ps in
      let t' : Stops (split_of g N M p.lower p.higher) (suc N) (suc M) s = rw (add-suc n (length ps), add-suc m (length ps)) at t in
      let old = no_auxiliary ps a s (split_stops g N M p.lower p.higher un I.below uv s t') f in
      elim (ℕ_discrete b N) [
        | no d ↦ old b (omega arith)
        | yes q ↦ elim (is (s N)) [
          | is_false r ↦ rw q r
          | is_true r ↦ absurd (t' M (omega arith) (inside_new g N M p.lower p.higher un I.below uv s ∙ rw (old p.lower un, old p.higher I.below, r)))
        ]
      ]

pub lemma_3 : Lemma3
lemma_3 h n m p ps e = falls h n m p ps e

pub theorem_4 : Theorem4
theorem_4 h n m = record {
  goes_on = λ ps e. until_none h n m (four_cycles_after h n m ps) ps e (omega arith);
  bounded = at_most h n m;
  equivalent = same_code h n m;
}

pub theorem_5 : Theorem5
theorem_5 h n m ps e s t f = no_auxiliary h n m ps e s ((stops (split_all h n m ps) (n + length ps) (m + length ps) s).0 t) f

pub theorem_6 : Theorem6
theorem_6 h n m ps e s t =
    (stops h n m (below n s)).1 (λ c l q.
    still_stops h n m ps e s ((stops (split_all h n m ps) (n + length ps) (m + length ps) s).0 t) c l (sym (inside_cong h n c (below_at n s)) ∙ q))
