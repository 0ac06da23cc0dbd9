-- Adding a check to others keeps the codewords; and how bit b becomes the pivot of check r. Assumes nothing.
use mathlib.Core.Path.{◌≡◌, refl, sym, ap, ◌∙◌, fun_ext}
use mathlib.Core.Logic.{◌↔◌}
use mathlib.Core.Bool.{Bool, true, false, ◌&&◌, xor, and-false}
use Prim.Native.Nat.{ℕ, ◌+◌, ◌*◌, ◌%◌, ◌≤◌, ◌<◌}
use native.Mathlib.Omega.{arith}
use native.Mathlib.Decide.{ℕ_discrete, dec_lt}
use lib.Dec.{eqb}
use borrow.Author.Tests.{eq-eqb, ne_eqb, lt-ltb, le-ltb, le-leb, lt-leb}
use Rattle.parity.specs.Finite.{one, count}
use Rattle.parity.specs.Matrix.{Matrix}
use Rattle.parity.specs.Words.{inside, even_checks}
use Rattle.parity.proofs.Finite.Bools.{same_test, xor_false, xor_self}
use Rattle.parity.proofs.Finite.Sums.{sum_add, sum_cong, count_cong}
use Rattle.parity.proofs.Finite.Firsts.{all_cong}
use Rattle.parity.proofs.Splits.Split.{Even, evens}
use Rattle.parity.proofs.Words.Residue.{below}
use Rattle.parity.proofs.Words.Sets.{inside_below}
use Rattle.rows.specs.Whole.{plus}
use Rattle.rows.proofs.Writing.{combined_at, combined_else}
use Rattle.elimination.specs.Reduction.{when, cleared, FirstIn, Same, lifted, around}

-- The codewords of two matrices are the same if each is even where the other is.
pub same_of : (h g : Matrix) (n m : ℕ) → ((x : ℕ → Bool) → Even h n m x ↔ Even g n m x) → Same h g n m
same_of h g n m f x = same_test (even_checks h n m x) (even_checks g n m x)
    (λ t. (evens g n m x).1 ((f x).0 ((evens h n m x).0 t))) (λ t. (evens h n m x).1 ((f x).1 ((evens g n m x).0 t)))

pub same_at : (h g : Matrix) (n m : ℕ) → Same h g n m → (x : ℕ → Bool) → Even h n m x ↔ Even g n m x
same_at h g n m s x = (λ t. (evens g n m x).0 (sym (s x) ∙ (evens h n m x).1 t), λ t. (evens h n m x).0 (s x ∙ (evens g n m x).1 t))

pub same_trans : (f g h : Matrix) (n m : ℕ) → Same f g n m → Same g h n m → Same f h n m
same_trans f g h n m s t x = s x ∙ t x

-- in fewer bits
pub same_below : (h g : Matrix) (n b m : ℕ) → b ≤ n → Same h g n m → Same h g b m
same_below h g n b m l s x = sym (even_below h) ∙ s (below b x) ∙ even_below g
  where
    even_below : (f : Matrix) → even_checks f n m (below b x) ≡ even_checks f b m x
    even_below f = unfold even_checks in all_cong m (λ c k. ap (λ a. eqb (a % 2) 0) (inside_below f n b c (below b x) x l (λ j. refl)))

-- the ones of two rows and of their sum
both : (n : ℕ) (p q x : ℕ → Bool)
    → count n (λ b. p b && x b) + count n (λ b. q b && x b) ≡ count n (λ b. xor (p b) (q b) && x b) + 2 * count n (λ b. p b && q b && x b)
unfolding count xor
both n p q x =
    let d : ℕ → ℕ = λ b. one (xor (p b) (q b) && x b) in
    let a : ℕ → ℕ = λ b. one (p b && q b && x b) in
    omega (
      arith,
      sum_add n (λ b. one (p b && x b)) (λ b. one (q b && x b)),
      sum_add n (λ b. d b + a b) a,
      sum_add n d a,
      sum_cong n {f = λ b. one (p b && x b) + one (q b && x b)} {g = λ b. d b + a b + a b} (λ b k. bits (p b) (q b) (x b)),
    )
  where
    bits : (p q x : Bool) → one (p && x) + one (q && x) ≡ one (xor p q && x) + one (p && q && x) + one (p && q && x)
    bits true true true = refl
    bits true true false = refl
    bits true false true = refl
    bits true false false = refl
    bits false true true = refl
    bits false true false = refl
    bits false false x = refl

-- Each check of k is that of g, or it and another check p, which stays, are its sum.
module _ (g k : Matrix) (n m : ℕ) (p : ℕ) (pm : p < m) where
  -- check c of k is that of g with x times check p added
  abbrev pub Plus : ℕ → Bool → Type 0
  Plus c x = (b : ℕ) → k c b ≡ xor (g c b) (when x (g p) b)

  plus_inside : (c : ℕ) (x : Bool) → Plus c x → (w : ℕ → Bool)
      → (s : ℕ) × (inside g n c w + one x * inside g n p w ≡ inside k n c w + 2 * s)
  unfolding inside
  plus_inside c true f w =
      let e : count n (λ b. k c b && w b) ≡ count n (λ b. xor (g c b) (g p b) && w b) = count_cong n (λ b l. rw (f b)) in
      (count n (λ b. g c b && g p b && w b), rw e (omega (arith, both n (g c) (g p) w)))
  plus_inside c false f w =
      let e : count n (λ b. k c b && w b) ≡ count n (λ b. g c b && w b) = count_cong n (λ b l. rw (f b, xor_false (g c b))) in
      (0, rw e (omega arith))

  pub plus_same : ((b : ℕ) → k p b ≡ g p b) → ((c : ℕ) → c < m → (c ≡ p → ⊥) → (x : Bool) × Plus c x) → Same g k n m
  plus_same own f = same_of g k n m (λ w. (
    λ t c l. elim (ℕ_discrete c p) [
      | yes q ↦ rw (q, row w) (t p pm)
      | no d ↦ let (x, P) = f c l d in let (s, e) = plus_inside c x P w in forth x (inside g n c w) (inside g n p w) (inside k n c w) s e (t p pm) (t c l)
    ],
    λ t c l. elim (ℕ_discrete c p) [
      | yes q ↦ rw (q, ← row w) (t p pm)
      | no d ↦ let (x, P) = f c l d in let (s, e) = plus_inside c x P w in back x (inside g n c w) (inside g n p w) (inside k n c w) s e (rw (row w) at (t p pm)) (t c l)
    ],
  ))
    where
      row : (w : ℕ → Bool) → inside k n p w ≡ inside g n p w
      row w = unfold inside in count_cong n (λ b l. rw (own b))

      forth : (x : Bool) (G P K s : ℕ) → G + one x * P ≡ K + 2 * s → P % 2 ≡ 0 → G % 2 ≡ 0 → K % 2 ≡ 0
      forth true G P K s e f h = omega arith
      forth false G P K s e f h = omega arith

      back : (x : Bool) (G P K s : ℕ) → G + one x * P ≡ K + 2 * s → P % 2 ≡ 0 → K % 2 ≡ 0 → G % 2 ≡ 0
      back true G P K s e f h = omega arith
      back false G P K s e f h = omega arith

-- check p added to check c
module _ (g : Matrix) (p c : ℕ) (d : p ≡ c → ⊥) where
  pub added_same : (n m : ℕ) → p < m → Same g (plus c (g p) g) n m
  added_same n m pm = plus_same g (plus c (g p) g) n m p pm (λ b. combined_else xor c (g p) g p b d) (λ i l e. elim (ℕ_discrete i c) [
    | yes q ↦ (true, λ b. rw q (combined_at xor c (g p) g b))
    | no s ↦ (false, λ b. combined_else xor c (g p) g i b s ∙ sym (xor_false (g i b)))
  ])

  -- where check p has no bit, nothing changes
  pub added_keep : (i b : ℕ) → g p b ≡ false → plus c (g p) g i b ≡ g i b
  added_keep i b q = elim (ℕ_discrete i c) [ yes e ↦ rw (e, combined_at xor c (g p) g b, q) (xor_false (g c b)) | no s ↦ combined_else xor c (g p) g i b s ]

-- Clearing, check by check
module _ (row : ℕ → Bool) (b : ℕ) (g : Matrix) where
  pub cleared_in : (first end i j : ℕ) → first ≤ i → i < end → cleared row b first end g i j ≡ xor (g i j) (when (g i b) row j)
  unfolding cleared
  cleared_in first end i j k l = rw (le-leb first i k, lt-ltb i end l)

  pub cleared_out : (first end i j : ℕ) → (first ≤ i → i < end → ⊥) → cleared row b first end g i j ≡ g i j
  unfolding cleared
  cleared_out first end i j d = elim (dec_lt i first) [
    | yes k ↦ rw (lt-leb first i k)
    | no k ↦ let h : first ≤ i = omega arith in rw (le-leb first i h, le-ltb i end (omega (arith, d h)))
  ]

  pub cleared_none : (first end : ℕ) → end ≤ first → g ≡ cleared row b first end g
  cleared_none first end l = fun_ext (λ i. fun_ext (λ j. sym (cleared_out first end i j (λ k m. omega arith))))

  -- one check more
  pub cleared_more : (first c : ℕ) → first ≤ c
      → plus c (when (cleared row b first c g c b) row) (cleared row b first c g) ≡ cleared row b first (c + 1) g
  cleared_more first c l = fun_ext (λ i. fun_ext (λ j.
      let k = cleared row b first c g in
      elim (ℕ_discrete i c) [
        | yes q ↦ rw (q, combined_at xor c (when (k c b) row) k j, cleared_in first (c + 1) c j l (omega arith))
            (rw (cleared_out first c c j (λ _ m. omega arith), cleared_out first c c b (λ _ m. omega arith)))
        | no d ↦ combined_else xor c (when (k c b) row) k i j d ∙ elim (dec_lt i first) [
          | yes m ↦ cleared_out first c i j (λ x _. omega arith) ∙ sym (cleared_out first (c + 1) i j (λ x _. omega arith))
          | no m ↦ elim (dec_lt i c) [
            | yes y ↦ cleared_in first c i j (omega arith) y ∙ sym (cleared_in first (c + 1) i j (omega arith) (omega arith))
            | no y ↦ cleared_out first c i j (λ _ z. omega arith) ∙ sym (cleared_out first (c + 1) i j (λ _ z. omega arith))
          ]
        ]
      ]))

-- Check r is added to each other check from `first` on that contains b.
module _ (g : Matrix) (first m r b : ℕ) where
  around_at : (j : ℕ) → around first m r b g r j ≡ g r j
  unfolding around
  around_at j = rw (eq-eqb r r refl)

  around_other : (c j : ℕ) → (c ≡ r → ⊥) → around first m r b g c j ≡ cleared (g r) b first m g c j
  unfolding around
  around_other c j d = rw (ne_eqb c r d)

  -- it may be added to itself too, if it is put back
  pub around_back : (k : Matrix) → ((j : ℕ) → k r j ≡ g r j) → ((c j : ℕ) → (c ≡ r → ⊥) → k c j ≡ cleared (g r) b first m g c j) → k ≡ around first m r b g
  around_back k own else = fun_ext (λ c. fun_ext (λ j. elim (ℕ_discrete c r) [
    | yes q ↦ rw q (own j ∙ sym (around_at j))
    | no d ↦ else c j d ∙ sym (around_other c j d)
  ]))

module _ (g : Matrix) (first m r b : ℕ) (fr : first ≤ r) (rm : r < m) where
  pub around_own : (j : ℕ) → around first m r b g r j ≡ g r j
  around_own = around_at g first m r b

  pub around_else : (c j : ℕ) → first ≤ c → c < m → (c ≡ r → ⊥) → around first m r b g c j ≡ xor (g c j) (when (g c b) (g r) j)
  around_else c j f l d = around_other g first m r b c j d ∙ cleared_in (g r) b g first m c j f l

  pub around_out : (c j : ℕ) → (first ≤ c → c < m → ⊥) → around first m r b g c j ≡ g c j
  around_out c j d = around_other g first m r b c j (λ q. d (omega arith) (omega arith)) ∙ cleared_out (g r) b g first m c j d

  pub around_same : (n : ℕ) → Same g (around first m r b g) n m
  around_same n = plus_same g (around first m r b g) n m r rm around_own (λ c l d. elim (dec_lt c first) [
    | yes k ↦ (false, λ j. around_out c j (λ x y. omega arith) ∙ sym (xor_false (g c j)))
    | no k ↦ (g c b, λ j. around_else c j (omega arith) l d)
  ])

  -- where check r has no bit, nothing changes
  pub around_keep : (c j : ℕ) → g r j ≡ false → around first m r b g c j ≡ g c j
  around_keep c j z = elim (ℕ_discrete c r) [
    | yes q ↦ rw q (around_own j)
    | no d ↦ elim (dec_lt c m) [
      | no l ↦ around_out c j (λ x y. omega arith)
      | yes l ↦ elim (dec_lt c first) [
        | yes k ↦ around_out c j (λ x y. omega arith)
        | no k ↦ around_else c j (omega arith) l d ∙ rw (z, and-false, xor_false (g c j))
      ]
    ]
  ]

  -- if it contains b, no other of them does then
  pub around_alone : g r b ≡ true → (c : ℕ) → first ≤ c → c < m → (c ≡ r → ⊥) → around first m r b g c b ≡ false
  around_alone own c k l d = around_else c b k l d ∙ cancel (g c b)
    where
      cancel : (x : Bool) → xor x (when x (g r) b) ≡ false
      cancel true = rw own (xor_self true true refl)
      cancel false = xor_self false false refl

-- Check p is added to check r, if it is another one.
module _ (p r : ℕ) (g : Matrix) where
  pub lifted_one : p ≡ r → lifted p r g ≡ g
  unfolding lifted
  lifted_one e = rw (eq-eqb p r e)

  pub lifted_two : (p ≡ r → ⊥) → lifted p r g ≡ plus r (g p) g
  unfolding lifted
  lifted_two d = rw (ne_eqb p r d)

  pub lifted_else : (c j : ℕ) → (c ≡ r → ⊥) → lifted p r g c j ≡ g c j
  lifted_else c j n = elim (ℕ_discrete p r) [ yes e ↦ rw (lifted_one e) | no d ↦ rw (lifted_two d) (combined_else xor r (g p) g c j n) ]

  pub lifted_same : (n m : ℕ) → p < m → Same g (lifted p r g) n m
  lifted_same n m l = elim (ℕ_discrete p r) [ yes e ↦ rw (lifted_one e) (λ x. refl) | no d ↦ rw (lifted_two d) (added_same g p r d n m l) ]

  pub lifted_keep : (c j : ℕ) → g p j ≡ false → lifted p r g c j ≡ g c j
  lifted_keep c j z = elim (ℕ_discrete p r) [ yes e ↦ rw (lifted_one e) | no d ↦ rw (lifted_two d) (added_keep g p r d c j z) ]

-- p is the first check from r on that contains b: it makes check r contain it.
pub lifted_own : (g : Matrix) (m p r b : ℕ) → FirstIn g m r b p → p < m → lifted p r g r b ≡ true
lifted_own g m p r b F l = elim (ℕ_discrete p r) [
  | yes e ↦ rw (lifted_one p r g e) (rw e at (F.found l))
  | no d ↦ rw (lifted_two p r g d) (combined_at xor r (g p) g b ∙ rw (F.found l, F.none r (omega arith) (omega (arith, F.from))) (unfold xor in refl))
]

-- k is g after bit b was made the pivot of check r; only bits that check p or check r contained may have changed.
pub record Pivoted (g k : Matrix) (m p r b : ℕ) : Type 0 where
  pub same : (n : ℕ) → Same g k n m
  pub keep : (c j : ℕ) → g p j ≡ false → g r j ≡ false → k c j ≡ g c j
  pub own : k r b ≡ true
  pub alone : (c : ℕ) → c < m → (c ≡ r → ⊥) → k c b ≡ false

pub pivoted : (g : Matrix) (m p r b : ℕ) → FirstIn g m r b p → p < m → Pivoted g (around 0 m r b (lifted p r g)) m p r b
pivoted g m p r b F l =
    let rm : r < m = omega (arith, F.from) in
    let L = lifted p r g in record {
      same = λ n. same_trans g L (around 0 m r b L) n m (lifted_same p r g n m l) (around_same L 0 m r b (omega arith) rm n);
      keep = λ c j z y. around_keep L 0 m r b (omega arith) rm c j (lifted_keep p r g r j z ∙ y) ∙ lifted_keep p r g c j z;
      own = around_own L 0 m r b (omega arith) rm b ∙ lifted_own g m p r b F l;
      alone = λ c k d. around_alone L 0 m r b (omega arith) rm (lifted_own g m p r b F l) c (omega arith) k d;
    }
