-- Every message has exactly one codeword. Assumes nothing.
use mathlib.Core.Path.{◌≡◌, refl, sym, ap, ◌∙◌}
use mathlib.Core.Logic.{◌↔◌}
use mathlib.Core.Bool.{Bool, true, false, not, cond, ◌&&◌, xor, and-true, and-false, and-eq-true_iff, false≢true}
use Prim.Native.Nat.{ℕ, zero, suc, ◌+◌, ◌*◌, ◌-◌, ◌%◌, ◌≤◌, ◌<◌}
use native.Mathlib.Nat.{not-suc-le-zero}
use native.Mathlib.Omega.{arith}
use native.Mathlib.Decide.{ℕ_discrete}
use lib.Dec.{eqb}
use borrow.Author.Tests.{eq-eqb, ne_eqb}
use Rattle.parity.specs.Finite.{one, count}
use Rattle.parity.specs.Matrix.{Matrix}
use Rattle.parity.specs.Words.{inside, even_checks}
use Rattle.parity.specs.Encoding.{dependent, rank_of, holds, encoded}
use Rattle.parity.proofs.Finite.Sums.{is_true, is_false, is, one≤1, all_at, all_of, count_not, sum_zero}
use Rattle.parity.proofs.Splits.Split.{Even, evens}
use Rattle.parity.proofs.Words.Extend.{inside_cong}
use Rattle.parity.proofs.Encoding.Dependent.{Sums, inside_suc, inside_end, depends_at, depends_of}
use Rattle.parity.proofs.Words.Residue.{below, below_at, the_one, inside_xor}
use Rattle.parity.proofs.Finite.Bools.{differ, xor_self, beq_same, beq_refl, or_else}

parity_1 : (B S P : ℕ) → S ≡ B + 2 * P → B % 2 ≡ S % 2
parity_1 B S P e = omega arith

parity_2 : (A Q i : ℕ) → Q % 2 ≡ i → (A + Q) % 2 ≡ (A + i) % 2
parity_2 A Q i e = omega arith

parity_3 : (A u v t : ℕ) → (A + u) % 2 ≡ t → (A + (u + v)) % 2 ≡ (t + v) % 2
parity_3 A u v t e = omega arith

parity : (A Q B P u v i t : ℕ) → (A + u) % 2 ≡ t → Q % 2 ≡ i → A + Q ≡ B + 2 * P → u + v ≡ i → B % 2 ≡ (t + v) % 2
parity A Q B P u v i t e f g k = parity_1 B (A + Q) P g ∙ parity_2 A Q i f ∙ (rw (← k) (parity_3 A u v t e))

one_xor : (a b : Bool) → one (xor a b) ≡ (one a + one b) % 2
unfolding xor
one_xor true true = refl
one_xor true false = refl
one_xor false true = refl
one_xor false false = refl

either : (i s a : Bool) → xor s a ≡ true → one (i && s) + one (i && a) ≡ one i
unfolding xor
either true true true e = absurd (false≢true e)
either true true false e = refl
either true false true e = refl
either true false false e = absurd (false≢true e)
either false s a e = refl

module _ (h : Matrix) (m : ℕ) where
  -- the sum without bit j, and with it
  without : (j : ℕ) (t s : ℕ → Bool) → Sums h m (suc j) s t → Sums h m j s (λ c. xor (t c) (h c j && s j))
  without j t s e c k = rw (one_xor (t c) (h c j && s j)) (omega (arith, e c k, inside_suc h j c s))

  with : ℕ → Bool → (ℕ → Bool) → ℕ → Bool
  with j a x b = cond (eqb b j) a (x b)

  with_at : (j : ℕ) (a : Bool) (x : ℕ → Bool) → with j a x j ≡ a
  unfolding with
  with_at j a x = rw (eq-eqb j j refl)

  with_other : (j : ℕ) (a : Bool) (x : ℕ → Bool) (b : ℕ) → (b ≡ j → ⊥) → with j a x b ≡ x b
  unfolding with
  with_other j a x b d = rw (ne_eqb b j d)

  back : (j : ℕ) (a : Bool) (t x : ℕ → Bool) → Sums h m j x (λ c. xor (t c) (h c j && a)) → Sums h m (suc j) (with j a x) t
  back j a t x e c k =
      rw (inside_suc h j c (with j a x), with_at j a x, inside_cong h j c {w = with j a x} {x = x} (λ b l. with_other j a x b (λ q. omega arith)))
      (omega (arith, rw (one_xor (t c) (h c j && a)) at (e c k), one≤1 (t c)))

  -- where bit j is dependent, it may have either value
  reach : (j : ℕ) (t s : ℕ → Bool) → dependent h m j ≡ true → Sums h m (suc j) s t → (a : Bool) → (x : ℕ → Bool) × Sums h m j x (λ c. xor (t c) (h c j && a))
  reach j t s d e a =
      elim (is (xor (s j) a)) [
        | is_false q ↦ (s, rw (← differ (s j) a q) (without j t s e))
        | is_true q ↦
            let (y, f) = depends_at h m j d in (
              λ b. xor (s b) (y b),
              λ c k. rw (one_xor (t c) (h c j && a))
                  (parity (inside h j c s) (inside h j c y) _ _ (one (h c j && s j)) (one (h c j && a)) (one (h c j)) (one (t c))
                  (sym (ap (◌% 2) (inside_suc h j c s)) ∙ e c k) (f c k) (inside_xor h j c s y) (either (h c j) (s j) a q)),
            )
      ]

  -- any sum of columns below j is also one with given values at the dependent bits
  free : (p : ℕ → Bool) (j : ℕ) (t s : ℕ → Bool) → Sums h m j s t → (x : ℕ → Bool) × Sums h m j x t × ((b : ℕ) → b < j → dependent h m b ≡ true → x b ≡ p b)
  free p zero t s e = (s, e, λ b k. absurd (not-suc-le-zero k))
  free p (suc j) t s e =
      elim (is (dependent h m j)) [
        | is_false d ↦
            let (x, f, g) = free p j (λ c. xor (t c) (h c j && s j)) s (without j t s e) in (
              with j (s j) x,
              back j (s j) t x f,
              λ b k q. elim (ℕ_discrete b j)
                  [ yes r ↦ absurd (false≢true (sym d ∙ (rw r at q))) | no r ↦ with_other j (s j) x b r ∙ g b (omega arith) q ],
            )
        | is_true d ↦
            let (y, u) = reach j t s d e (p j) in
            let (x, f, g) = free p j (λ c. xor (t c) (h c j && p j)) y u in (
              with j (p j) x,
              back j (p j) t x f,
              λ b k q. elim (ℕ_discrete b j)
                  [ yes r ↦ rw r (with_at j (p j) x) | no r ↦ with_other j (p j) x b r ∙ g b (omega arith) q ],
            )
      ]

  -- a codeword with given values at the dependent bits
  pub exists : (n : ℕ) (p : ℕ → Bool) → (x : ℕ → Bool) × Even h n m x × ((b : ℕ) → b < n → dependent h m b ≡ true → x b ≡ p b)
  exists n p = free p n (λ c. false) (λ b. false) (λ c k. rw (inside_none n c))
    where
      inside_none : (n c : ℕ) → inside h n c (λ b. false) ≡ 0
      inside_none n c = unfold inside count in sum_zero n (λ b k. rw (and-false (h c b)))

  -- two codewords that agree at the dependent bits agree
  pub only_one : (n : ℕ) (x y : ℕ → Bool) → Even h n m x → Even h n m y → ((b : ℕ) → b < n → dependent h m b ≡ true → x b ≡ y b)
      → (b : ℕ) → b < n → x b ≡ y b
  only_one n x y e f g b k = differ (x b) (y b) (go n (omega arith) b (omega arith) k)
    where
      d : ℕ → Bool
      d b = xor (x b) (y b)

      even : (c : ℕ) → c < m → inside h n c d % 2 ≡ 0
      even c k = omega (arith, e c k, f c k, inside_xor h n c x y)

      last : (c b : ℕ) → d b ≡ true → b < n → ((j : ℕ) → b < j → j < n → d j ≡ false) → inside h n c d ≡ inside h b c d + one (h c b)
      last c b z q r =
          inside_end h (suc b) n c d q r ∙ inside_suc h b c d ∙ (rw (z, and-true))

      go : (i : ℕ) → i ≤ n → (b : ℕ) → n - i ≤ b → b < n → d b ≡ false
      go zero l b p q = absurd (omega arith)
      go (suc i) l b p q =
          elim (ℕ_discrete b (n - suc i)) [
            | no r ↦ go i (omega arith) b (omega arith) q
            | yes r ↦ elim (is (d b)) [
              | is_false z ↦ z
              | is_true z ↦ xor_self (x b) (y b) (g b q (depends_of h m b d (λ c k. omega (arith, even c k, last c b z q (λ j v u. go i (omega arith) j (omega arith) u), one≤1 (h c b)))))
            ]
          ]

module _ (h : Matrix) (n m : ℕ) (message : ℕ → Bool) where
  abbrev Holds : (ℕ → Bool) → Type 0
  Holds x = (b : ℕ) → b < n → dependent h m b ≡ true → x b ≡ message (count b (dependent h m))

  hold : (x : ℕ → Bool) → (holds h n m message x ≡ true) ↔ Holds x
  unfolding holds
  hold x = (
    λ e b k d. beq_same (x b) _ (or_else (not (dependent h m b)) _ (all_at n _ e b k) (rw d)),
    λ f. all_of n _ (λ b k. elim (is (dependent h m b))
        [ is_false d ↦ rw d | is_true d ↦ rw (d, f b k d) (beq_refl (message (count b (dependent h m)))) ]),
  )

  -- Encoding writes the one codeword whose other bits hold the message.
  pub encodes : Even h n m (encoded h n m message) × Holds (encoded h n m message)
      × ((y : ℕ → Bool) → Even h n m y → Holds y → (b : ℕ) → b < n → y b ≡ encoded h n m message b)
  encodes =
      let (x, e, f) = exists h m n (λ b. message (count b (dependent h m))) in
      let z : (b : ℕ) → b < n → encoded h n m message b ≡ x b = is_x x e f in (
        λ c k. rw (inside_cong h n c z) (e c k),
        λ b k d. z b k ∙ f b k d,
        λ y u v b k. only_one h m n y x u e (λ b k d. v b k d ∙ sym (f b k d)) b k ∙ sym (z b k),
      )
    where
      is_x : (x : ℕ → Bool) → Even h n m x → Holds x → (b : ℕ) → b < n → encoded h n m message b ≡ x b
      is_x x e f b k = unfold encoded in the_one n (λ x. even_checks h n m x && holds h n m message x) x
          (rw ((evens h n m (below n x)).1 (λ c l. ap (◌% 2) (inside_cong h n c (below_at n x)) ∙ e c l))
          ((hold (below n x)).1 (λ b l d. below_at n x b l ∙ f b l d))) b k
          (λ z t. let (t₁, t₂) = (and-eq-true_iff (even_checks h n m z) (holds h n m message z)).0 t in
          only_one h m n z x ((evens h n m z).0 t₁) e (λ b l d. (hold z).0 t₂ b l d ∙ sym (f b l d)) b k)

  -- the message has as many bits as there are other bits
  pub lengths : rank_of h n m + count n (dependent h m) ≡ n
  unfolding rank_of
  lengths = count_not n (dependent h m)
