-- What solving steps do to the word that the sets of its erased bits and of its ones hold. Assumes nothing.
use mathlib.Core.Path.{◌≡◌, refl, sym, ap, ◌∙◌, fun_ext}
use mathlib.Core.Bool.{Bool, true, false, not, ◌&&◌, and-true, and-false, or-true, or-false, and-eq-true_iff, true≢false, false≢true}
use Prim.Native.Nat.{ℕ, suc, ◌+◌, ◌*◌, ◌≤◌, ◌<◌}
use native.Mathlib.Omega.{arith}
use native.Mathlib.Decide.{ℕ_discrete, dec_lt}
use lib.Dec.{eqb}
use borrow.Author.Tests.{eq-eqb, ne_eqb}
use Rattle.parity.specs.Finite.{one, count}
use Rattle.parity.specs.Matrix.{Matrix, put}
use Rattle.parity.specs.Words.{inside, odd, solved, agrees}
use Rattle.parity.proofs.Finite.Sums.{sum_point, count_at, count_pos, one≤1}
use Rattle.parity.proofs.Matrix.Lent.{put_here, put_place}
use Rattle.parity.proofs.Words.Steps.{Stage, step, Ended, ended}
use Rattle.parity.proofs.Finite.Firsts.{all_cong}
use Rattle.sets.specs.Sets.{Short}
use Rattle.sets.proofs.Short.{inside_short}
use Rattle.search.specs.Next.{Lone, NoSingle}
use Rattle.result.specs.Result.{held, agreeing}
use Rattle.result.proofs.Word.{erased_held, ones_held}
use Rattle.steps.specs.Steps.{Solved, Reached, start, next}

-- the machine's two sets, after the bit leaves the one and, where the check's ones are odd, enters the other
module _ (h : Matrix) (N c b : ℕ) (E O E' O' : Matrix) (p : E' ≡ put 0 b false E) where
  left_out : (a : ℕ) → E' 0 a ≡ (E 0 a && not (eqb a b))
  left_out a =
      ap (λ (g : Matrix). g 0 a) p ∙ (elim (ℕ_discrete a b) [
        | yes q ↦ rw (q, eq-eqb b b refl, and-false) (put_here 0 b false E)
        | no d ↦ rw (ne_eqb a b d, and-true) (put_place 0 b false E 0 a d)
      ])

  pub solved_odd : odd (inside h N c (O 0)) ≡ true → O' ≡ put 0 b true O → Solved h N c b (E 0) (O 0) (E' 0) (O' 0)
  solved_odd e q = record {
    gone = left_out;
    value = λ a. ap (λ (g : Matrix). g 0 a) q ∙ rw e (elim (ℕ_discrete a b) [
      | yes r ↦ rw (r, eq-eqb b b refl, or-true) (put_here 0 b true O)
      | no d ↦ rw (ne_eqb a b d, or-false) (put_place 0 b true O 0 a d)
    ]);
  }

  pub solved_even : odd (inside h N c (O 0)) ≡ false → O' ≡ O → Solved h N c b (E 0) (O 0) (E' 0) (O' 0)
  solved_even e q = record {
    gone = left_out;
    value = λ a. ap (λ (g : Matrix). g 0 a) q ∙ rw (e, and-false, or-false);
  }

-- a count of one number less
pub one_less : (n b : ℕ) (p q : ℕ → Bool) → b < n → ((i : ℕ) → (i ≡ b → ⊥) → q i ≡ p i) → p b ≡ true → q b ≡ false → count n p ≡ suc (count n q)
unfolding count
one_less n b p q k f e g =
    let s = sum_point n b {f = λ i. one (p i)} {g = λ i. one (q i)} k (λ i l d. ap one (sym (f i d))) in
    omega (arith, rw (e, g) at s)

-- a step leaves one erased bit less
pub fewer : (h : Matrix) (N M c b : ℕ) (e o e' o' : ℕ → Bool) → Lone h N M e c b → Solved h N c b e o e' o' → count N e ≡ suc (count N e')
fewer h N M c b e o e' o' L S =
    one_less N b e e' L.bit (λ i d. S.gone i ∙ rw (ne_eqb i b d, and-true)) L.gone (S.gone b ∙ rw (eq-eqb b b refl, and-false))

-- so the work that is left falls, wherever the next search starts
pub less_work : (a b : ℕ) (x y : Bool) → a ≡ suc b → 2 * b + one x < 2 * a + one y
less_work a b x y e = omega (arith, one≤1 x)

-- where nothing is erased, no check has an erased bit
pub none_erased : (h : Matrix) (N M : ℕ) (e : ℕ → Bool) → count N (λ t. e t && e t) ≡ 0 → NoSingle h N M 0 e
none_erased h N M e z = record {
  none = λ c i k q.
      let (b, l, p) = count_at N (λ t. h c t && e t) (unfold inside in omega (arith, q)) in
      let f = ((and-eq-true_iff (h c b) (e b)).0 p).1 in
      omega (arith, z, count_pos N (λ t. e t && e t) b l (rw f));
}

-- a solving step leaves such a set short
pub short_solved : (h : Matrix) (N B c b : ℕ) (e o e' o' : ℕ → Bool) → Short N e → Solved h B c b e o e' o' → Short N e'
short_solved h N B c b e o e' o' f S = record { none = λ a k. S.gone a ∙ rw (f.none a k) }

-- and the ones, since the bit was erased
pub short_valued : (h : Matrix) (N B c b : ℕ) (e o e' o' : ℕ → Bool) → Short N e → e b ≡ true → Short N o → Solved h B c b e o e' o' → Short N o'
short_valued h N B c b e o e' o' f g k S = record {
  none = λ a l. S.value a ∙ rw (k.none a l, ne_eqb a b (λ q. true≢false (sym g ∙ rw (← q) (f.none a l))));
}

-- The sets hold a stage of peeling w₀: none of their bits is at N or above, and none is in both.
pub record Held (h : Matrix) (N M : ℕ) (w₀ : ℕ → ℕ) (e o : ℕ → Bool) : Type 0 where
  pub apart : (a : ℕ) → e a ≡ true → o a ≡ false
  pub short_e : (a : ℕ) → N ≤ a → e a ≡ false
  pub short_o : (a : ℕ) → N ≤ a → o a ≡ false
  pub stage : Stage h N M w₀ (held e o)

-- The sets have room for B bits, of which the word has N.
module _ (h : Matrix) (B N M : ℕ) (few : N ≤ B) (w₀ : ℕ → ℕ) where
  module _ (e o e' o' : ℕ → Bool) (c b : ℕ) (H : Held h N M w₀ e o) (L : Lone h B M e c b) (S : Solved h B c b e o e' o') where
    bit_in : b < N
    bit_in = elim (dec_lt b N) [ yes k ↦ k | no k ↦ absurd (true≢false (sym L.gone ∙ H.short_e b (omega arith))) ]

    -- the sets hold the solved word
    solved_held : held e' o' ≡ solved h N c b (held e o)
    unfolding solved
    solved_held = fun_ext (λ a. rw (S.gone a, S.value a) (elim (ℕ_discrete a b) [
      | yes q ↦ rw (q, eq-eqb b b refl, and-false, H.apart b L.gone, ones_held e o H.apart) (ap (λ s. one (odd s)) (inside_short h B N c o few H.short_o))
      | no d ↦ rw (ne_eqb a b d, and-true, or-false)
    ]))

    held_step : Held h N M w₀ e' o'
    held_step = record {
      apart = λ a p.
          let (q, r) = (and-eq-true_iff (e a) (not (eqb a b))).0 (sym (S.gone a) ∙ p) in
          S.value a ∙ elim (ℕ_discrete a b) [
            | yes t ↦ absurd (false≢true (rw (eq-eqb a b t) at r))
            | no d ↦ rw (ne_eqb a b d, H.apart a q)
          ];
      short_e = λ a k. S.gone a ∙ rw (H.short_e a k);
      short_o = λ a k. S.value a ∙ rw (H.short_o a k, ne_eqb a b (λ q. omega (arith, bit_in)));
      stage = rw solved_held (step h N M w₀ (held e o) H.stage c b L.check bit_in L.has
          (ap (λ (s : ℕ → Bool). s b) (erased_held e o) ∙ L.gone)
          (ap (inside h N c) (erased_held e o) ∙ sym (inside_short h B N c e few H.short_e) ∙ L.only));
    }

  -- and so does each pair of sets that steps lead to
  pub held_reached : (e o e' o' : ℕ → Bool) → Reached h B M e o e' o' → Held h N M w₀ e o → Held h N M w₀ e' o'
  held_reached e o e' o' start H = H
  held_reached e o e' o' (next {e₁ = e₁} {o₁ = o₁} r c b L S) H = held_step e₁ o₁ e' o' c b (held_reached e o e₁ o₁ r H) L S

  module _ (e o : ℕ → Bool) (H : Held h N M w₀ e o) where
    -- the end
    pub held_ended : NoSingle h B M 0 e → Ended h N M w₀ (held e o)
    held_ended S =
        ended h N M w₀ (held e o) H.stage (λ c k q. S.none c (omega arith) k
        (inside_short h B N c e few H.short_e ∙ (rw erased_held at q)))

    pub held_agrees : agrees h N M (held e o) ≡ agreeing h B M e o
    unfolding agrees agreeing
    held_agrees = all_cong M (λ c k. rw (erased_held e o, ones_held e o H.apart, inside_short h B N c e few H.short_e, inside_short h B N c o few H.short_o))
