-- Peeling step by step: whatever the order, it ends where the definition says. Assumes nothing.
use mathlib.Core.Path.{◌≡◌, refl, sym, ap, ◌∙◌}
use mathlib.Core.Bool.{Bool, true, false, not, ◌&&◌, and-eq-true_iff, true≢false}
use Prim.Native.Nat.{ℕ, zero, suc, ◌%◌, ◌≤◌, ◌<◌}
use native.Mathlib.Omega.{arith}
use native.Mathlib.Decide.{ℕ_discrete}
use lib.Dec.{eqb}
use borrow.Author.Tests.{eq-eqb, ne_eqb, eqb-true, eqb-false, not-false}
use Rattle.parity.specs.Finite.{one, count, any}
use Rattle.parity.specs.Matrix.{Matrix}
use Rattle.parity.specs.Words.{solved, lone_check, lone_bit, steps, agrees, inside, odd, residue, erased, is_one, peels, peeled}
use Rattle.parity.proofs.Finite.Bools.{or_false_both, or_else, same_test}
use Rattle.parity.proofs.Finite.Sums.{is_true, is_false, is, one≤1, byte_one, eqb_one, eqb_two, all_at, all_not, count_two, count_cong, count_le, count_bound, any_of, count_at, sum_point}
use Rattle.parity.proofs.Finite.Firsts.{least_at}
use Rattle.parity.proofs.Splits.Split.{Stops}
use Rattle.parity.proofs.Words.Extend.{odd_only, inside_cong}
use Rattle.parity.proofs.Words.Residue.{Within, inside_le, inside_pos, outside, any_set_at, residue_of, residue_within, residue_stops, Solves, solve}
use Rattle.parity.proofs.Words.Peel.{peels_solved, peeled_left, peeled_value}

not_one : (a : ℕ) → eqb a 2 ≡ true → eqb a 1 ≡ false
not_one a e = rw (eqb-true a 2 e)

module _ (h : Matrix) (N c b : ℕ) (w : ℕ → ℕ) where
  pub solved_at : solved h N c b w b ≡ one (odd (inside h N c (is_one w)))
  unfolding solved
  solved_at = rw (eq-eqb b b refl)

  pub solved_other : (i : ℕ) → (i ≡ b → ⊥) → solved h N c b w i ≡ w i
  unfolding solved
  solved_other i d = rw (ne_eqb i b d)

-- w is a stage of peeling w₀
pub record Stage (h : Matrix) (N M : ℕ) (w₀ w : ℕ → ℕ) : Type 0 where
  pub shrinks : Within N (erased w) (erased w₀)
  pub holds : (s : ℕ → Bool) → Stops h N M s → Within N s (erased w₀) → Within N s (erased w)
  pub right : (y : ℕ → Bool) → Solves h N M (erased w₀) (residue h N M (erased w₀)) (is_one w₀) y → (b : ℕ) → b < N → erased w b ≡ false → y b ≡ is_one w b
  pub known : (b : ℕ) → b < N → erased w₀ b ≡ false → w b ≡ w₀ b
  pub bytes : (b : ℕ) → b < N → w b ≤ 2

pub stage_start : (h : Matrix) (N M : ℕ) (w : ℕ → ℕ) → ((b : ℕ) → b < N → w b ≤ 2) → Stage h N M w w
stage_start h N M w u = record
    { shrinks = λ b k e. e; holds = λ s t i. i; right = λ y s b k e. s.known b k e; known = λ b k e. refl; bytes = u }

module _ (h : Matrix) (N M : ℕ) (w₀ w : ℕ → ℕ) (S : Stage h N M w₀ w) where
  -- the residue is still erased
  left_erased : Within N (residue h N M (erased w₀)) (erased w)
  left_erased = S.holds (residue h N M (erased w₀)) (residue_stops h N M (erased w₀)) (residue_within h N M (erased w₀))

  module _ (c b : ℕ) (cm : c < M) (bn : b < N) (hb : h c b ≡ true) (eb : erased w b ≡ true) (alone : inside h N c (erased w) ≡ 1) where
    -- no other bit of the check is erased
    others : (i : ℕ) → i < N → (i ≡ b → ⊥) → h c i ≡ true → erased w i ≡ false
    unfolding inside
    others i k d p =
        elim (is (erased w i)) [
          | is_false q ↦ q
          | is_true q ↦ absurd (omega (arith, count_two N (λ b. h c b && erased w b) i b k bn d (rw (p, q)) (rw (hb, eb))))
        ]

    -- the check has no bit of the residue, so a solution makes it even, and agrees with the word at its other bits
    step_right : (y : ℕ → Bool) → Solves h N M (erased w₀) (residue h N M (erased w₀)) (is_one w₀) y → y b ≡ odd (inside h N c (is_one w))
    unfolding inside count
    step_right y s =
        let r = inside_le h N c (residue h N M (erased w₀)) (erased w) left_erased in
        let t = residue_stops h N M (erased w₀) c cm in
        let v = s.even c cm (omega arith) in
        let p = sum_point N b {f = λ i. one (h c i && y i)} {g = λ i. one (h c i && is_one w i)} bn
        (λ i k d. elim (is (h c i)) [ is_true q ↦ rw (q, S.right y s i k (others i k d q)) | is_false q ↦ rw q ]) in
        odd_only (inside h N c (is_one w)) (y b) (omega (arith, rw (hb, not_one (w b) eb) at p))

    pub step : Stage h N M w₀ (solved h N c b w)
    step = record {
      shrinks = λ i k e. S.shrinks i k (elim (ℕ_discrete i b) [ yes q ↦ rw q eb | no d ↦ rw (solved_other h N c b w i d) at e ]);
      holds = λ s t u i k p. elim (ℕ_discrete i b) [
        | yes q ↦ absurd (t c cm (omega (arith, inside_le h N c s (erased w) (S.holds s t u), inside_pos h N c s b bn hb (rw q at p))))
        | no d ↦ rw (solved_other h N c b w i d) (S.holds s t u i k p)
      ];
      right = λ y s i k e. elim (ℕ_discrete i b) [
        | yes q ↦ rw (q, solved_at h N c b w, eqb_one) (step_right y s)
        | no d ↦ rw (solved_other h N c b w i d) (S.right y s i k (rw (solved_other h N c b w i d) at e))
      ];
      known = λ i k e. elim (ℕ_discrete i b) [
        | yes q ↦ absurd (true≢false (sym (S.shrinks b bn eb) ∙ (rw q at e)))
        | no d ↦ solved_other h N c b w i d ∙ S.known i k e
      ];
      bytes = λ i k. elim (ℕ_discrete i b) [
        | yes q ↦ rw (q, solved_at h N c b w) (omega (arith, one≤1 (odd (inside h N c (is_one w)))))
        | no d ↦ rw (solved_other h N c b w i d) (S.bytes i k)
      ];
    }

  -- No check has exactly one erased bit: the end.
  module _ (T : Stops h N M (erased w)) where
    -- whatever the order, what is still erased is the residue
    pub ends : (b : ℕ) → b < N → erased w b ≡ residue h N M (erased w₀) b
    ends b k = same_test (erased w b) (residue h N M (erased w₀) b) (residue_of h N M (erased w₀) (erased w) T S.shrinks b k) (left_erased b k)

    -- each check with no erased bit left is even: the word is the one that the definition writes
    solves_end : agrees h N M w ≡ true → Solves h N M (erased w₀) (residue h N M (erased w₀)) (is_one w₀) (is_one w)
    unfolding agrees
    solves_end e = record {
      known = λ b k q. ap (λ a. eqb a 1) (S.known b k q);
      even = λ c k q. eqb-true _ _ (or_else (not (eqb (inside h N c (erased w)) 0)) _ (all_at M _ e c k) (rw (eq-eqb _ _ (inside_cong h N c ends ∙ q))));
    }

    pub done : agrees h N M w ≡ true → (peels h N M w₀ ≡ true) × ((b : ℕ) → b < N → peeled h N M w₀ b ≡ w b)
    done e = (
      peels_solved h N M w₀ (is_one w) (solves_end e),
      λ b k. elim (is (erased w b)) [
        | is_true q ↦ peeled_left h N M w₀ (is_one w) (solves_end e) b (sym (ends b k) ∙ q) ∙ sym (eqb-true _ _ q)
        | is_false q ↦ peeled_value h N M w₀ (is_one w) (solves_end e) b k (sym (ends b k) ∙ q) ∙ byte_one (w b) (omega (arith, S.bytes b k, eqb-false (w b) 2 q))
      ],
    )

    -- one is odd: peeling is refused
    pub contradiction : agrees h N M w ≡ false → peels h N M w₀ ≡ false
    unfolding peels agrees
    contradiction e =
        elim (is (peels h N M w₀)) [
          | is_false q ↦ q
          | is_true q ↦
              let (y, t) = any_set_at N _ q in
              let s = (solve h N M (erased w₀) (residue h N M (erased w₀)) (is_one w₀) y).0 t in
              let (c, k, f) = all_not M _ e in
              let (f₁, f₂) = or_false_both (not (eqb (inside h N c (erased w)) 0)) (eqb (inside h N c (is_one w) % 2) 0) f in
              let z = eqb-true (inside h N c (erased w)) 0 (not-false _ f₁) in
              absurd (eqb-false (inside h N c (is_one w) % 2) 0 f₂
              (sym (ap (◌% 2) (agree c y s z)) ∙ s.even c k (sym (inside_cong h N c ends) ∙ z)))
        ]
      where
        agree : (c : ℕ) (y : ℕ → Bool) → Solves h N M (erased w₀) (residue h N M (erased w₀)) (is_one w₀) y → inside h N c (erased w) ≡ 0 → inside h N c y ≡ inside h N c (is_one w)
        agree c y s z = unfold inside in count_cong N (λ b k. elim (is (h c b))
            [ is_true p ↦ rw (p, S.right y s b k (outside h N c (erased w) z b k p)) | is_false p ↦ rw p ])

inside_count : (h : Matrix) (N c : ℕ) (s : ℕ → Bool) → inside h N c s ≤ count N s
unfolding inside
inside_count h N c s = count_le N (λ b. h c b && s b) s (λ b k e. ((and-eq-true_iff (h c b) (s b)).0 e).1)

-- how many bits of a word are erased falls with each step
pub fewer : (h : Matrix) (N c b : ℕ) (w : ℕ → ℕ) → b < N → erased w b ≡ true → count N (erased w) ≡ suc (count N (erased (solved h N c b w)))
unfolding count
fewer h N c b w k e =
    let p = sum_point N b {f = λ i. one (erased w i)} {g = λ i. one (erased (solved h N c b w) i)} k (λ i l d. rw (solved_other h N c b w i d)) in
    let q : one (erased (solved h N c b w) b) ≡ 0 = rw (solved_at h N c b w, eqb_two (odd (inside h N c (is_one w)))) in
    omega (arith, rw e at p)

lone_at_lem : (h : Matrix) (N M : ℕ) (w : ℕ → ℕ) → any M (λ c. eqb (inside h N c (erased w)) 1) ≡ true
    → (lone_check h N M w < M) × (inside h N (lone_check h N M w) (erased w) ≡ 1)
    × (lone_bit h N (lone_check h N M w) w < N) × (h (lone_check h N M w) (lone_bit h N (lone_check h N M w) w) ≡ true) × (erased w (lone_bit h N (lone_check h N M w) w) ≡ true)
unfolding lone_check lone_bit inside
lone_at_lem h N M w e =
    let (cm, p) = least_at M (λ c. eqb (inside h N c (erased w)) 1) e in
    let a : inside h N (lone_check h N M w) (erased w) ≡ 1 = eqb-true _ _ p in
    let (i, k, q) = count_at N (λ b. h (lone_check h N M w) b && erased w b) (omega arith) in
    let (bn, r) = least_at N (λ b. h (lone_check h N M w) b && erased w b) (any_of N _ i k q) in
    let (r₁, r₂) = (and-eq-true_iff (h (lone_check h N M w) (lone_bit h N (lone_check h N M w) w)) (erased w (lone_bit h N (lone_check h N M w) w))).0 r in
    (cm, a, bn, r₁, r₂)

-- What a word w is where steps from w₀ end: peeling is refused exactly if w disagrees with a check, the residue is what is still erased, and
-- w is the peeled word.
pub record Ended (h : Matrix) (N M : ℕ) (w₀ w : ℕ → ℕ) : Type 0 where
  pub answers : peels h N M w₀ ≡ agrees h N M w
  pub still : (b : ℕ) → b < N → residue h N M (erased w₀) b ≡ erased w b
  pub word : peels h N M w₀ ≡ true → (b : ℕ) → b < N → peeled h N M w₀ b ≡ w b

-- a stage at which no check has exactly one erased bit is the end
pub ended : (h : Matrix) (N M : ℕ) (w₀ w : ℕ → ℕ) → Stage h N M w₀ w → Stops h N M (erased w) → Ended h N M w₀ w
ended h N M w₀ w S T =
    let e : (b : ℕ) → b < N → residue h N M (erased w₀) b ≡ erased w b = λ b k. sym (ends h N M w₀ w S T b k) in
    let p : (peels h N M w₀ ≡ agrees h N M w) × (peels h N M w₀ ≡ true → (b : ℕ) → b < N → peeled h N M w₀ b ≡ w b) = elim (is (agrees h N M w)) [
      | is_true q ↦ let (r, t) = done h N M w₀ w S T q in (r ∙ sym q, λ u. t)
      | is_false q ↦ let r = contradiction h N M w₀ w S T q in (r ∙ sym q, λ u. absurd (true≢false (sym u ∙ r)))
    ] in
    record {
      answers = p.0;
      still = e;
      word = p.1;
    }

module _ (h : Matrix) (N M : ℕ) (w₀ : ℕ → ℕ) where
  -- enough steps lead to the end
  pub steps_end : (fuel : ℕ) (w : ℕ → ℕ) → Stage h N M w₀ w → count N (erased w) ≤ fuel
      → Stage h N M w₀ (steps fuel h N M w) × Stops h N M (erased (steps fuel h N M w))
  unfolding steps
  steps_end zero w S k = (S, λ c l e. omega (arith, inside_count h N c (erased w)))
  steps_end (suc fuel) w S k =
      elim (is (any M (λ c. eqb (inside h N c (erased w)) 1))) [
        | is_false e ↦ rw e (S, λ c l q. true≢false (sym (any_of M _ c l (eq-eqb (inside h N c (erased w)) 1 q)) ∙ e))
        | is_true e ↦ rw e
            (let (cm, a, bn, r₁, r₂) = lone_at_lem h N M w e in
            steps_end fuel _ (step h N M w₀ w S _ _ cm bn r₁ r₂ a) (omega (arith, fewer h N (lone_check h N M w) (lone_bit h N (lone_check h N M w) w) w bn r₂)))
      ]

  -- Peeling by steps is peeling.
  pub peel_steps : ((b : ℕ) → b < N → w₀ b ≤ 2) → Ended h N M w₀ (steps N h N M w₀)
  peel_steps u =
      let (S, T) = steps_end N w₀ (stage_start h N M w₀ u) (count_bound N (erased w₀)) in
      ended h N M w₀ (steps N h N M w₀) S T

-- the words that solving steps lead to from w₀, in any order
pub data Reached (h : Matrix) (N M : ℕ) (w₀ : ℕ → ℕ) : (ℕ → ℕ) → Type 0 where
  start : Reached h N M w₀ w₀
  next : {w : ℕ → ℕ} → Reached h N M w₀ w → (c b : ℕ) → c < M → b < N → h c b ≡ true → erased w b ≡ true → inside h N c (erased w) ≡ 1
      → Reached h N M w₀ (solved h N c b w)

reached_stage : (h : Matrix) (N M : ℕ) (w₀ w : ℕ → ℕ) → ((b : ℕ) → b < N → w₀ b ≤ 2) → Reached h N M w₀ w → Stage h N M w₀ w
reached_stage h N M w₀ w u start = stage_start h N M w₀ u
reached_stage h N M w₀ w u (next {w = v} r c b cm bn hb eb a) = step h N M w₀ v (reached_stage h N M w₀ v u r) c b cm bn hb eb a

-- Whatever the order of the steps, once no check has exactly one erased bit the word is the peeled one, or peeling is refused.
pub any_order : (h : Matrix) (N M : ℕ) (w₀ w : ℕ → ℕ) → ((b : ℕ) → b < N → w₀ b ≤ 2) → Reached h N M w₀ w → Stops h N M (erased w)
    → Ended h N M w₀ w
any_order h N M w₀ w u r t = ended h N M w₀ w (reached_stage h N M w₀ w u r) t
