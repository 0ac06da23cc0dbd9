-- Reduced rows with one bit of the residue, listed as steps. Assumes nothing.
use mathlib.Core.Path.{◌≡◌, refl, sym, ap, ◌∙◌}
use mathlib.Core.Bool.{Bool, true, false, not, ◌&&◌, ◌||◌, and-true, and-false, or-false, true≢false}
use mathlib.Core.List.{List}
use Prim.Native.Nat.{ℕ, suc, ◌+◌, ◌≤◌, ◌<◌}
use native.Mathlib.Numerals.{add-one}
use native.Mathlib.Omega.{arith}
use native.Mathlib.Decide.{ℕ_discrete}
use lib.Dec.{eqb}
use lib.ListN.{get_or, length, take}
use borrow.Author.Tests.{eq-eqb, ne_eqb}
use Rattle.std.proofs.lemmas.List.{length-take-le}
use Rattle.parity.specs.Finite.{count, any}
use Rattle.parity.specs.Matrix.{Matrix, put}
use Rattle.parity.specs.Words.{inside}
use Rattle.parity.proofs.Finite.Firsts.{any_none}
use Rattle.parity.proofs.Matrix.Lent.{put_here, put_place}
use Rattle.pivots.specs.Pivots.{alone, alone_odd}
use Rattle.residue.proofs.Reading.{inside_in}
use Rattle.pivots.proofs.Writing.{pivot_stays, pivots_none, pivots_more}
use Rattle.lanes.specs.declared.Step.{Step}
use Rattle.lanes.specs.Lanes.{ran, solved_by, checks_of, bits_of}
use Rattle.plan.specs.Order.{Noted, Own, Listed}
use Rattle.plan.proofs.Ordering.{ran_same, first_checks, first_bits, noted_check, noted_bit, other_checks, other_bits}

pub listed_none : (g : Matrix) (B : ℕ) (e : ℕ → Bool) (pivots : List ℕ) (l : ℕ → Bool) (cs bs : List ℕ) → Listed g B e pivots 0 l l cs bs 0
unfolding ran
listed_none g B e pivots l cs bs = record {
  few = omega arith;
  rows = record { low = λ i k. absurd (omega arith) };
  bits = λ n P. record { low = λ i k. absurd (omega arith) };
  written = λ o. pivots_none g B e o pivots l o;
}

-- the first s steps are listed as they are among all
pub listed_first : (g : Matrix) (B : ℕ) (e : ℕ → Bool) (pivots : List ℕ) (r : ℕ) (l l' : ℕ → Bool) (steps : List Step) (s : ℕ) → s ≤ length steps → Listed g B e pivots r l l' (checks_of steps) (bits_of steps) s
    → Listed g B e pivots r l l' (checks_of (take s steps)) (bits_of (take s steps)) (length (take s steps))
listed_first g B e pivots r l l' steps s k L = rw (length-take-le s steps k) record {
  few = L.few;
  rows = record { low = λ i k. rw (first_checks steps s i k) (L.rows.low i k) };
  bits = λ n P. record { low = λ i k. rw (first_bits steps s i k) ((L.bits n P).low i k) };
  written = λ o. rw (ran_same g B (checks_of steps) (bits_of steps) (checks_of (take s steps)) (bits_of (take s steps)) s o (first_checks steps s) (first_bits steps s)) (L.written o);
}

eqb_turn : (a b : ℕ) → eqb a b ≡ eqb b a
eqb_turn a b = elim (ℕ_discrete a b) [ yes q ↦ rw q | no d ↦ rw (ne_eqb a b d, ne_eqb b a (λ q. d (sym q))) ]

module _ (g : Matrix) (B : ℕ) (e : ℕ → Bool) (pivots : List ℕ) (c r : ℕ) (k : c < r) (O : Own g r pivots) (l l₁ : ℕ → Bool) (cs bs : List ℕ) (s : ℕ) (L : Listed g B e pivots c l l₁ cs bs s) where
  -- the row of the next pivot has no bit that the steps so far have written
  before : (o : ℕ → Bool) → inside g B c (ran g B cs bs s o) ≡ inside g B c o
  before o = inside_in g B c (ran g B cs bs s o) o (λ a i t. (L.written o).value a ∙ rw (none a t, or-false))
    where
      none : (a : ℕ) → g c a ≡ true → any c (λ d. eqb (get_or pivots d 0) a && alone_odd g B e o d) ≡ false
      none a t = any_none c (λ d. eqb (get_or pivots d 0) a && alone_odd g B e o d) (λ d i. elim (ℕ_discrete (get_or pivots d 0) a) [
        | yes q ↦ absurd (true≢false (sym t ∙ ap (g c) (sym q) ∙ O.other d c (omega arith) k (λ z. omega arith)))
        | no q ↦ rw (ne_eqb (get_or pivots d 0) a q)
      ])

  -- it is no step
  pub listed_past : (n : ℕ) → n ≡ count B (λ t. g c t && e t) → (n ≡ 1 → ⊥) → Listed g B e pivots (c + 1) l l₁ cs bs s
  listed_past n q d = record {
    few = omega (arith, L.few);
    rows = record { low = λ i m. omega (arith, L.rows.low i m) };
    bits = λ n P. L.bits n record { low = λ i m. P.low i (omega arith) };
    written = λ o. pivots_more g B e o pivots l o c l₁ (ran g B cs bs s o) l₁ (ran g B cs bs s o) (L.written o) (pivot_stays g B e o c (get_or pivots c 0) n q (λ i. l₁) (λ i. ran g B cs bs s o) d);
  }

  -- it is one
  module _ (n : ℕ) (q : n ≡ count B (λ t. g c t && e t)) (t : n ≡ 1) (L₁ L₂ : Matrix) (w : L₁ 0 ≡ l₁) (z : L₂ ≡ put 0 (get_or pivots c 0) false L₁)
      (cs' bs' : List ℕ) (fc : get_or cs' s 0 ≡ c) (fb : get_or bs' s 0 ≡ get_or pivots c 0) (sc : (i : ℕ) → i < s → get_or cs' i 0 ≡ get_or cs i 0) (sb : (i : ℕ) → i < s → get_or bs' i 0 ≡ get_or bs i 0) where
    single : alone g B e c ≡ true
    unfolding inside
    single = eq-eqb (inside g B c e) 1 (sym q ∙ t)

    b : ℕ
    b = get_or pivots c 0

    leaves : (a : ℕ) → L₂ 0 a ≡ (l₁ a && not (eqb b a && alone g B e c))
    unfolding b
    leaves a = ap (λ (h : Matrix). h 0 a) z ∙ rw (single, ← w) (elim (ℕ_discrete b a) [
      | yes i ↦ rw (← i, eq-eqb b b refl, and-false) (put_here 0 b false L₁)
      | no d ↦ rw (ne_eqb b a d, and-true) (put_place 0 b false L₁ 0 a (λ i. d (sym i)))
    ])

    enters : (o : ℕ → Bool) (a : ℕ) → ran g B cs' bs' (suc s) o a ≡ (ran g B cs bs s o a || (eqb b a && alone_odd g B e o c))
    unfolding ran solved_by b
    enters o a = rw (ran_same g B cs bs cs' bs' s o sc sb, fc, fb, before o, single, eqb_turn a (get_or pivots c 0))

    pub listed_next : Listed g B e pivots (c + 1) l (L₂ 0) cs' bs' (s + 1)
    unfolding b
    listed_next = record {
      few = omega (arith, L.few);
      rows = record { low = λ i m. elim (ℕ_discrete i s) [ yes j ↦ rw (j, fc) (omega arith) | no d ↦ rw (sc i (omega arith)) (omega (arith, L.rows.low i (omega arith))) ] };
      bits = λ n P. record { low = λ i m. elim (ℕ_discrete i s) [ yes j ↦ rw (j, fb) (P.low c (omega arith)) | no d ↦ rw (sb i (omega arith)) ((L.bits n record { low = λ u v. P.low u (omega arith) }).low i (omega arith)) ] };
      written = λ o. rw (add-one s) (pivots_more g B e o pivots l o c l₁ (ran g B cs bs s o) (L₂ 0) (ran g B cs' bs' (suc s) o) (L.written o) record { left = leaves; value = enters o });
    }

-- a step that is noted
pub listed_noted : (g : Matrix) (B : ℕ) (e : ℕ → Bool) (pivots : List ℕ) (c r : ℕ) → c < r → Own g r pivots → (l : ℕ → Bool) (L₁ L₂ : Matrix) (steps steps' : List Step) (s : ℕ)
    → Listed g B e pivots c l (L₁ 0) (checks_of steps) (bits_of steps) s → (n : ℕ) → n ≡ count B (λ t. g c t && e t) → n ≡ 1 → L₂ ≡ put 0 (get_or pivots c 0) false L₁
    → Noted steps steps' s c (get_or pivots c 0) → s < length steps → Listed g B e pivots (c + 1) l (L₂ 0) (checks_of steps') (bits_of steps') (s + 1)
listed_noted g B e pivots c r k O l L₁ L₂ steps steps' s L n q t z N i =
    let b = get_or pivots c 0 in
    listed_next g B e pivots c r k O l (L₁ 0) (checks_of steps) (bits_of steps) s L n q t L₁ L₂ refl z (checks_of steps') (bits_of steps')
    (noted_check steps steps' s c b N i) (noted_bit steps steps' s c b N i) (other_checks steps steps' s c b N) (other_bits steps steps' s c b N)
