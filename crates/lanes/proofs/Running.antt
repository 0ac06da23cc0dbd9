-- Steps in all lanes at once, and tests. Assumes nothing.
use mathlib.Core.Path.{◌≡◌, refl, sym, ap, ◌∙◌, fun_ext}
use mathlib.Core.Bool.{Bool, true, false, not, ◌&&◌, ◌||◌, or-false, and-false}
use mathlib.Core.List.{List}
use Prim.Native.Nat.{ℕ, zero, suc, ◌+◌, ◌≤◌, ◌<◌}
use native.Mathlib.Numerals.{add-one}
use native.Mathlib.Omega.{arith}
use native.Mathlib.Decide.{ℕ_discrete}
use lib.Dec.{leb}
use lib.ListN.{get_or, get_or-map}
use borrow.Author.Tests.{eq-eqb, ne_eqb, le-leb, lt-leb}
use Rattle.parity.specs.Finite.{any}
use Rattle.parity.specs.Matrix.{Matrix}
use Rattle.parity.specs.Words.{inside, odd}
use Rattle.parity.proofs.Finite.Firsts.{any_none}
use Rattle.rows.proofs.Writing.{combined_at, combined_else}
use Rattle.lanes.specs.declared.Step.{Step}
use Rattle.lanes.specs.Lanes.{lane, either, Solved, solved_by, ran, Ran, uneven, Checked, Tested, SumOf, Low, checks_of, bits_of}

-- a step's numbers among those of all
abbrev pub no_step : Step
no_step = record { check = 0; bit = 0 }

pub check_at : (steps : List Step) (i : ℕ) → get_or (checks_of steps) i 0 ≡ (get_or steps i no_step).check
check_at steps i = get_or-map (λ (s : Step). s.check) steps i no_step

pub bit_at : (steps : List Step) (i : ℕ) → get_or (bits_of steps) i 0 ≡ (get_or steps i no_step).bit
bit_at steps i = get_or-map (λ (s : Step). s.bit) steps i no_step

pub ran_none : (h : Matrix) (B : ℕ) (cs bs : List ℕ) (x : Matrix) → Ran h B cs bs 0 x x
unfolding ran
ran_none h B cs bs x = record { each = λ j b. refl }

pub ran_next : (h : Matrix) (B : ℕ) (cs bs : List ℕ) (s : ℕ) (x y z : Matrix) → Ran h B cs bs s x y → Solved h B (get_or cs s 0) (get_or bs s 0) y z → Ran h B cs bs (s + 1) x z
unfolding ran solved_by
ran_next h B cs bs s x y z R S = rw (add-one s) record { each = λ j b. step j b }
  where
    lanes : (j : ℕ) → lane y j ≡ ran h B cs bs s (lane x j)
    lanes j = fun_ext (R.each j)

    step : (j b : ℕ) → z b j ≡ ran h B cs bs (suc s) (lane x j) b
    step j b = elim (ℕ_discrete b (get_or bs s 0)) [
      | yes q ↦ rw (q, eq-eqb (get_or bs s 0) (get_or bs s 0) refl) (S.here j ∙ rw (lanes j, R.each j (get_or bs s 0)))
      | no d ↦ rw (ne_eqb b (get_or bs s 0) d, or-false) (S.else b j d ∙ R.each j b)
    ]

-- bits that no step solves stay
pub ran_other : (h : Matrix) (B : ℕ) (cs bs : List ℕ) (s n : ℕ) (o : ℕ → Bool) → Low s n bs → (b : ℕ) → n ≤ b → ran h B cs bs s o b ≡ o b
unfolding ran solved_by
ran_other h B cs bs zero n o L b k = refl
ran_other h B cs bs (suc s) n o L b k =
    rw (ne_eqb b (get_or bs s 0) (λ q. omega (arith, L.low s (omega arith))), or-false) (ran_other h B cs bs s n o record { low = λ i l. L.low i (omega arith) } b k)

-- tests
pub tested_none : (h : Matrix) (B first : ℕ) (skip : ℕ → Bool) (x : Matrix) (f : ℕ → Bool) → Tested h B first first skip x f f
unfolding uneven
tested_none h B first skip x f = record { at = λ j. sym (rw (any_none first (λ c. leb first c && (not (skip c) && odd (inside h B c (lane x j)))) (λ c l. rw (above c l))) (or-false (f j))) }
  where
    above : (c : ℕ) → c < first → leb first c ≡ false
    above c l = lt-leb first c l

pub tested_next : (h : Matrix) (B first c : ℕ) (skip : ℕ → Bool) (x : Matrix) (f g g' : ℕ → Bool) → first ≤ c → Tested h B first c skip x f g → skip c ≡ false
    → Checked h B c x g g' → Tested h B first (c + 1) skip x f g'
unfolding uneven any
tested_next h B first c skip x f g g' k T q S = rw (add-one c) record { at = λ j. S.at j ∙ rw (T.at j) (go j) }
  where
    or_assoc : (p q r : Bool) → ((p || q) || r) ≡ (p || (q || r))
    or_assoc true q r = refl
    or_assoc false q r = refl

    go : (j : ℕ) → ((f j || uneven h B first c skip (lane x j)) || odd (inside h B c (lane x j))) ≡ (f j || uneven h B first (suc c) skip (lane x j))
    go j = rw (q, le-leb first c k) (or_assoc (f j) _ _)

pub tested_skip : (h : Matrix) (B first c : ℕ) (skip : ℕ → Bool) (x : Matrix) (f g : ℕ → Bool) → Tested h B first c skip x f g → skip c ≡ true → Tested h B first (c + 1) skip x f g
unfolding uneven any
tested_skip h B first c skip x f g T q = rw (add-one c) record { at = λ j. T.at j ∙ go j }
  where
    go : (j : ℕ) → (f j || uneven h B first c skip (lane x j)) ≡ (f j || uneven h B first (suc c) skip (lane x j))
    go j = rw (q, and-false, or-false)

-- what a sum that enters a row solves, and what it flags
pub solved_by_lem : (h : Matrix) (B c b : ℕ) (x x' : Matrix) (r : ℕ → Bool) → SumOf h B c x r → x' ≡ either b r x → Solved h B c b x x'
solved_by_lem h B c b x x' r S e = record {
  here = λ j. ap (λ (g : Matrix). g b j) e ∙ combined_at ◌||◌ b r x j ∙ rw (S.at j);
  else = λ a j d. ap (λ (g : Matrix). g a j) e ∙ combined_else ◌||◌ b r x a j d;
}

pub checked_by : (h : Matrix) (B c : ℕ) (x : Matrix) (r : ℕ → Bool) (y z : Matrix) → SumOf h B c x r → z ≡ either 0 r y → Checked h B c x (y 0) (z 0)
checked_by h B c x r y z S e = record { at = λ j. ap (λ (g : Matrix). g 0 j) e ∙ combined_at ◌||◌ 0 r y j ∙ rw (S.at j) }
