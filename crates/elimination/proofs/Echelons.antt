-- The echelon form: clearing below the pivots alone follows the elimination that clears all checks; and the turn of a bit in both. Assumes nothing.
use mathlib.Core.Path.{◌≡◌, refl, sym, ◌∙◌}
use mathlib.Core.Bool.{false, xor}
use mathlib.Core.List.{List}
use Prim.Native.Nat.{ℕ, ◌+◌, ◌≤◌, ◌<◌}
use native.Mathlib.Omega.{arith}
use native.Mathlib.Decide.{ℕ_discrete, dec_lt}
use lib.ListN.{get_or, length, set}
use lib.Seq.{get_or-set_same, get_or-set_other}
use Rattle.parity.specs.Matrix.{Matrix}
use Rattle.rows.proofs.Writing.{combined_at}
use Rattle.elimination.specs.Reduction.{FirstIn, lifted, around, every_bit, Echelon, Turned}
use Rattle.elimination.proofs.Clearing.{same_trans, around_own, around_else, around_out, around_same, lifted_one, lifted_two, lifted_else, lifted_same, lifted_keep, lifted_own, pivoted}
use Rattle.elimination.proofs.Turns.{reduction_none, reduction_pivot, reduction_start}

-- The checks of f from r on are those of g.
module _ (g f : Matrix) (m p r b : ℕ) (a : (c j : ℕ) → r ≤ c → g c j ≡ f c j) where
  first_same : FirstIn g m r b p → FirstIn f m r b p
  first_same F = record { from = F.from; to = F.to; none = λ c k l. sym (a c b k) ∙ F.none c k l; found = λ l. sym (a p b F.from) ∙ F.found l }

  lifted_agree : r ≤ p → (c j : ℕ) → r ≤ c → lifted p r g c j ≡ lifted p r f c j
  lifted_agree k c j l = elim (ℕ_discrete p r) [
    | yes e ↦ rw (lifted_one p r g e, lifted_one p r f e) (a c j l)
    | no d ↦ elim (ℕ_discrete c r) [
      | no n ↦ lifted_else p r g c j n ∙ a c j l ∙ sym (lifted_else p r f c j n)
      | yes q ↦ rw (lifted_two p r g d, lifted_two p r f d, q, combined_at xor r (g p) g j, combined_at xor r (f p) f j, a r j (omega arith), a p j k)
    ]
  ]

  -- making b the pivot of check r in f, for all checks, has the checks behind r that clearing them alone has
  around_agree : r ≤ p → r < m → (c j : ℕ) → r < c → around r m r b (lifted p r g) c j ≡ around 0 m r b (lifted p r f) c j
  around_agree k rm c j l =
      let s = lifted_agree k in
      elim (dec_lt c m) [
        | yes i ↦ around_else (lifted p r g) r m r b (omega arith) rm c j (omega arith) i (λ z. omega arith)
            ∙ rw (s c j (omega arith), s c b (omega arith), s r j (omega arith)) (sym (around_else (lifted p r f) 0 m r b (omega arith) rm c j (omega arith) i (λ z. omega arith)))
        | no i ↦ around_out (lifted p r g) r m r b (omega arith) rm c j (λ x y. omega arith) ∙ s c j (omega arith)
            ∙ sym (around_out (lifted p r f) 0 m r b (omega arith) rm c j (λ x y. omega arith))
      ]

module _ (g : Matrix) (m b r : ℕ) (at : List ℕ) where
  -- no check from r on contains bit b
  pub turned_none : (first : ℕ) → ((c : ℕ) → r ≤ c → c < m → g c b ≡ false) → Turned first g g m b r at r at
  turned_none first f = record {
    whole = λ z h n e t R. reduction_none g m b r at h n e t R f;
    below = λ z h n E. record {
      same = E.same;
      own = E.own;
      first = E.first;
      whole = E.whole;
      reduction = reduction_none E.whole m b r at h n every_bit refl E.reduction (λ c k l. sym (E.rest c b k) ∙ f c k l);
      rest = E.rest;
    };
  }

  -- bit b is the pivot of check r now
  module _ (p : ℕ) (F : FirstIn g m r b p) (pm : p < m) (fit : r < length at) where
    k : Matrix
    k = around r m r b (lifted p r g)

    rm : r < m
    rm = omega (arith, F.from)

    here : get_or (set at r b) r 0 ≡ b
    here = get_or-set_same at r b 0 fit

    else : (c : ℕ) → (c ≡ r → ⊥) → get_or (set at r b) c 0 ≡ get_or at c 0
    else c d = get_or-set_other at r c b 0 d

    above : (c j : ℕ) → c < r → k c j ≡ g c j
    unfolding k
    above c j l = around_out (lifted p r g) r m r b (omega arith) rm c j (λ x y. omega arith) ∙ lifted_else p r g c j (λ z. omega arith)

    own : (j : ℕ) → k r j ≡ lifted p r g r j
    unfolding k
    own j = around_own (lifted p r g) r m r b (omega arith) rm j

    pivot_echelon : (h : Matrix) (n : ℕ) → Echelon h g n m b r at → Echelon h k n m (b + 1) (r + 1) (set at r b)
    unfolding k
    pivot_echelon h n E =
        let none : (c j : ℕ) → r ≤ c → c < m → j < b → g c j ≡ false = λ c j x y z. E.rest c j x ∙ E.reduction.form.rest c j x y z refl in
        let W = E.whole in
        record {
          same = same_trans h g k n m E.same (same_trans g (lifted p r g) k n m (lifted_same p r g n m pm) (around_same (lifted p r g) r m r b (omega arith) rm n));
          own = λ c l. elim (ℕ_discrete c r) [
            | yes q ↦ rw (q, here) (own b ∙ lifted_own g m p r b F pm)
            | no d ↦ rw (else c d) (above c (get_or at c 0) (omega arith) ∙ E.own c (omega arith))
          ];
          first = λ c j l i. elim (ℕ_discrete c r) [
            | yes q ↦ let i' : j < b = rw (q, here) at i in rw q (own j ∙ lifted_keep p r g r j (none p j F.from pm i') ∙ none r j (omega arith) rm i')
            | no d ↦ let i' : j < get_or at c 0 = rw (else c d) at i in above c j (omega arith) ∙ E.first c j (omega arith) i'
          ];
          whole = around 0 m r b (lifted p r W);
          reduction = reduction_pivot W m b r at h n every_bit refl E.reduction _ p F.from pm fit (pivoted W m p r b (first_same g W m p r b E.rest F) pm);
          rest = λ c j l. around_agree g W m p r b E.rest F.from rm c j (omega arith);
        }

    pub turned_pivot : (first : ℕ) → Turned first g (around first m r b (lifted p r g)) m b r at (r + 1) (set at r b)
    unfolding k
    turned_pivot first = record {
      whole = λ z h n e t R. rw z (reduction_pivot g m b r at h n e t R _ p F.from pm fit (pivoted g m p r b F pm));
      below = λ z h n E. rw z (pivot_echelon h n E);
    }

pub echelon_start : (h : Matrix) (n m : ℕ) (at : List ℕ) → Echelon h h n m 0 0 at
echelon_start h n m at = record {
  same = λ x. refl;
  own = λ c k. absurd (omega arith);
  first = λ c j k. absurd (omega arith);
  whole = h;
  reduction = reduction_start h n m every_bit at;
  rest = λ c j k. refl;
}
