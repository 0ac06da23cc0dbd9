-- The checks that contain two bits, from their columns. Assumes nothing.
use mathlib.Core.Path.{◌≡◌, refl, sym, ◌∙◌}
use mathlib.Core.Bool.{Bool, true, false, ◌&&◌}
use mathlib.Core.List.{List}
use Prim.Native.Nat.{ℕ, ◌+◌, ◌*◌, ◌/◌, ◌%◌, ◌≤◌, ◌<◌}
use native.Mathlib.Nat.{div-lt_iff_lt-mul}
use native.Mathlib.Omega.{arith}
use native.Mathlib.Decide.{ℕ_discrete, dec_lt}
use lib.Bits.{bit_and}
use lib.Dec.{ltb, lit<}
use lib.ListN.{get_or, length, set, length-set}
use lib.Seq.{get_or-set_same, get_or-set_other}
use borrow.Author.Tests.{lt-ltb, le-ltb}
use Rattle.parity.specs.Matrix.{Matrix, lent}
use Rattle.parity.specs.Sound.{Clean}
use Rattle.parity.proofs.Matrix.Digits.{bit_of_and}
use Rattle.parity.proofs.Matrix.Lent.{lent_in, lent_out}
use Rattle.columns.specs.Columns.{ColumnIn}
use Rattle.exchange.specs.Merge.{Apart, Both, Meeting, Kept}

-- the words below i are the and of both, and the others are left
pub record Keeping (col other now : List ℕ) (i : ℕ) : Type 0 where
  pub same : length now ≡ length col
  pub done : (p : ℕ) → p < i → get_or now p 0 ≡ bit_and (get_or col p 0) (get_or other p 0)
  pub left : (p : ℕ) → i ≤ p → get_or now p 0 ≡ get_or col p 0

pub keeping_none : (col other : List ℕ) → Keeping col other col 0
keeping_none col other = record { same = refl; done = λ p l. absurd (omega arith); left = λ p l. refl }

pub keeping_next : (col other now : List ℕ) (i : ℕ) → i < length col → Keeping col other now i
    → Keeping col other (set now i (bit_and (get_or now i 0) (get_or other i 0))) (i + 1)
keeping_next col other now i l K = record {
  same = simp length-set K.same;
  done = λ p k. elim (ℕ_discrete p i) [
    | yes q ↦ rw (q, get_or-set_same now i (bit_and (get_or now i 0) (get_or other i 0)) 0 (omega (arith, K.same)), K.left i (omega arith))
    | no d ↦ rw (get_or-set_other now i p (bit_and (get_or now i 0) (get_or other i 0)) 0 d) (K.done p (omega arith))
  ];
  left = λ p k. rw (get_or-set_other now i p (bit_and (get_or now i 0) (get_or other i 0)) 0 (λ q. omega arith)) (K.left p (omega arith));
}

pub keeping_all : (W : ℕ) (col other now : List ℕ) → Keeping col other now W → Kept (lent W col 0) (lent W other 0) (lent W now 0)
keeping_all W col other now K = record {
  at = λ c. elim (dec_lt c (W * 64)) [
    | yes l ↦
        let e : 0 * W + c / 64 ≡ c / 64 = omega arith in
        rw (lent_in W now 0 c l, lent_in W col 0 c l, lent_in W other 0 c l, e, K.done (c / 64) ((div-lt_iff_lt-mul (lit< tt)).1 l)) (bit_of_and (get_or col (c / 64) 0) (get_or other (c / 64) 0) (c % 64))
    | no l ↦ rw (lent_out W now 0 c (omega arith), lent_out W col 0 c (omega arith))
  ];
}

-- Bits that no added check contains together: the given checks that contain both are all that do.
module _ (h : Matrix) (m M z u v : ℕ) (K : Clean h z M) (A : Apart h m M u v) where
  given_both : (c : ℕ) → (ltb c m && (h c u && h c v)) ≡ (h c u && h c v)
  given_both c =
      elim (dec_lt c m) [
        | yes l ↦ rw (lt-ltb c m l)
        | no l ↦ rw (le-ltb c m (omega arith)) (elim (dec_lt c M) [ yes k ↦ sym (A.never c (omega arith) k) | no k ↦ rw (K.checks c u (omega arith)) ])
      ]

  pub twice : (c : ℕ) → ((ltb c m && h c u) && (ltb c m && h c v)) ≡ (h c u && h c v)
  twice c = go (ltb c m) (h c u) (h c v) ∙ given_both c
    where
      go : (p a b : Bool) → ((p && a) && (p && b)) ≡ (p && (a && b))
      go true a b = refl
      go false a b = refl

  pub meeting_columns : (W : ℕ) (a b : List ℕ) → M ≤ W * 64 → ColumnIn W h m u a → ColumnIn W h m v b → Meeting h u v (lent W a 0) (lent W b 0)
  meeting_columns W a b k P Q = record {
    at = λ c. elim (dec_lt c (W * 64)) [
      | yes l ↦ rw (P.at c l, Q.at c l) (twice c)
      | no l ↦ rw (lent_out W a 0 c (omega arith), K.checks c u (omega arith))
    ];
  }

pub both_kept : (h : Matrix) (u v : ℕ) (set other kept : ℕ → Bool) → Meeting h u v set other → Kept set other kept → Both h u v kept
both_kept h u v set other kept P R = record { at = λ c. R.at c ∙ P.at c }
