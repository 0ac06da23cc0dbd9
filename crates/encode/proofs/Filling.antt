-- Filling in the pivots, place by place. Assumes nothing.
use mathlib.Core.Path.{◌≡◌, refl, sym, ◌∙◌}
use mathlib.Core.Bool.{Bool, ◌&&◌, false≢true}
use mathlib.Core.List.{List}
use Prim.Native.Nat.{ℕ, ◌+◌, ◌<◌}
use native.Mathlib.Omega.{arith}
use native.Mathlib.Decide.{ℕ_discrete}
use lib.ListN.{length, set, length-set}
use lib.Seq.{get_or-set_same, get_or-set_other}
use borrow.Author.Tests.{eq-eqb, ne_eqb, lt-ltb}
use Rattle.parity.specs.Finite.{one, count}
use Rattle.parity.specs.Matrix.{Matrix, lent, put}
use Rattle.parity.specs.Words.{is_one, inside, odd}
use Rattle.parity.specs.Calls.{byte_of}
use Rattle.parity.proofs.Finite.Sums.{one≤1, eqb_one, sum_point, count_cong}
use Rattle.parity.proofs.Words.Extend.{odd_added}
use Rattle.elimination.proofs.Reduced.{pivot_at_lem}
use Rattle.sets.specs.Sets.{SetOf}
use Rattle.message_bits.specs.Placing.{pivot_at}
use Rattle.encode.specs.Filling.{Open, Filled}

pub fill_start : (g : Matrix) (n r : ℕ) (pivots : List ℕ) (w : ℕ → ℕ) → Open g n r pivots w → Filled g n r pivots r w w
fill_start g n r pivots w O = record { even = λ c k l. absurd (omega arith); bit = λ c k l. absurd (omega arith); none = O.none; else = λ b q. refl }

module _ (g : Matrix) (n r : ℕ) (pivots : List ℕ) (w : ℕ → ℕ) (O : Open g n r pivots w) (j i : ℕ) (next : j ≡ i + 1) (u : List ℕ) (F : Filled g n r pivots j w (byte_of u))
    (ir : i < r) (l : length u ≡ n) where
  abbrev spot : ℕ
  spot = pivot_at pivots i

  abbrev value : ℕ
  value = one (odd (inside g n i (is_one (byte_of u))))

  abbrev filled : ℕ → ℕ
  filled = byte_of (set u spot value)

  filled_here : filled spot ≡ value
  filled_here = get_or-set_same u spot value 0 (rw l (O.rising.low i ir))

  other : (b : ℕ) → (b ≡ spot → ⊥) → filled b ≡ byte_of u b
  other b d = get_or-set_other u spot b value 0 d

  -- the bit is in no later check
  later : (c : ℕ) → i < c → c < r → inside g n c (is_one filled) ≡ inside g n c (is_one (byte_of u))
  unfolding inside
  later c k m = count_cong n (λ b x. elim (ℕ_discrete b spot) [
    | yes q ↦ rw (q, O.first c spot m (O.rising.rise i c k m))
    | no d ↦ rw (other b d)
  ])

  own : inside g n i (is_one filled) ≡ inside g n i (is_one (byte_of u)) + value
  unfolding inside count
  own =
      let p = sum_point n spot {f = λ b. one (g i b && is_one filled b)} {g = λ b. one (g i b && is_one (byte_of u) b)} (O.rising.low i ir) (λ b x d. rw (other b d)) in
      omega (arith, rw (O.own i ir, F.none i (omega arith), filled_here, eqb_one (odd (inside g n i (is_one (byte_of u))))) at p)

  pub fill_more : Filled g n r pivots i w filled
  fill_more = record {
    even = λ c k m. elim (ℕ_discrete c i) [
      | yes q ↦ rw (q, own) (odd_added (inside g n i (is_one (byte_of u))))
      | no d ↦ rw (later c (omega arith) m) (F.even c (omega arith) m)
    ];
    bit = λ c k m. elim (ℕ_discrete c i) [
      | yes q ↦ rw (q, filled_here) (one≤1 (odd (inside g n i (is_one (byte_of u)))))
      | no d ↦ rw (other (pivot_at pivots c) (λ e. omega (arith, O.rising.rise i c (omega arith) m))) (F.bit c (omega arith) m)
    ];
    none = λ c k. other (pivot_at pivots c) (λ e. omega (arith, O.rising.rise c i k ir)) ∙ F.none c (omega arith);
    else = λ b p. other b (λ z. false≢true (sym p ∙ (rw (← z) at (pivot_at_lem r (pivot_at pivots) i ir)))) ∙ F.else b p;
  }

-- a bit of a word becomes x, and likewise in the set of its ones
pub set_put : (W : ℕ) (w r t : List ℕ) (b : ℕ) (x : Bool) → SetOf W w 1 r → b < length w → length t ≡ length r → lent W t ≡ put 0 b x (lent W r) → SetOf W (set w b (one x)) 1 t
unfolding put
set_put W w r t b x S k l e = record {
  size = l ∙ S.size;
  at = λ a. elim (ℕ_discrete a b) [
    | yes q ↦ rw (q, e, eq-eqb b b refl, length-set w b (one x), lt-ltb b (length w) k, get_or-set_same w b (one x) 0 k) (sym (eqb_one x))
    | no d ↦ rw (e, ne_eqb a b d, length-set w b (one x), get_or-set_other w b a (one x) 0 d) (S.at a)
  ];
}
