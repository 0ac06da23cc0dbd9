-- Whether words have one bit in all, by the places of a word that their bits take and by those taken twice. Assumes nothing.
use mathlib.Core.Path.{◌≡◌, refl, sym, ap, ◌∙◌}
use mathlib.Core.Bool.{Bool, true, false, not, cond, ◌&&◌, xor}
use Prim.Native.Nat.{ℕ, suc, ◌+◌, ◌*◌, ◌-◌, ◌^◌, ◌≤◌, ◌<◌}
use native.Mathlib.Nat.{lt_of_le_of_lt}
use native.Mathlib.Omega.{arith}
use native.Mathlib.Decide.{ℕ_discrete}
use lib.Bits.{bit_and, bit_or, bit_xor, and_le_l, and_le_r, or_lt, xor_lt, or_add_and, or_disjoint, xor_disjoint}
use lib.Count.{ones as onesOf, count_trailing_zeros}
use lib.Dec.{eqb, lit<}
use borrow.Author.Tests.{eqb-true}
use Rattle.parity.specs.Finite.{one, count}
use Rattle.parity.specs.Matrix.{bit_of}
use Rattle.parity.specs.Words.{inside}
use Rattle.parity.proofs.Finite.Sums.{sum_cong, sum_at, count_cong, count_part}
use Rattle.parity.proofs.Matrix.Digits.{bit_of_and}
use Rattle.parity.proofs.Matrix.Lent.{ones_count}
use Rattle.parity.proofs.Matrix.Ones.{trailing_lowest}
use Rattle.parity.proofs.Matrix.Rest.{rest_bit}
use Rattle.parity.proofs.Words.Residue.{inside_xor}
use Rattle.parity.proofs.Words.Sets.{bit_of_xor}

-- the ones of two words that have none in common
ones_apart : (a b : ℕ) → a < 2 ^ 64 → b < 2 ^ 64 → bit_and a b ≡ 0 → onesOf (bit_or a b) ≡ onesOf a + onesOf b
ones_apart a b l m e =
    let q : bit_or a b ≡ bit_xor a b = or_disjoint a b e ∙ sym (xor_disjoint a b e) in
    let f : count 64 (bit_of a) + count 64 (bit_of b) ≡ count 64 (λ i. xor (bit_of a i) (bit_of b i)) + 2 * count 64 (λ i. bit_of a i && bit_of b i) = unfold inside in inside_xor (λ c b. true) 64 0 (bit_of a) (bit_of b) in
    let x : onesOf (bit_xor a b) ≡ count 64 (λ i. xor (bit_of a i) (bit_of b i)) = ones_count 64 (bit_xor a b) (xor_lt 64 a b l m) ∙ count_cong 64 (λ i j. bit_of_xor a b i) in
    let z : onesOf (bit_and a b) ≡ count 64 (λ i. bit_of a i && bit_of b i) = ones_count 64 (bit_and a b) (lt_of_le_of_lt (and_le_l a b) l) ∙ count_cong 64 (λ i j. bit_of_and a b i) in
    let n : onesOf (bit_and a b) ≡ 0 = ap onesOf e ∙ unfold onesOf in refl in
    rw q (omega (arith, ones_count 64 a l, ones_count 64 b m))

-- The ones of a word that is not 0: one more than without the lowest.
one_at : (t : ℕ) → t < 64 → count 64 (λ i. eqb i t) ≡ 1
unfolding count
one_at t l = sum_cong 64 {f = λ i. one (eqb i t)} {g = λ i. cond (eqb i t) 1 0} (λ i k. go (eqb i t)) ∙ sum_at 64 t 1 l
  where
    go : (b : Bool) → one b ≡ cond b 1 0
    go true = refl
    go false = refl

ones_rest : (x : ℕ) → x < 2 ^ 64 → (x ≡ 0 → ⊥) → onesOf x ≡ suc (onesOf (bit_and x (x - 1)))
ones_rest x l n =
    let t = count_trailing_zeros 64 x in
    let L = trailing_lowest 64 x l n in
    let y = bit_and x (x - 1) in
    let a : onesOf y ≡ count 64 (λ i. bit_of x i && not (eqb i t)) = ones_count 64 y (lt_of_le_of_lt (and_le_l x (x - 1)) l) ∙ count_cong 64 (λ i k. rest_bit 64 x t L i) in
    let p = count_part 64 (bit_of x) (λ i. eqb i t) (λ i k e. rw (eqb-true i t e) L.here) in
    omega (arith, ones_count 64 x l, one_at t L.short)

no_ones : (x : ℕ) → x ≡ 0 → onesOf x ≡ 0
no_ones x e = ap onesOf e ∙ unfold onesOf in refl

or_none : (a b : ℕ) → bit_or a b ≡ 0 → (a ≡ 0) × (b ≡ 0)
or_none a b e = (omega (arith, or_add_and a b, and_le_r a b), omega (arith, or_add_and a b, and_le_l a b))

-- Words have s bits: their places are taken, and some of these twice.
pub record Seen (s taken twice : ℕ) : Type 0 where
  pub fits : taken < 2 ^ 64
  pub same : twice ≡ 0 → onesOf taken ≡ s
  pub more : (twice ≡ 0 → ⊥) → 2 ≤ s

pub seen_none : Seen 0 0 0
seen_none = record { fits = lit< tt; same = no_ones 0; more = λ n. absurd (n refl) }

-- one word more
pub seen_more : (s taken twice x : ℕ) → x < 2 ^ 64 → Seen s taken twice → Seen (s + onesOf x) (bit_or taken x) (bit_or twice (bit_and taken x))
seen_more s taken twice x l S = record {
  fits = or_lt 64 taken x S.fits l;
  same = λ e.
      let (p, q) = or_none twice (bit_and taken x) e in
      ones_apart taken x S.fits l q ∙ ap (◌+ onesOf x) (S.same p);
  more = λ n. elim (ℕ_discrete twice 0) [
    | yes p ↦
        let d : bit_and taken x ≡ 0 → ⊥ = λ q. n (omega (arith, or_add_and twice (bit_and taken x))) in
        omega (
          arith,
          S.same p,
          ones_rest taken S.fits (λ q. d (omega (arith, and_le_l taken x))),
          ones_rest x l (λ q. d (omega (arith, and_le_r taken x))),
        )
    | no p ↦ omega (arith, S.more p)
  ];
}
