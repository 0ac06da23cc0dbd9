-- A listed matrix that fits is one that no cause refuses, and its words hold it. Assumes nothing.
use mathlib.Core.Path.{◌≡◌, refl, sym, ◌∙◌, fun_ext}
use mathlib.Core.Bool.{true, false, ◌&&◌, and-eq-true_iff, false≢true}
use mathlib.Core.List.{List, [], ◌∷◌}
use Prim.Native.Nat.{ℕ, zero, suc, ◌+◌, ◌≤◌}
use native.Mathlib.Omega.{arith}
use native.Mathlib.Decide.{dec_lt}
use lib.Dec.{eqb, ltb, leb}
use lib.ListN.{length}
use borrow.Author.Tests.{eqb-true, ne_eqb, ltb-true, leb-true}
use Rattle.parity.specs.Matrix.{Matrix, lent, in_range, rule_a}
use Rattle.parity.specs.Sound.{Clean, Sound}
use Rattle.parity.proofs.Finite.Bools.{beq_same}
use Rattle.parity.proofs.Finite.Sums.{all_at}
use Rattle.parity.proofs.Matrix.Accept.{Accepted, ranges, pack_same, pack_accepted}
use Rattle.bench.specs.Case.{among, listed, words_of}
use Rattle.bench.specs.Test.{same_list, bits_below, all_below, fits, agree}

among_below : (N : ℕ) (bs : List ℕ) → bits_below N bs ≡ true → (b : ℕ) → N ≤ b → among bs b ≡ false
unfolding bits_below among
among_below N [] e b l = refl
among_below N (x ∷ xs) e b l =
    let (p, q) = (and-eq-true_iff (ltb x N) (bits_below N xs)).0 e in
    rw (ne_eqb x b (λ r. omega (arith, ltb-true x N p)), among_below N xs q b l)

listed_bits : (N : ℕ) (rs : List (List ℕ)) → all_below N rs ≡ true → (c b : ℕ) → N ≤ b → listed rs c b ≡ false
unfolding all_below listed
listed_bits N [] e c b l = refl
listed_bits N (r ∷ rs) e zero b l = among_below N r ((and-eq-true_iff (bits_below N r) (all_below N rs)).0 e).0 b l
listed_bits N (r ∷ rs) e (suc c) b l = listed_bits N rs ((and-eq-true_iff (bits_below N r) (all_below N rs)).0 e).1 c b l

listed_checks : (rs : List (List ℕ)) (c b : ℕ) → length rs ≤ c → listed rs c b ≡ false
unfolding listed
listed_checks [] c b l = refl
listed_checks (r ∷ rs) zero b l = absurd (omega arith)
listed_checks (r ∷ rs) (suc c) b l = listed_checks rs c b (omega arith)

module _ (n m k : ℕ) (rs : List (List ℕ)) (e : fits n m k rs ≡ true) where
  pub listed_sound : Sound (listed rs) n m k
  unfolding fits
  listed_sound =
      let (p, r) = (and-eq-true_iff (in_range n m k && all_below (n + k) rs && leb (length rs) (m + k)) (rule_a (listed rs) n m k)).0 e in
      let (q, l) = (and-eq-true_iff (in_range n m k && all_below (n + k) rs) (leb (length rs) (m + k))).0 p in
      let (i, b) = (and-eq-true_iff (in_range n m k) (all_below (n + k) rs)).0 q in
      let (n1, n120, m120, k392) = (ranges n m k).0 i in
      record {
        n1 = n1;
        n120 = n120;
        m120 = m120;
        k392 = k392;
        clean = record { checks = λ c a j. listed_checks rs c a (omega (arith, leb-true (length rs) (m + k) l)); bits = listed_bits (n + k) rs b };
        rule = r;
      }

  pub accepted : Accepted (words_of rs) n m k
  unfolding words_of
  accepted = pack_accepted (listed rs) n m k listed_sound

  pub held : lent 8 (words_of rs) ≡ listed rs
  unfolding words_of
  held = pack_same (listed rs) n m k listed_sound

-- two matrices that agree on N bits and M checks, with no ones outside, are one
pub agreed : (N M : ℕ) (g h : Matrix) → Clean g N M → Clean h N M → agree N M g h ≡ true → g ≡ h
unfolding agree
agreed N M g h K L e = fun_ext (λ c. fun_ext (λ b.
    elim (dec_lt c M) [
      | no l ↦ K.checks c b (omega arith) ∙ sym (L.checks c b (omega arith))
      | yes l ↦ elim (dec_lt b N) [
        | no t ↦ K.bits c b (omega arith) ∙ sym (L.bits c b (omega arith))
        | yes t ↦ beq_same (g c b) (h c b) (all_at N _ (all_at M _ e c l) b t)
      ]
    ]))

pub same_list_lem : (xs ys : List ℕ) → same_list xs ys ≡ true → xs ≡ ys
unfolding same_list
same_list_lem [] [] e = refl
same_list_lem [] (y ∷ ys) e = absurd (false≢true e)
same_list_lem (x ∷ xs) [] e = absurd (false≢true e)
same_list_lem (x ∷ xs) (y ∷ ys) e =
    let (p, q) = (and-eq-true_iff (eqb x y) (same_list xs ys)).0 e in
    rw (eqb-true x y p, same_list_lem xs ys q)
