-- Laws of the rules, as the generator goes through them: the codes by their names, the circulant by the list of e, a word bit by bit. Assumes nothing.
use mathlib.Core.Path.{◌≡◌, refl, sym}
use mathlib.Core.Bool.{Bool, true, false}
use Prim.Native.Nat.{ℕ, zero, suc, ◌+◌, ◌*◌, ◌-◌, ◌%◌, ◌^◌, ◌≤◌, ◌<◌}
use native.Mathlib.Nat.{zero-mul, lt_of_lt_of_le}
use native.Mathlib.Numerals.{add-one}
use native.Mathlib.Omega.{arith}
use lib.ListN.{get_or, drop}
use lib.Seq.{drop-cons}
use lib.Dec.{leb}
use lib.Pow.{pow_mono}
use borrow.Author.Tests.{eq-eqb, ne_eqb, leb-true}
use Rattle.parity.specs.Finite.{one, sum, all}
use Rattle.parity.specs.Matrix.{Matrix}
use Rattle.parity.specs.House.{offsets, at_offsets, circulant, hamming, code_of, hamming_code, house_code, table_word}
use Rattle.parity.specs.Sound.{Clean}
use Rattle.parity.proofs.Finite.Sums.{sum_end, all_at}
use Rattle.parity.proofs.House.Rules.{code_in, table_lt}

-- the code of name 0, and those of the other names, which are one family
pub hamming_bits : (name : ℕ) → (name ≡ 0 → ⊥) → (house_code name).n ≡ 2 ^ (name + 1) - 1
unfolding house_code hamming_code code_of
hamming_bits zero d = absurd (d refl)
hamming_bits (suc i) d = let e : i + 2 ≡ suc i + 1 = omega arith in rw e

pub hamming_checks : (name : ℕ) → (name ≡ 0 → ⊥) → (house_code name).m ≡ name + 1
unfolding house_code hamming_code code_of
hamming_checks zero d = absurd (d refl)
hamming_checks (suc i) d = omega arith

pub hamming_entry : (name c b : ℕ) → (name ≡ 0 → ⊥) → c < (house_code name).m → b < (house_code name).n → (house_code name).matrix c b ≡ hamming c b
unfolding house_code hamming_code
hamming_entry zero c b d k l = absurd (d refl)
hamming_entry (suc i) c b d k l = code_in (2 ^ (i + 2) - 1) (i + 2) hamming c b (unfold code_of in k) (unfold code_of in l)

pub circulant_bits : (name : ℕ) → name ≡ 0 → (house_code name).n ≡ 23
unfolding house_code code_of
circulant_bits name e = rw e

pub circulant_checks : (name : ℕ) → name ≡ 0 → (house_code name).m ≡ 23
unfolding house_code code_of
circulant_checks name e = rw e

pub circulant_entry : (name c b : ℕ) → name ≡ 0 → c < (house_code name).m → b < (house_code name).n → (house_code name).matrix c b ≡ circulant c b
unfolding house_code
circulant_entry zero c b e k l = code_in 23 23 circulant c b (unfold code_of in k) (unfold code_of in l)
circulant_entry (suc i) c b e k l = absurd (omega arith)

-- the circulant's rule, one e of the list after the other
pub offset_small : (i : ℕ) → i < 8 → get_or offsets i 0 ≤ 12
unfolding all
offset_small i l = leb-true (get_or offsets i 0) 12 (all_at 8 (λ i. leb (get_or offsets i 0) 12) refl i l)

pub offset_here : (i c b : ℕ) → i < 8 → (c + get_or offsets i 0) % 23 ≡ b → at_offsets (drop i offsets) c b ≡ true
unfolding at_offsets
offset_here i c b l e = rw (drop-cons offsets i 0 l, eq-eqb ((c + get_or offsets i 0) % 23) b e)

pub offset_on : (i c b : ℕ) → i < 8 → ((c + get_or offsets i 0) % 23 ≡ b → ⊥) → at_offsets (drop i offsets) c b ≡ at_offsets (drop (i + 1) offsets) c b
unfolding at_offsets
offset_on i c b l d = rw (add-one i, drop-cons offsets i 0 l, ne_eqb ((c + get_or offsets i 0) % 23) b d)

-- a word of a table, bit after bit
pub no_term : {x : Bool} (b : ℕ) → x ≡ false → one x * 2 ^ b ≡ 0
no_term b e = rw (e, zero-mul)

pub word_next : (h : Matrix) (c b : ℕ) → table_word b h c + one (h c b) * 2 ^ b ≡ table_word (b + 1) h c
unfolding table_word sum
word_next h c b = rw (add-one b)

-- of a code of at most 32 bits
module _ (h : Matrix) (n m : ℕ) (K : Clean h n m) (small : n ≤ 32) where
  pub word_fits : (c b : ℕ) → b < n → table_word b h c + one (h c b) * 2 ^ b < 2 ^ 32
  word_fits c b l = rw (word_next h c b) (lt_of_lt_of_le (table_lt (b + 1) h c) (pow_mono {i = b + 1} {j = 32} (omega arith)))

  pub word_all : (c : ℕ) → table_word n h c ≡ table_word 32 h c
  unfolding table_word
  word_all c = sym (sum_end n 32 small (λ i l k. no_term i (K.bits c i l)))
