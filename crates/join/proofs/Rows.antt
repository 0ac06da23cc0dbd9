-- Laws of the rows while checks are joined, over the numbers U of words of a row and W of words of a check. Assumes nothing.
use mathlib.Core.Path.{◌≡◌, sym, ap, ◌∙◌}
use mathlib.Core.Bool.{Bool, true, false, cond, ◌&&◌, and-false}
use mathlib.Core.List.{List}
use Prim.Native.Nat.{ℕ, ◌+◌, ◌*◌, ◌/◌, ◌%◌, ◌^◌, ◌≤◌, ◌<◌}
use native.Mathlib.Nat.{add-zero, div-add-mod', div-lt_iff_lt-mul}
use native.Mathlib.Numerals.{add-one}
use native.Mathlib.Omega.{arith}
use native.Mathlib.Decide.{ℕ_discrete, dec_lt}
use lib.Arith.{digits_div, digits_mod, digits_lt}
use lib.Dec.{eqb, ltb, lit<}
use lib.ListN.{get_or, length}
use lib.Pow.{pow_pos}
use lib.Seq.{ext_get_or}
use borrow.Author.Tests.{eq-eqb, eqb-true, lt-ltb, le-ltb}
use Rattle.parity.specs.Finite.{all, any}
use Rattle.parity.specs.Matrix.{Matrix, bit_of, lent, word_of, pack}
use Rattle.parity.specs.Joining.{same_check, Joined, equals_earlier, join_check, with_check, joined}
use Rattle.parity.specs.Sound.{Clean}
use Rattle.parity.proofs.Finite.Bools.{same_test, beq_refl}
use Rattle.parity.proofs.Finite.Sums.{all_at, all_of, below_next}
use Rattle.parity.proofs.Finite.Firsts.{any_cong}
use Rattle.parity.proofs.Matrix.Digits.{same_bits, bit_zero}
use Rattle.parity.proofs.Matrix.Packing.{word_lt, word_bit, pack_length, pack_at, pack_lent}
use Rattle.parity.proofs.Joining.Checks.{same_bits_of, join_equal, join_new, with_checks, with_last, with_other, checks_most}
use Rattle.rows.specs.Zeros.{Zeroed}
use Rattle.rows.specs.Whole.{Written, word_from, RowsCopied}
use Rattle.std.specs.Prelude.{Some, None}
use Rattle.join.specs.Rows.{is_row, HasRows, Added, Spread}

-- bit j of word i of a check
row_bit : (W : ℕ) (h : Matrix) (c i j : ℕ) → i < W → j < 64 → bit_of (word_of W h (c * W + i)) j ≡ h c (i * 64 + j)
row_bit W h c i j k l = word_bit W h (c * W + i) j l ∙ rw (digits_div c k, digits_mod c k)

-- words of checks with the same bits
row_same : (W : ℕ) (h g : Matrix) (c d i : ℕ) → i < W → ((j : ℕ) → j < 64 → h c (i * 64 + j) ≡ g d (i * 64 + j)) → word_of W h (c * W + i) ≡ word_of W g (d * W + i)
row_same W h g c d i k f =
    same_bits 64 (word_of W h (c * W + i)) (word_of W g (d * W + i)) (word_lt W h (c * W + i)) (word_lt W g (d * W + i))
    (λ j l. row_bit W h c i j k l ∙ f j l ∙ sym (row_bit W g d i j k l))

-- two checks are equal in U * 64 bits exactly if their first U words are
same_words : (U W : ℕ) → U ≤ W → (h g : Matrix) (c d : ℕ)
    → all U (λ i. eqb (word_of W h (c * W + i)) (word_of W g (d * W + i))) ≡ same_check (U * 64) (h c) (g d)
same_words U W u h g c d =
    same_test (all U (λ i. eqb (word_of W h (c * W + i)) (word_of W g (d * W + i)))) (same_check (U * 64) (h c) (g d))
    (λ e. unfold same_check in all_of (U * 64) _ (λ b l.
    let k : b / 64 < U = (div-lt_iff_lt-mul (lit< tt)).1 l in
    let q : b / 64 * 64 + b % 64 ≡ b = omega arith in
    let s = eqb-true _ _ (all_at U (λ i. eqb (word_of W h (c * W + i)) (word_of W g (d * W + i))) e (b / 64) k) in
    let t : h c b ≡ g d b = rw q at (sym (row_bit W h c (b / 64) (b % 64) (omega arith) (omega arith)) ∙ ap (λ (w : ℕ). bit_of w (b % 64)) s ∙ row_bit W g d (b / 64) (b % 64) (omega arith) (omega arith)) in
    rw t (beq_refl (g d b))))
    (λ e. all_of U _ (λ i k. eq-eqb _ _ (row_same W h g c d i (omega arith) (λ j l. same_bits_of (U * 64) (h c) (g d) e (i * 64 + j) (digits_lt k l)))))

-- a word of a lent matrix
lent_word_of : (W : ℕ) → 0 < W → (ws : List ℕ) → length ws ≡ 512 * W → ((i : ℕ) → get_or ws i 0 < 2 ^ 64) → (i : ℕ) → i < 512 * W → get_or ws i 0 ≡ word_of W (lent W ws) i
lent_word_of W p ws e a i l = ap (λ (v : List ℕ). get_or v i 0) (sym (pack_lent W p ws e a)) ∙ pack_at W (lent W ws) i l

-- The first checks of the first matrix, as rows.
pub rows_first : (U W : ℕ) → 0 < W → U ≤ W → (ws after : List ℕ) (m : ℕ) → length ws ≡ 512 * W → ((i : ℕ) → get_or ws i 0 < 2 ^ 64) → m ≤ 512
    → RowsCopied W U ws after m → HasRows U W (lent W ws) m after
rows_first U W p u ws after m e a l S = record {
  at = λ c i k q.
      let k' : c < 512 = omega arith in
      S.at c i k q ∙ lent_word_of W p ws e a (c * W + i) (digits_lt k' (omega arith));
}

-- one of the rows has the first two words of check c
abbrev found : ℕ → List ℕ → ℕ → List ℕ → ℕ → Bool
found W ws c before at = any at (is_row before (get_or ws (c * W) 0) (get_or ws (c * W + 1) 0))

-- one check of the second
module _ (W : ℕ) (w : 2 ≤ W) (ws : List ℕ) (size : length ws ≡ 512 * W) (machine : (i : ℕ) → get_or ws i 0 < 2 ^ 64) (c : ℕ) (few : c < 512)
    (before : List ℕ) (at : ℕ) (j : Joined) (e : at ≡ j.checks) (H : HasRows 2 W j.matrix at before) where
  word_is : (i : ℕ) → i < W → get_or ws (c * W + i) 0 ≡ word_of W (lent W ws) (c * W + i)
  word_is i l = lent_word_of W (omega arith) ws size machine (c * W + i) (digits_lt few l)

  one_row : (d : ℕ) → d < at → is_row before (get_or ws (c * W) 0) (get_or ws (c * W + 1) 0) d ≡ same_check 128 (j.matrix d) (lent W ws c)
  unfolding is_row all
  one_row d l =
      let y : d * 2 + 0 ≡ d * 2 = add-zero (d * 2) in
      let p₀ : get_or before (d * 2) 0 ≡ word_of W j.matrix (d * W + 0) = ap (λ (i : ℕ). get_or before i 0) (sym y) ∙ H.at d 0 l (omega arith) in
      let p₁ = H.at d 1 l (omega arith) in
      let z : c * W + 0 ≡ c * W = add-zero (c * W) in
      let q₀ : get_or ws (c * W) 0 ≡ word_of W (lent W ws) (c * W + 0) = ap (λ (i : ℕ). get_or ws i 0) (sym z) ∙ word_is 0 (omega arith) in
      let q₁ = word_is 1 (omega arith) in
      rw (p₀, p₁, q₀, q₁) (same_words 2 W w j.matrix (lent W ws) d c)

  earlier : found W ws c before at ≡ equals_earlier 128 j (lent W ws c)
  unfolding equals_earlier
  earlier =
      any_cong at (is_row before (get_or ws (c * W) 0) (get_or ws (c * W + 1) 0)) (λ d. same_check 128 (j.matrix d) (lent W ws c)) one_row
      ∙ ap (λ (x : ℕ). any x (λ d. same_check 128 (j.matrix d) (lent W ws c))) e

  -- it is put behind the rows
  rows_next : (after : List ℕ) → Written before after (at * 2) (word_from ws (c * W)) 2 → HasRows 2 W (with_check j (lent W ws c)).matrix (at + 1) after
  rows_next after C = record {
    at = λ d i k m. elim (ℕ_discrete d at) [
      | yes q ↦
          let t : (with_check j (lent W ws c)).matrix at ≡ lent W ws c = rw e (with_last j (lent W ws c)) in
          rw q (C.done i m ∙ word_is i (omega arith)
          ∙ row_same W (lent W ws) (with_check j (lent W ws c)).matrix c at i (omega arith) (λ b n. ap (λ (r : ℕ → Bool). r (i * 64 + b)) (sym t)))
      | no q ↦
          let d<at : d < at = omega arith in
          let t = with_other j (lent W ws c) d (λ r. q (r ∙ sym e)) in
          C.else (d * 2 + i) (λ b n q. omega arith) ∙ H.at d i d<at m
          ∙ row_same W j.matrix (with_check j (lent W ws c)).matrix d d i (omega arith) (λ b n. ap (λ (r : ℕ → Bool). r (i * 64 + b)) (sym t))
    ];
  }

-- What adding it comes to, where checks have eight words as they are lent.
module _ (ws : List ℕ) (size : length ws ≡ 4096) (machine : (i : ℕ) → get_or ws i 0 < 2 ^ 64) (c : ℕ) (few : c < 120) (before : List ℕ) (at : ℕ) where
  same_row : (j : Joined) → at ≡ j.checks → HasRows 2 8 j.matrix at before → found 8 ws c before at ≡ equals_earlier 128 j (lent 8 ws c)
  same_row = earlier 8 (omega arith) ws size machine c (omega arith) before at

  -- it is one of the rows;
  pub added_none : at ≤ 120 → found 8 ws c before at ≡ true → Added ws c before at before (Some at)
  added_none l f = record { added = λ j e H. rw (join_equal 128 j (lent 8 ws c) (sym (same_row j e H) ∙ f)) record { few = l; number = e; held = H } }

  -- it is none of them, and there is no room for it;
  pub added_full : at ≡ 120 → found 8 ws c before at ≡ false → Added ws c before at before None
  added_full l f = record { added = λ j e H. rw (join_new 128 j (lent 8 ws c) (sym (same_row j e H) ∙ f), with_checks j (lent 8 ws c)) (omega arith) }

  -- or it is put behind them.
  pub added_one : at < 120 → found 8 ws c before at ≡ false → (after : List ℕ) → Written before after (at * 2) (word_from ws (c * 8)) 2 → Added ws c before at after (Some (at + 1))
  added_one l f after C = record {
    added = λ j e H.
        let s : ℕ → Bool = lent 8 ws c in
        let number : at + 1 ≡ (with_check j s).checks = rw (with_checks j s) (omega arith) in
        rw (join_new 128 j s (sym (same_row j e H) ∙ f)) record {
          few = omega arith;
          number = number;
          held = rows_next 8 (omega arith) ws size machine c (omega arith) before at j e H after C;
        };
  }

-- the checks of the second up to the next
pub joined_next : (n : ℕ) (h : Matrix) (m : ℕ) (g : Matrix) (c : ℕ) → joined n h m g (c + 1) ≡ join_check n (joined n h m g c) (g c)
unfolding joined
joined_next n h m g c = rw (add-one c)

-- where a check of the second has no room
pub gathered_many : (h : Matrix) (m : ℕ) (g : Matrix) (c M : ℕ) → c < M → 120 < (join_check 128 (joined 128 h m g c) (g c)).checks → 120 < (joined 128 h m g M).checks
gathered_many h m g c M k G =
    let n : 120 < (joined 128 h m g (c + 1)).checks = rw (joined_next 128 h m g c) G in
    omega (arith, checks_most 128 h m g (c + 1) M (omega arith))

-- words that are all 0
pub spread_none : (U W : ℕ) (rows words : List ℕ) → Zeroed words (512 * W) → Spread U W rows 0 words
spread_none U W rows words Z = record { at = λ i l. rw (le-ltb (i / W) 0 (omega arith)) (Z.none i l) }

-- the next row is written
pub spread_next : (U W : ℕ) → U ≤ W → (rows : List ℕ) (c : ℕ) (words after : List ℕ) → Spread U W rows c words
    → Written words after (c * W) (word_from rows (c * U)) U → Spread U W rows (c + 1) after
spread_next U W u rows c words after S A = record {
  at = λ i l. elim (ℕ_discrete (i / W) c) [
    | no t ↦ A.else i (λ j m e. let k : j < W = omega arith in t (ap (◌/ W) e ∙ digits_div c k)) ∙ S.at i l ∙ rw (below_next (i / W) c t)
    | yes t ↦
        let e : c * W + i % W ≡ i = rw t at (div-add-mod' i W) in
        elim (dec_lt (i % W) U) [
          | yes m ↦ rw (t, lt-ltb c (c + 1) (omega arith), lt-ltb (i % W) U m) (ap (λ (a : ℕ). get_or after a 0) (sym e) ∙ A.done (i % W) m)
          | no m ↦ A.else i (λ j n q. omega arith) ∙ S.at i l ∙ rw (le-ltb (i % W) U (omega arith), and-false, and-false)
        ]
  ];
}

-- Rows that are all checks of a matrix, written: the words are those that hold it.
pub spread_all : (U W : ℕ) → 0 < W → (h : Matrix) (N M : ℕ) → Clean h N M → N ≤ U * 64 → (rows words : List ℕ) → length words ≡ 512 * W
    → HasRows U W h M rows → Spread U W rows M words → words ≡ pack W h
spread_all U W p h N M K n rows words size H S =
    ext_get_or 0 words (pack W h) (size ∙ sym (pack_length W h)) (λ i l. S.at i (omega arith) ∙ at i ∙ sym (pack_at W h i (omega arith)))
  where
    none : (i : ℕ) → ((b : ℕ) → b < 64 → h (i / W) (i % W * 64 + b) ≡ false) → 0 ≡ word_of W h i
    none i f = same_bits 64 0 (word_of W h i) (pow_pos 64) (word_lt W h i) (λ b l. bit_zero b ∙ sym (word_bit W h i b l ∙ f b l))

    at : (i : ℕ) → cond (ltb (i / W) M && ltb (i % W) U) (get_or rows (i / W * U + i % W) 0) 0 ≡ word_of W h i
    at i =
        elim (dec_lt (i / W) M) [
          | no k ↦ rw (le-ltb (i / W) M (omega arith)) (none i (λ b l. K.checks (i / W) (i % W * 64 + b) (omega arith)))
          | yes k ↦ elim (dec_lt (i % W) U) [
            | no m ↦ rw (lt-ltb (i / W) M k, le-ltb (i % W) U (omega arith)) (none i (λ b l. K.bits (i / W) (i % W * 64 + b) (omega arith)))
            | yes m ↦ rw (lt-ltb (i / W) M k, lt-ltb (i % W) U m) (H.at (i / W) (i % W) k m ∙ ap (word_of W h) (div-add-mod' i W))
          ]
        ]
