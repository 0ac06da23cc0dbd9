-- The words of checks that contain exactly one, or some, of a few members. Assumes nothing.
use mathlib.Core.Path.{◌≡◌, refl, sym, ap, ◌∙◌}
use mathlib.Core.Bool.{Bool, true, false, not, xor, ◌&&◌, ◌||◌, false≢true}
use mathlib.Core.List.{List}
use Prim.Native.Nat.{ℕ, ◌+◌, ◌*◌, ◌-◌, ◌/◌, ◌%◌, ◌^◌, ◌≤◌, ◌<◌}
use native.Mathlib.Nat.{add-zero, zero-add, zero-mul}
use native.Mathlib.Omega.{arith}
use native.Mathlib.Decide.{dec_lt}
use lib.Bits.{bit_and, bit_or, bit_xor, and_lt, or_lt, xor_lt}
use lib.Dec.{lit<}
use lib.ListN.{get_or}
use lib.Pow.{ones_sub-lt}
use borrow.Author.Tests.{not-true, eqb-true}
use Rattle.parity.specs.Finite.{all}
use Rattle.parity.specs.Matrix.{Matrix, bit_of, lent}
use Rattle.parity.specs.StoppingSets.{is_in}
use Rattle.parity.specs.Words.{inside}
use Rattle.parity.proofs.Finite.Sums.{is_true, is_false, is, all_at, all_of}
use Rattle.parity.proofs.Matrix.Digits.{bit_of_and, bit_of_or, bit_not, bit_zero, same_bits}
use Rattle.parity.proofs.Matrix.Lent.{lent_word}
use Rattle.parity.proofs.Words.Sets.{bit_of_xor}
use Rattle.enumeration.specs.Search.{lone, lone_word, decided, Among, completing, Seen, OnceWith, SomeWith}
use Rattle.enumeration.proofs.Storing.{Filled}

bit_lone : (x u d j : ℕ) → u < 2 ^ 64 → d < 2 ^ 64 → j < 64 → bit_of (lone_word x u d) j ≡ lone (bit_of x j) (bit_of u j) (bit_of d j)
unfolding lone_word
bit_lone x u d j ul dl k =
    rw (bit_of_or (bit_and x (2 ^ 64 - 1 - d)) (bit_and d (2 ^ 64 - 1 - u)) j, bit_of_and x (2 ^ 64 - 1 - d) j, bit_of_and d (2 ^ 64 - 1 - u) j, bit_not 64 d j k dl, bit_not 64 u j k ul)

lone_lt : (x u d : ℕ) → x < 2 ^ 64 → d < 2 ^ 64 → lone_word x u d < 2 ^ 64
unfolding lone_word
lone_lt x u d xl dl = or_lt 64 _ _ (and_lt 64 x (2 ^ 64 - 1 - d) xl (ones_sub-lt 64 d)) (and_lt 64 d (2 ^ 64 - 1 - u) dl (ones_sub-lt 64 u))

-- Where the checks with exactly one of the members are among those with some, one more bit decides in the others of these two kinds alone.
pub lone_decided : (x u d : ℕ) → x < 2 ^ 64 → u < 2 ^ 64 → d < 2 ^ 64 → Among x u → bit_and (bit_xor d x) (decided x u) ≡ lone_word x u d
unfolding decided xor
lone_decided x u d xl ul dl A =
    let w = bit_or x (2 ^ 64 - 1 - u) in
    same_bits 64 (bit_and (bit_xor d x) w) (lone_word x u d) (and_lt 64 (bit_xor d x) w (xor_lt 64 d x dl xl) (or_lt 64 x (2 ^ 64 - 1 - u) xl (ones_sub-lt 64 u))) (lone_lt x u d xl dl)
    (λ j k.
    rw (bit_of_and (bit_xor d x) w j, bit_of_xor d x j, bit_of_or x (2 ^ 64 - 1 - u) j, bit_not 64 u j k ul, bit_lone x u d j ul dl k)
    (go (bit_of x j) (bit_of u j) (bit_of d j) (A.at j k)))
  where
    go : (p q r : Bool) → (p ≡ true → q ≡ true) → (xor r p && (p || not q)) ≡ ((p && not r) || (r && not q))
    go true true true f = refl
    go true true false f = refl
    go true false r f = absurd (false≢true (f refl))
    go false true true f = refl
    go false true false f = refl
    go false false true f = refl
    go false false false f = refl

-- a bit of a single row of W words
row_word : (W : ℕ) (ws : List ℕ) (i j : ℕ) → i < W → j < 64 → lent W ws 0 (i * 64 + j) ≡ bit_of (get_or ws i 0) j
row_word W ws i j k l = lent_word W ws 0 i j k l ∙ rw (zero-mul W, zero-add i)

-- what is known of the members, in their first words
pub first_among : (h : Matrix) (p x u : List ℕ) → Seen h p x u → Among (get_or x 0 0) (get_or u 0 0)
first_among h p x u S = record {
  at = λ j k e.
      let z : 0 * 64 + j ≡ j = omega arith in
      let a : lent 8 x 0 j ≡ bit_of (get_or x 0 0) j = rw z at (row_word 8 x 0 j (omega arith) k) in
      let b : lent 8 u 0 j ≡ bit_of (get_or u 0 0) j = rw z at (row_word 8 u 0 j (omega arith) k) in
      let n = eqb-true (inside h 128 j (is_in p)) 1 (sym (S.once j (omega arith)) ∙ a ∙ e) in
      sym b ∙ S.some j (omega arith) ∙ rw n refl;
}

-- word i, of W, of the checks that contain exactly one of the members and bit d
abbrev pub lone_at : ℕ → List ℕ → List ℕ → List ℕ → ℕ → ℕ → ℕ
lone_at W cols x u d i = lone_word (get_or x i 0) (get_or u i 0) (get_or cols (d * W + i) 0)

-- word i of those that contain some of them
abbrev pub some_at : ℕ → List ℕ → List ℕ → ℕ → ℕ → ℕ
some_at W cols u d i = bit_or (get_or u i 0) (get_or cols (d * W + i) 0)

-- whether check c contains exactly one of them
abbrev pub is_lone : ℕ → List ℕ → List ℕ → List ℕ → ℕ → ℕ → Bool
is_lone W cols x u d c = lone (lent W x 0 c) (lent W u 0 c) (lent W cols d c)

-- whether no check below M does
abbrev pub no_lone : ℕ → List ℕ → List ℕ → List ℕ → ℕ → ℕ → Bool
no_lone W cols x u M d = all M (λ c. not (is_lone W cols x u d c))

pub completing_is : (cols x u : List ℕ) (M d : ℕ) → completing cols x u M d ≡ no_lone 8 cols x u M d
unfolding completing
completing_is cols x u M d = refl

module _ (W : ℕ) (cols x u : List ℕ) (d : ℕ) (ul : (i : ℕ) → get_or u i 0 < 2 ^ 64) (dl : (i : ℕ) → get_or cols i 0 < 2 ^ 64) where
  lone_bit_lem : (i j : ℕ) → i < W → j < 64 → bit_of (lone_at W cols x u d i) j ≡ is_lone W cols x u d (i * 64 + j)
  lone_bit_lem i j k l =
      bit_lone (get_or x i 0) (get_or u i 0) (get_or cols (d * W + i) 0) j (ul i) (dl (d * W + i)) l
      ∙ rw (row_word W x i j k l, row_word W u i j k l, lent_word W cols d i j k l)

  lone_row : (r : List ℕ) → Filled W (lone_at W cols x u d) W r → (c : ℕ) → c < W * 64 → lent W r 0 c ≡ is_lone W cols x u d c
  lone_row r F c l =
      let s : c / 64 * 64 + c % 64 ≡ c = omega arith in
      rw s at (row_word W r (c / 64) (c % 64) (omega arith) (omega arith) ∙ ap (λ (w : ℕ). bit_of w (c % 64)) (F.at (c / 64) (omega arith)) ∙ lone_bit_lem (c / 64) (c % 64) (omega arith) (omega arith))

  -- a word more with no such check
  pub none_more : (i : ℕ) → i < W → lone_at W cols x u d i ≡ 0 → no_lone W cols x u (i * 64) d ≡ true → no_lone W cols x u ((i + 1) * 64) d ≡ true
  none_more i k z e = all_of ((i + 1) * 64) _ (λ c l. elim (dec_lt c (i * 64)) [
    | yes q ↦ all_at (i * 64) _ e c q
    | no q ↦
        let s : i * 64 + (c - i * 64) ≡ c = omega arith in
        let f : is_lone W cols x u d (i * 64 + (c - i * 64)) ≡ false = sym (lone_bit_lem i (c - i * 64) k (omega arith)) ∙ rw z (bit_zero (c - i * 64)) in
        ap not (rw s at f)
  ])

  -- nor in the first
  pub none_first : 0 < W → lone_word (get_or x 0 0) (get_or u 0 0) (get_or cols (d * W) 0) ≡ 0 → no_lone W cols x u 64 d ≡ true
  none_first k z = none_more 0 k (rw (add-zero (d * W)) z) (unfold all in refl)

  module _ (xl : (i : ℕ) → get_or x i 0 < 2 ^ 64) where
    -- a word with one
    pub none_not : (i used : ℕ) → i < used → used ≤ W → (lone_at W cols x u d i ≡ 0 → ⊥) → no_lone W cols x u (used * 64) d ≡ false
    none_not i used k l z =
        elim (is (no_lone W cols x u (used * 64) d)) [
          | is_false q ↦ q
          | is_true q ↦ absurd (z (same_bits 64 (lone_at W cols x u d i) 0 (lone_lt (get_or x i 0) (get_or u i 0) (get_or cols (d * W + i) 0) (xl i) (dl (d * W + i))) (lit< tt) (λ j m.
              lone_bit_lem i j (omega arith) m ∙ rw (not-true (is_lone W cols x u d (i * 64 + j)) (all_at (used * 64) _ q (i * 64 + j) (omega arith)), bit_zero j))))
        ]

    pub none_not_first : (used : ℕ) → 1 ≤ used → used ≤ W → (lone_word (get_or x 0 0) (get_or u 0 0) (get_or cols (d * W) 0) ≡ 0 → ⊥) → no_lone W cols x u (used * 64) d ≡ false
    none_not_first used k l z = none_not 0 used k l (λ e. z (rw (add-zero (d * W)) at e))

some_row : (W : ℕ) (cols u : List ℕ) (d : ℕ) (r : List ℕ) → Filled W (some_at W cols u d) W r → (c : ℕ) → c < W * 64 → lent W r 0 c ≡ (lent W u 0 c || lent W cols d c)
some_row W cols u d r F c l =
    let s : c / 64 * 64 + c % 64 ≡ c = omega arith in
    rw s at (some_bit (c / 64) (c % 64) (omega arith) (omega arith))
  where
    some_bit : (i j : ℕ) → i < W → j < 64 → lent W r 0 (i * 64 + j) ≡ (lent W u 0 (i * 64 + j) || lent W cols d (i * 64 + j))
    some_bit i j k m =
        rw (row_word W r i j k m, row_word W u i j k m, lent_word W cols d i j k m, F.at i k) (bit_of_or (get_or u i 0) (get_or cols (d * W + i) 0) j)

-- the eight words that the functions leave
pub once_law : (cols x u : List ℕ) (d : ℕ) → ((i : ℕ) → get_or u i 0 < 2 ^ 64) → ((i : ℕ) → get_or cols i 0 < 2 ^ 64) → (r : List ℕ) → Filled 8 (lone_at 8 cols x u d) 8 r → OnceWith cols x u d r
once_law cols x u d ul dl r F = record { size = F.size; at = lone_row 8 cols x u d ul dl r F }

pub some_law : (cols u : List ℕ) (d : ℕ) (r : List ℕ) → Filled 8 (some_at 8 cols u d) 8 r → SomeWith cols u d r
some_law cols u d r F = record { size = F.size; at = some_row 8 cols u d r F }
