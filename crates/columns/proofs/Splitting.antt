-- Columns of W words after a split, and before it, word by word. Assumes nothing.
use mathlib.Core.Path.{◌≡◌, refl, sym, ◌∙◌}
use mathlib.Core.Bool.{Bool, true, false, not, cond, ◌&&◌, ◌||◌, and-true, and-false, or-true, or-false}
use mathlib.Core.List.{List}
use Prim.Native.Nat.{ℕ, ◌+◌, ◌*◌, ◌-◌, ◌/◌, ◌%◌, ◌^◌, ◌≤◌, ◌<◌}
use native.Mathlib.Nat.{lt_of_le_of_lt, div-lt_iff_lt-mul}
use native.Mathlib.Omega.{arith}
use native.Mathlib.Decide.{ℕ_discrete, dec_lt}
use lib.Arith.{digits_div, digits_mod, digits_lt}
use lib.Bits.{bit_and, bit_or, and_le_l}
use lib.Dec.{eqb, lit<}
use lib.ListN.{get_or, length, set, length-set}
use lib.Seq.{get_or-set_same, get_or-set_other}
use borrow.Author.Tests.{eq-eqb, ne_eqb, lt-ltb, le-ltb}
use Rattle.parity.specs.Matrix.{Matrix, bit_of, lent}
use Rattle.parity.specs.Cycles.{split_of}
use Rattle.parity.proofs.Matrix.Digits.{bit_of_and, bit_of_or, bit_not, bit_zero}
use Rattle.parity.proofs.Matrix.Lent.{lent_in, lent_out, row_room}
use Rattle.columns.specs.Columns.{Columns}
use Rattle.columns.specs.Splits.{parted, joined, InWord, InWords, Parted}

-- The word of place p of row r becomes w.
pub lent_set : (W : ℕ) (ws : List ℕ) (r p w : ℕ) → r * W + p < length ws → p < W → (x b : ℕ)
    → lent W (set ws (r * W + p) w) x b ≡ cond (eqb x r && eqb (b / 64) p) (bit_of w (b % 64)) (lent W ws x b)
lent_set W ws r p w room k x b =
    elim (dec_lt b (W * 64)) [
      | no l ↦
          let n : b / 64 ≡ p → ⊥ = λ q. l ((div-lt_iff_lt-mul (lit< tt)).0 (rw q k)) in
          lent_out W (set ws (r * W + p) w) x b (omega arith) ∙ rw (ne_eqb (b / 64) p n, and-false) (sym (lent_out W ws x b (omega arith)))
      | yes l ↦
          let bw : b / 64 < W = (div-lt_iff_lt-mul (lit< tt)).1 l in
          lent_in W (set ws (r * W + p) w) x b l ∙ rw (lent_in W ws x b l) (elim (ℕ_discrete x r) [
            | yes q ↦ elim (ℕ_discrete (b / 64) p) [
              | yes s ↦ rw (q, s, eq-eqb r r refl, eq-eqb p p refl, get_or-set_same ws (r * W + p) w 0 room)
              | no n ↦
                  let d : x * W + b / 64 ≡ r * W + p → ⊥ = λ e. n (sym (digits_mod x bw) ∙ rw e (digits_mod r k)) in
                  rw (get_or-set_other ws (r * W + p) (x * W + b / 64) w 0 d, ne_eqb (b / 64) p n, and-false)
            ]
            | no n ↦
                let d : x * W + b / 64 ≡ r * W + p → ⊥ = λ e. n (sym (digits_div x bw) ∙ rw e (digits_div r k)) in
                rw (get_or-set_other ws (r * W + p) (x * W + b / 64) w 0 d, ne_eqb x r n)
          ])
    ]

-- there is room for a column
pub column_room : (W x : ℕ) {l : ℕ} → x < 512 → l ≡ 512 * W → x * W + W ≤ l
column_room W x k e = rw e (row_room W x 512 k)

-- Word i of the columns of u, v and z becomes a, b and d.
module _ (W : ℕ) (ws : List ℕ) (u v z i : ℕ) (len : length ws ≡ 512 * W) (uv : u < v) (vz : v < z) (zl : z < 512) (il : i < W) where
  room : (x : ℕ) → x < 512 → x * W + i < 512 * W
  room x l = digits_lt l il

  -- the bits of word i of a column
  word_bit : (y c : ℕ) → c / 64 ≡ i → bit_of (get_or ws (y * W + i) 0) (c % 64) ≡ lent W ws y c
  word_bit y c e = sym (lent_in W ws y c ((div-lt_iff_lt-mul (lit< tt)).0 (rw e il)) ∙ rw e)

  module _ (a b d : ℕ) where
    abbrev once : List ℕ
    once = set ws (u * W + i) a

    abbrev twice : List ℕ
    twice = set once (v * W + i) b

    abbrev thrice : List ℕ
    thrice = set twice (z * W + i) d

    once_length : length once ≡ 512 * W
    once_length = simp length-set len

    twice_length : length twice ≡ 512 * W
    twice_length = simp length-set len

    at_thrice : (x c : ℕ) → lent W thrice x c
        ≡ cond (eqb x z && eqb (c / 64) i) (bit_of d (c % 64))
        (cond (eqb x v && eqb (c / 64) i) (bit_of b (c % 64))
        (cond (eqb x u && eqb (c / 64) i) (bit_of a (c % 64)) (lent W ws x c)))
    at_thrice x c =
        lent_set W twice z i d (rw twice_length (room z zl)) il x c
        ∙ rw (lent_set W once v i b (rw once_length (room v (omega arith))) il x c, lent_set W ws u i a (rw len (room u (omega arith))) il x c)

    -- They become what f makes of them, if it makes these three of them and leaves the others.
    three_words : (f : Matrix → Matrix)
        → ((c : ℕ) → c / 64 ≡ i → (f (lent W ws) u c ≡ bit_of a (c % 64)) × (f (lent W ws) v c ≡ bit_of b (c % 64)) × (f (lent W ws) z c ≡ bit_of d (c % 64)))
        → ((x c : ℕ) → (x ≡ u → ⊥) → (x ≡ v → ⊥) → (x ≡ z → ⊥) → f (lent W ws) x c ≡ lent W ws x c)
        → InWord f (lent W ws) (lent W thrice) i
    three_words f F O = record {
      at = λ x c. at_thrice x c ∙ elim (ℕ_discrete (c / 64) i) [
        | no n ↦ rw (ne_eqb (c / 64) i n, and-false, and-false, and-false)
        | yes e ↦ rw (eq-eqb (c / 64) i e, and-true, and-true, and-true) (elim (ℕ_discrete x z) [
          | yes q ↦ rw (q, eq-eqb z z refl) (sym (F c e).2)
          | no n ↦ rw (ne_eqb x z n) (elim (ℕ_discrete x v) [
            | yes q ↦ rw (q, eq-eqb v v refl) (sym (F c e).1)
            | no m ↦ rw (ne_eqb x v m) (elim (ℕ_discrete x u) [
              | yes q ↦ rw (q, eq-eqb u u refl) (sym (F c e).0)
              | no o ↦ rw (ne_eqb x u o) (sym (O x c o m n))
            ])
          ])
        ])
      ];
    }

  abbrev first : ℕ
  first = get_or ws (u * W + i) 0

  abbrev second : ℕ
  second = get_or ws (v * W + i) 0

  abbrev new : ℕ
  new = get_or ws (z * W + i) 0

  abbrev without : ℕ → ℕ
  without w = bit_and w (2 ^ 64 - 1 - bit_and first second)

  -- what those of u and v have in common is taken out of both and put into that of z
  module _ (machine : (j : ℕ) → get_or ws j 0 < 2 ^ 64) where
    without_bit : (w j : ℕ) → j < 64 → bit_of (without w) j ≡ (bit_of w j && not (bit_of first j && bit_of second j))
    without_bit w j k =
        bit_of_and w (2 ^ 64 - 1 - bit_and first second) j
        ∙ rw (bit_not 64 (bit_and first second) j k (lt_of_le_of_lt (and_le_l first second) (machine (u * W + i))), bit_of_and first second j)

    pub part_word : InWord (parted u v z) (lent W ws) (lent W (thrice (without first) (without second) (bit_and first second))) i
    unfolding parted
    part_word = three_words (without first) (without second) (bit_and first second) (parted u v z)
        (λ c e. (
          rw (without_bit first (c % 64) (omega arith), word_bit u c e, word_bit v c e, ne_eqb u z (λ q. omega arith), eq-eqb u u refl),
          rw (without_bit second (c % 64) (omega arith), word_bit u c e, word_bit v c e, ne_eqb v z (λ q. omega arith), eq-eqb v v refl, or-true),
          rw (bit_of_and first second (c % 64), word_bit u c e, word_bit v c e, eq-eqb z z refl),
        ))
        (λ x c p q r. rw (ne_eqb x z r, ne_eqb x u p, ne_eqb x v q))

  -- that of z is put into both, and becomes 0
  pub join_word : InWord (joined u v z) (lent W ws) (lent W (thrice (bit_or first new) (bit_or second new) 0)) i
  unfolding joined
  join_word = three_words (bit_or first new) (bit_or second new) 0 (joined u v z)
      (λ c e. (
        rw (bit_of_or first new (c % 64), word_bit u c e, word_bit z c e, ne_eqb u z (λ q. omega arith), eq-eqb u u refl),
        rw (bit_of_or second new (c % 64), word_bit v c e, word_bit z c e, ne_eqb v z (λ q. omega arith), eq-eqb v v refl, or-true),
        rw (bit_zero (c % 64), eq-eqb z z refl),
      ))
      (λ x c p q r. rw (ne_eqb x z r, ne_eqb x u p, ne_eqb x v q, or-false))

-- What f makes of columns at a check is made of what they have there: of nothing, nothing.
pub record Local (f : Matrix → Matrix) : Type 0 where
  pub same : (g g' : Matrix) (x c : ℕ) → ((y : ℕ) → g y c ≡ g' y c) → f g x c ≡ f g' x c
  pub none : (g : Matrix) (x c : ℕ) → ((y : ℕ) → g y c ≡ false) → f g x c ≡ false

pub parted_local : (u v z : ℕ) → Local (parted u v z)
unfolding parted
parted_local u v z = record {
  same = λ g g' x c e. rw (e u, e v, e x);
  none = λ g x c e. rw (e u, e x) (go (eqb x z) (eqb x u || eqb x v));
}
  where
    go : (p q : Bool) → cond p false (cond q false false) ≡ false
    go true q = refl
    go false true = refl
    go false false = refl

pub joined_local : (u v z : ℕ) → Local (joined u v z)
unfolding joined
joined_local u v z = record {
  same = λ g g' x c e. rw (e x, e z);
  none = λ g x c e. rw (e x, e z, and-false) (go (eqb x z));
}
  where
    go : (p : Bool) → cond p false (false || false) ≡ false
    go true = refl
    go false = refl

-- word after word
module _ (f : Matrix → Matrix) where
  pub words_none : (g : Matrix) → InWords f g g 0
  words_none g = record { at = λ x c. rw (le-ltb (c / 64) 0 (omega arith)) }

  pub words_next : Local f → (g₀ g₁ g₂ : Matrix) (i : ℕ) → InWords f g₀ g₁ i → InWord f g₁ g₂ i → InWords f g₀ g₂ (i + 1)
  words_next L g₀ g₁ g₂ i P Q = record {
    at = λ x c. elim (ℕ_discrete (c / 64) i) [
      | yes e ↦ Q.at x c ∙ rw (eq-eqb (c / 64) i e, lt-ltb (c / 64) (i + 1) (omega arith)) (L.same g₁ g₀ x c (λ y. P.at y c ∙ rw (le-ltb (c / 64) i (omega arith))))
      | no d ↦ Q.at x c ∙ rw (ne_eqb (c / 64) i d) (P.at x c ∙ elim (dec_lt (c / 64) i) [
        | yes l ↦ rw (lt-ltb (c / 64) i l, lt-ltb (c / 64) (i + 1) (omega arith))
        | no l ↦ rw (le-ltb (c / 64) i (omega arith), le-ltb (c / 64) (i + 1) (omega arith))
      ])
    ];
  }

  pub words_all : Local f → (W : ℕ) (ws : List ℕ) (g : Matrix) → InWords f (lent W ws) g W → (x c : ℕ) → g x c ≡ f (lent W ws) x c
  words_all L W ws g P x c = P.at x c ∙ elim (dec_lt (c / 64) W) [
    | yes l ↦ rw (lt-ltb (c / 64) W l)
    | no l ↦
        let out : (y : ℕ) → lent W ws y c ≡ false = λ y. lent_out W ws y c (omega arith) in
        rw (le-ltb (c / 64) W (omega arith)) (out x ∙ sym (L.none (lent W ws) x c out))
  ]

-- the columns of the split matrix
pub parted_columns : (h g g' : Matrix) (m M N u v : ℕ) → m ≤ M → Columns m h g → Parted g g' u v N → Columns m (split_of h N M u v) g'
unfolding parted split_of
parted_columns h g g' m M N u v mM C P = record {
  at = λ x c. P.at x c ∙ rw (C.at x c, C.at u c, C.at v c) (elim (dec_lt c m) [
    | yes l ↦ rw (lt-ltb c m l, ne_eqb c M (λ q. omega arith)) (go (eqb x N) (eqb x u || eqb x v) (h c u && h c v) (h c x))
    | no l ↦ rw (le-ltb c m (omega arith)) (none (eqb x N) (eqb x u || eqb x v))
  ]);
}
  where
    go : (p q b y : Bool) → cond p b (cond q (y && not b) y) ≡ cond p b (cond (q && b) false y)
    go true q b y = refl
    go false true true true = refl
    go false true true false = refl
    go false true false true = refl
    go false true false false = refl
    go false false b y = refl

    none : (p q : Bool) → cond p false (cond q false false) ≡ false
    none true q = refl
    none false true = refl
    none false false = refl
