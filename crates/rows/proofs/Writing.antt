-- Words that are written one after the other, over their number, and what the bits of the rows are then. Assumes nothing.
use mathlib.Core.Path.{◌≡◌, refl, sym, ap, ◌∙◌, fun_ext}
use mathlib.Core.Bool.{Bool, false}
use mathlib.Core.List.{List, ◌++◌}
use Prim.Native.Nat.{ℕ, ◌+◌, ◌*◌, ◌/◌, ◌%◌, ◌-◌, ◌≤◌, ◌<◌}
use native.Mathlib.Nat.{div-lt_iff_lt-mul}
use native.Mathlib.Omega.{arith}
use native.Mathlib.Decide.{ℕ_discrete, dec_lt}
use lib.ListN.{get_or, length, set, take, drop, length-set, length-drop, get_or-append}
use lib.Seq.{get_or-set_same, get_or-set_other}
use lib.Arith.{digits_div}
use borrow.Author.Tests.{eq-eqb, ne_eqb}
use Rattle.parity.specs.Matrix.{Matrix, bit_of, lent}
use Rattle.parity.proofs.Matrix.Lent.{lent_in, lent_out}
use borrow.Rule.Slice.PartMut.{put_mid, same_len_mid}
use Rattle.std.proofs.lemmas.List.{get_or-append_right, get_or-take, get_or-drop, length-take-le}
use Rattle.rows.specs.Whole.{Written, word_from, RowsCopied, combined}

-- words of different rows stand at different places
pub apart : (W c d a b : ℕ) → a < W → b < W → (c ≡ d → ⊥) → c * W + a ≡ d * W + b → ⊥
apart W c d a b k l n e = n (sym (digits_div c k) ∙ ap (◌/ W) e ∙ digits_div d l)

pub word_in : (W b : ℕ) → b < W * 64 → b / 64 < W
word_in W b k = (div-lt_iff_lt-mul {k = 64} {x = b} {y = W} (omega arith)).1 k

pub written_none : (w : List ℕ) (base : ℕ) (f : ℕ → ℕ) → Written w w base f 0
written_none w base f = record { long = refl; done = λ a k. absurd (omega arith); else = λ a g. refl }

pub written_more : (w u : List ℕ) (base : ℕ) (f : ℕ → ℕ) (i v : ℕ) → Written w u base f i → base + i < length w → v ≡ f i → Written w (set u (base + i) v) base f (i + 1)
written_more w u base f i v A fit e = record {
  long = length-set u _ _ ∙ A.long;
  done = λ a k. elim (ℕ_discrete a i) [
    | yes s ↦ rw s (get_or-set_same u (base + i) v 0 (rw A.long fit) ∙ e)
    | no d ↦ get_or-set_other u (base + i) (base + a) v 0 (λ e. omega arith) ∙ A.done a (omega arith)
  ];
  else = λ a g. get_or-set_other u (base + i) a v 0 (g i (omega arith)) ∙ A.else a (λ j l. g j (omega arith));
}

-- a part that becomes a list, as `w[b..b + k].copy_from_slice(..)` and `w[b..b + k].fill(..)` leave it
module _ (w ys : List ℕ) (b k : ℕ) (f : ℕ → ℕ) (room : b + k ≤ length w) (long : length ys ≡ k) (is : (j : ℕ) → j < k → get_or ys j 0 ≡ f j) where
  front : length (take b w) ≡ b
  front = length-take-le b w (omega arith)

  pub written_part : Written w (put_mid b k w ys) b f k
  written_part = record {
    long = same_len_mid b k w ys (long ∙ sym (length-take-le k (drop b w) (omega (arith, length-drop b w))));
    done = λ a l.
        let e : b + a - b ≡ a = omega arith in
        get_or-append_right (take b w) (ys ++ drop k (drop b w)) b (b + a) 0 front (omega arith) ∙ rw e (get_or-append ys (drop k (drop b w)) 0 a (omega arith) ∙ is a l);
    else = λ a g. elim (dec_lt a b) [
      | yes l ↦ get_or-append (take b w) (ys ++ drop k (drop b w)) 0 a (omega (arith, front)) ∙ get_or-take b w a 0 l
      | no l ↦ elim (dec_lt a (b + k)) [
        | yes m ↦ absurd (g (a - b) (omega arith) (omega arith))
        | no m ↦
            let e : b + (k + (a - b - k)) ≡ a = omega arith in
            get_or-append_right (take b w) (ys ++ drop k (drop b w)) b a 0 front (omega arith) ∙ get_or-append_right ys (drop k (drop b w)) k (a - b) 0 long (omega arith)
            ∙ get_or-drop k (drop b w) (a - b - k) 0 ∙ get_or-drop b w (k + (a - b - k)) 0 ∙ ap (λ i. get_or w i 0) e
      ]
    ];
  }

pub written_copy : (w ws ys : List ℕ) (b a k i j : ℕ) → b + k ≤ length w → a + k ≤ length ws → i ≡ k → j ≡ k → ys ≡ take i (drop a ws) → Written w (put_mid b j w ys) b (word_from ws a) k
written_copy w ws ys b a k i j r s p q e = rw (e, p, q) (written_part w (take k (drop a ws)) b k (word_from ws a) r (length-take-le k (drop a ws) (omega (arith, length-drop a ws)))
    (λ t l. get_or-take k (drop a ws) t 0 l ∙ get_or-drop a ws t 0))

-- each word becomes one of itself and of another
abbrev pub onto : (ℕ → ℕ → ℕ) → List ℕ → ℕ → (ℕ → ℕ) → ℕ → ℕ
onto f w base t a = f (get_or w (base + a) 0) (t a)

pub written_onto : (f : ℕ → ℕ → ℕ) (w u : List ℕ) (base : ℕ) (t : ℕ → ℕ) (i v : ℕ) → Written w u base (onto f w base t) i → base + i < length w → v ≡ t i
    → Written w (set u (base + i) (f (get_or u (base + i) 0) v)) base (onto f w base t) (i + 1)
written_onto f w u base t i v A fit e = written_more w u base (onto f w base t) i _ A fit (rw (e, A.else (base + i) (λ j l q. omega arith)))

-- of a row b of W words, `count` words from `from` on
module _ (W b from count : ℕ) (room : from + count ≤ W) (w u : List ℕ) (f : ℕ → ℕ) (A : Written w u (b * W + from) f count) where
  pub row_here : (j : ℕ) → j < count * 64 → lent W u b (from * 64 + j) ≡ bit_of (f (j / 64)) (j % 64)
  row_here j k =
      let p : (from * 64 + j) / 64 ≡ from + j / 64 = omega arith in
      let q : (from * 64 + j) % 64 ≡ j % 64 = omega arith in
      let r : b * W + (from + j / 64) ≡ b * W + from + j / 64 = omega arith in
      rw (lent_in W u b (from * 64 + j) (omega arith), p, q, r, A.done (j / 64) (omega arith))

  pub row_before : (i : ℕ) → i < from * 64 → lent W u b i ≡ lent W w b i
  row_before i k = rw (lent_in W u b i (omega arith), lent_in W w b i (omega arith), A.else (b * W + i / 64) (λ j l e. omega arith))

  pub row_behind : (i : ℕ) → (from + count) * 64 ≤ i → lent W u b i ≡ lent W w b i
  row_behind i k = elim (dec_lt i (W * 64)) [
    | yes l ↦ rw (lent_in W u b i l, lent_in W w b i l, A.else (b * W + i / 64) (λ j m e. omega arith))
    | no l ↦ let m : W * 64 ≤ i = omega arith in rw (lent_out W u b i m, lent_out W w b i m)
  ]

  pub row_else : (a i : ℕ) → (a ≡ b → ⊥) → lent W u a i ≡ lent W w a i
  row_else a i n = elim (dec_lt i (W * 64)) [
    | yes l ↦ rw (lent_in W u a i l, lent_in W w a i l, A.else (a * W + i / 64) (λ j m e. apart W a b (i / 64) (from + j) (word_in W i l) (omega arith) n (e ∙ omega arith)))
    | no l ↦ let m : W * 64 ≤ i = omega arith in rw (lent_out W u a i m, lent_out W w a i m)
  ]

-- of a row b, the first words
module _ (W b count : ℕ) (room : count ≤ W) (w u : List ℕ) (f : ℕ → ℕ) (A : Written w u (b * W) f count) where
  from_start : Written w u (b * W + 0) f count
  from_start = let e : b * W + 0 ≡ b * W = omega arith in rw e A

  pub row_first : (j : ℕ) → j < count * 64 → lent W u b j ≡ bit_of (f (j / 64)) (j % 64)
  row_first j k = let e : 0 * 64 + j ≡ j = omega arith in ap (lent W u b) (sym e) ∙ row_here W b 0 count (omega arith) w u f from_start j k

  pub row_others : (a i : ℕ) → (a ≡ b → ⊥) → lent W u a i ≡ lent W w a i
  row_others = row_else W b 0 count (omega arith) w u f from_start

-- a row that is copied from the first words of a longer one
module _ (U W : ℕ) (p : W ≤ U) (ws w u : List ℕ) (c d : ℕ) (A : Written w u (d * W) (word_from ws (c * U)) W) where
  pub copied_row : (b : ℕ) → b < W * 64 → lent W u d b ≡ lent U ws c b
  copied_row b k = row_first W d W (omega arith) w u (word_from ws (c * U)) A b k ∙ sym (lent_in U ws c b (omega arith))

-- the next of the rows
pub rows_none : (U W : ℕ) (ws w : List ℕ) → RowsCopied U W ws w 0
rows_none U W ws w = record { at = λ c i k l. absurd (omega arith) }

pub rows_more : (U W : ℕ) (ws u v : List ℕ) (c : ℕ) → RowsCopied U W ws u c → Written u v (c * W) (word_from ws (c * U)) W → RowsCopied U W ws v (c + 1)
rows_more U W ws u v c A B = record {
  at = λ d i k l. elim (ℕ_discrete d c) [
    | yes s ↦ rw s (B.done i l)
    | no s ↦ B.else (d * W + i) (λ j m e. apart W d c i j l m s e) ∙ A.at d i (omega arith) l
  ];
}

-- the rows have the bits of the longer ones
pub rows_lent : (U W : ℕ) → W ≤ U → (ws u : List ℕ) (m : ℕ) → RowsCopied U W ws u m → (c b : ℕ) → c < m → b < W * 64 → lent W u c b ≡ lent U ws c b
rows_lent U W k ws u m A c b l i = rw (lent_in W u c b i, lent_in U ws c b (omega arith), A.at c (b / 64) l (word_in W b i))

-- a row combined with another
module _ (f : Bool → Bool → Bool) (c : ℕ) (row : ℕ → Bool) (g : Matrix) where
  pub combined_at : (b : ℕ) → combined f c row g c b ≡ f (g c b) (row b)
  unfolding combined
  combined_at b = rw (eq-eqb c c refl)

  pub combined_else : (i b : ℕ) → (i ≡ c → ⊥) → combined f c row g i b ≡ g i b
  unfolding combined
  combined_else i b d = rw (ne_eqb i c d)

-- all words of row c are combined with those of row q of t, by an operation on words that is f on their bits
pub combined_all : (f : Bool → Bool → Bool) (o : ℕ → ℕ → ℕ) → ((x y j : ℕ) → bit_of (o x y) j ≡ f (bit_of x j) (bit_of y j)) → f false false ≡ false
    → (W : ℕ) (w u : List ℕ) (c : ℕ) (t : List ℕ) (q : ℕ) → Written w u (c * W) (onto o w (c * W) (word_from t (q * W))) W
    → lent W u ≡ combined f c (lent W t q) (lent W w)
combined_all f o bits none W w u c t q A = fun_ext (λ d. fun_ext (λ b. elim (ℕ_discrete d c) [
  | yes s ↦ rw s (here b ∙ sym (combined_at f c (lent W t q) (lent W w) b))
  | no n ↦ row_others W c W (omega arith) w u _ A d b n ∙ sym (combined_else f c (lent W t q) (lent W w) d b n)
]))
  where
    here : (b : ℕ) → lent W u c b ≡ f (lent W w c b) (lent W t q b)
    here b = elim (dec_lt b (W * 64)) [
      | yes k ↦ row_first W c W (omega arith) w u _ A b k ∙ bits _ _ (b % 64) ∙ sym (rw (lent_in W w c b k, lent_in W t q b k))
      | no k ↦ let l : W * 64 ≤ b = omega arith in rw (lent_out W u c b l, lent_out W w c b l, lent_out W t q b l) (sym none)
    ]
