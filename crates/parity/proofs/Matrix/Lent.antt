-- Laws of a matrix that is lent as W words for each check: single bits, counts by words, equal words. Assumes nothing.
use mathlib.Core.Path.{◌≡◌, refl, sym, ap, ◌∙◌, fun_ext}
use mathlib.Core.Bool.{Bool, true, false, cond, not, ◌&&◌, ◌||◌, and-false, and-true}
use mathlib.Core.List.{List}
use Prim.Native.Nat.{ℕ, zero, suc, ◌+◌, ◌*◌, ◌-◌, ◌/◌, ◌%◌, ◌^◌, ◌≤◌, ◌<◌}
use native.Mathlib.Nat.{add-suc, add-zero, zero-add, suc-mul, zero-mul, mul-le-mul_right, div-lt_iff_lt-mul}
use native.Mathlib.Numerals.{add-one}
use native.Mathlib.Decide.{ℕ_discrete, dec_lt}
use native.Mathlib.Omega.{arith}
use lib.Arith.{digits_div, digits_mod, digits_lt, lt-one}
use lib.Bits.{bit_and, bit_or, and_le_r}
use lib.Count.{ones as onesOf, ones_step}
use lib.Dec.{eqb, lit<}
use lib.ListN.{get_or, length, set, replicate}
use lib.Pow.{shr_lt, pow_pos}
use lib.Seq.{get_or-set_same, get_or-set_other}
use borrow.Author.Tests.{eq-eqb, ne_eqb, lt-ltb, le-ltb}
use Rattle.parity.specs.Finite.{one, sum, count}
use Rattle.parity.specs.Matrix.{Matrix, bit_of, lent, put}
use Rattle.parity.proofs.Finite.Sums.{count_cong, sum_cong}
use Rattle.parity.proofs.Matrix.Digits.{bit_set, bit_clear, bit_zero, bit_of_and, bit_mask, low_bit, higher}

-- a check before another has room for its words
pub row_room : (W c e : ℕ) → c < e → c * W + W ≤ e * W
row_room W c e k = omega (arith, suc-mul c W, mul-le-mul_right W k)

-- a matrix with one bit put
pub put_here : (i j : ℕ) (x : Bool) (h : Matrix) → put i j x h i j ≡ x
unfolding put
put_here i j x h = rw (eq-eqb i i refl, eq-eqb j j refl)

pub put_row : (i j : ℕ) (x : Bool) (h : Matrix) (c b : ℕ) → (c ≡ i → ⊥) → put i j x h c b ≡ h c b
unfolding put
put_row i j x h c b d = rw (ne_eqb c i d)

pub put_place : (i j : ℕ) (x : Bool) (h : Matrix) (c b : ℕ) → (b ≡ j → ⊥) → put i j x h c b ≡ h c b
unfolding put
put_place i j x h c b d = rw (ne_eqb b j d, and-false)

-- a bit of a check, and none from W * 64 on
pub lent_in : (W : ℕ) (ws : List ℕ) (c b : ℕ) → b < W * 64 → lent W ws c b ≡ bit_of (get_or ws (c * W + b / 64) 0) (b % 64)
unfolding lent
lent_in W ws c b k = rw (lt-ltb b (W * 64) k)

pub lent_out : (W : ℕ) (ws : List ℕ) (c b : ℕ) → W * 64 ≤ b → lent W ws c b ≡ false
unfolding lent
lent_out W ws c b k = rw (le-ltb b (W * 64) k)

-- bit j of word i of a check
pub lent_word : (W : ℕ) (ws : List ℕ) (c i j : ℕ) → i < W → j < 64 → lent W ws c (i * 64 + j) ≡ bit_of (get_or ws (c * W + i) 0) j
lent_word W ws c i j k l = lent_in W ws c (i * 64 + j) (digits_lt k l) ∙ rw (digits_div i l, digits_mod i l)

zeros : (n i : ℕ) → ◌≡◌ {A = ℕ} (get_or (replicate n 0) i 0) 0
zeros zero i = refl
zeros (suc n) zero = refl
zeros (suc n) (suc i) = zeros n i

-- words that are all 0
pub lent_empty : (W n : ℕ) (ws : List ℕ) → ws ≡ replicate n 0 → (c b : ℕ) → lent W ws c b ≡ false
unfolding lent
lent_empty W n ws e c b = rw (e, zeros n (c * W + b / 64), bit_zero (b % 64), and-false)

-- The word of bit j of check i becomes w, which differs from it in that bit alone.
module _ (W : ℕ) (ws : List ℕ) (i j w : ℕ) (x : Bool) (room : i * W + j / 64 < length ws) (k : j < W * 64)
    (same : (t : ℕ) → t < 64 → bit_of w t ≡ cond (eqb t (j % 64)) x (bit_of (get_or ws (i * W + j / 64) 0) t)) where
  word_at : (b : ℕ) → b < W * 64 → b / 64 < W
  word_at b l = (div-lt_iff_lt-mul (lit< tt)).1 l

  there : (c b : ℕ) → b < W * 64 → c * W + b / 64 ≡ i * W + j / 64 → (c ≡ i) × (b / 64 ≡ j / 64)
  there c b l e = (
    sym (digits_div c (word_at b l)) ∙ rw e (digits_div i (word_at j k)),
    sym (digits_mod c (word_at b l)) ∙ rw e (digits_mod i (word_at j k)),
  )

  in_word : (c b : ℕ) → b < W * 64 → lent W (set ws (i * W + j / 64) w) c b ≡ put i j x (lent W ws) c b
  unfolding put
  in_word c b l =
      lent_in W (set ws (i * W + j / 64) w) c b l ∙ rw (lent_in W ws c b l) (elim (ℕ_discrete (c * W + b / 64) (i * W + j / 64)) [
        | no d ↦ rw (get_or-set_other ws (i * W + j / 64) (c * W + b / 64) w 0 d) (elim (ℕ_discrete c i) [
          | no n ↦ rw (ne_eqb c i n)
          | yes q ↦ let n : b ≡ j → ⊥ = λ r. d (rw (q, r)) in rw (ne_eqb b j n, and-false)
        ])
        | yes e ↦
            let (q, r) = there c b l e in
            rw (e, get_or-set_same ws (i * W + j / 64) w 0 room, same (b % 64) (omega arith), eq-eqb c i q) (elim (ℕ_discrete b j) [
              | yes s ↦ rw (s, eq-eqb j j refl, eq-eqb (j % 64) (j % 64) refl)
              | no n ↦ let m : b % 64 ≡ j % 64 → ⊥ = λ s. n (omega arith) in rw (ne_eqb b j n, ne_eqb (b % 64) (j % 64) m)
            ])
      ])

  pub set_put : lent W (set ws (i * W + j / 64) w) ≡ put i j x (lent W ws)
  set_put = fun_ext (λ c. fun_ext (λ b. at c b))
    where
      at : (c b : ℕ) → lent W (set ws (i * W + j / 64) w) c b ≡ put i j x (lent W ws) c b
      at c b =
          elim (dec_lt b (W * 64)) [
            | yes l ↦ in_word c b l
            | no l ↦
                let n : b ≡ j → ⊥ = λ s. omega arith in
                lent_out W (set ws (i * W + j / 64) w) c b (omega arith) ∙ sym (put_place i j x (lent W ws) c b n ∙ lent_out W ws c b (omega arith))
          ]

-- The machine's w | (1 << t) and w & !(1 << t) put one bit.
module _ (W : ℕ) (ws : List ℕ) (i j : ℕ) (room : i * W + j / 64 < length ws) (k : j < W * 64) where
  pub raised_put : lent W (set ws (i * W + j / 64) (bit_or (get_or ws (i * W + j / 64) 0) (2 ^ (j % 64)))) ≡ put i j true (lent W ws)
  raised_put =
      set_put W ws i j _ true room k (λ t l. bit_set (get_or ws (i * W + j / 64) 0) (j % 64) t ∙ go (bit_of (get_or ws (i * W + j / 64) 0) t) (eqb t (j % 64)))
    where
      go : (p q : Bool) → (p || q) ≡ cond q true p
      go true true = refl
      go true false = refl
      go false true = refl
      go false false = refl

  pub lowered_put : lent W (set ws (i * W + j / 64) (bit_and (get_or ws (i * W + j / 64) 0) (2 ^ 64 - 1 - 2 ^ (j % 64)))) ≡ put i j false (lent W ws)
  lowered_put =
      set_put W ws i j _ false room k (λ t l.
      bit_clear 64 (get_or ws (i * W + j / 64) 0) (j % 64) t (omega arith) l ∙ go (bit_of (get_or ws (i * W + j / 64) 0) t) (eqb t (j % 64)))
    where
      go : (p q : Bool) → (p && not q) ≡ cond q false p
      go true true = refl
      go true false = refl
      go false true = refl
      go false false = refl

-- counts in parts
pub count_add : (a b : ℕ) (p : ℕ → Bool) → count (a + b) p ≡ count a p + count b (λ i. p (a + i))
unfolding count sum
count_add a zero p = rw (add-zero a) (omega arith)
count_add a (suc b) p = rw (add-suc a b) (omega (arith, count_add a b p))

pub count_blocks : (d a : ℕ) (p : ℕ → Bool) → count (d * a) p ≡ sum d (λ i. count a (λ b. p (i * a + b)))
unfolding sum count
count_blocks zero a p = rw (zero-mul a)
count_blocks (suc d) a p = rw (suc-mul d a) (count_add (d * a) a p ∙ ap (◌+ count a (λ b. p (d * a + b))) (count_blocks d a p))

count_one : (p : ℕ → Bool) → count 1 p ≡ one (p 0)
unfolding count sum
count_one p = rw zero-add

-- a count, its first number apart
pub count_first : (k : ℕ) (p : ℕ → Bool) → count (suc k) p ≡ one (p 0) + count k (λ i. p (1 + i))
count_first k p = let e : suc k ≡ 1 + k = omega arith in rw e (omega (arith, count_add 1 k p, count_one p))

-- the ones of a word of k bits
pub ones_count : (k w : ℕ) → w < 2 ^ k → onesOf w ≡ count k (bit_of w)
ones_count zero w l = rw (lt-one l) (unfold count sum onesOf in refl)
ones_count (suc k) w l =
    let r = ones_count k (w / 2) (shr_lt k 1 (rw (add-one k) l)) in
    omega (arith, ones_step w, count_first k (bit_of w), low_bit w, count_cong k {p = λ i. bit_of w (1 + i)} {q = bit_of (w / 2)} (λ i l. higher w i))

-- the weight of a check, by the ones of its words
pub weight : (W : ℕ) (ws : List ℕ) → ((i : ℕ) → get_or ws i 0 < 2 ^ 64) → (c : ℕ)
    → count (W * 64) (lent W ws c) ≡ sum W (λ i. onesOf (get_or ws (c * W + i) 0))
weight W ws u c =
    count_blocks W 64 (lent W ws c)
    ∙ sum_cong W (λ i k. count_cong 64 (λ b l. lent_word W ws c i b k l) ∙ sym (ones_count 64 (get_or ws (c * W + i) 0) (u (c * W + i))))

-- the ones of a word's lower t bits, as the machine's w & ((1 << t) - 1) gives them
low_ones : (t w : ℕ) → onesOf (bit_and w (2 ^ t - 1)) ≡ count t (bit_of w)
low_ones t w =
    ones_count t (bit_and w (2 ^ t - 1)) (omega (arith, and_le_r w (2 ^ t - 1), pow_pos t))
    ∙ count_cong t (λ i l. bit_of_and w (2 ^ t - 1) i ∙ rw (bit_mask t i, lt-ltb i t l, and-true))

-- how many of the bits below b a row has: those of the words before b's, and the lower ones of b's word
pub weight_below : (W : ℕ) (ws : List ℕ) (c b : ℕ) → b < W * 64
    → count b (lent W ws c) ≡ count (b / 64 * 64) (lent W ws c) + onesOf (bit_and (get_or ws (c * W + b / 64) 0) (2 ^ (b % 64) - 1))
weight_below W ws c b l =
    let e : b ≡ b / 64 * 64 + b % 64 = omega arith in
    let s : b / 64 < W = (div-lt_iff_lt-mul (lit< tt)).1 l in
    let a = count_add (b / 64 * 64) (b % 64) (lent W ws c) in
    let q = count_cong (b % 64) {p = λ i. lent W ws c (b / 64 * 64 + i)} {q = bit_of (get_or ws (c * W + b / 64) 0)} (λ i k. lent_word W ws c (b / 64) i s (omega arith)) in
    ap (λ (x : ℕ). count x (lent W ws c)) e ∙ omega (arith, low_ones (b % 64) (get_or ws (c * W + b / 64) 0))
