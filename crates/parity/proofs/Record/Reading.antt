-- Reading a record, word by word at its places, and the ones of a check one after another. Assumes nothing.
use mathlib.Core.Path.{◌≡◌, refl, sym, ◌∙◌}
use mathlib.Core.Bool.{true, false, ◌&&◌, and-false, and-eq-true_iff}
use mathlib.Core.List.{List, [], ◌∷◌}
use Prim.Native.Nat.{ℕ, suc, ◌+◌, ◌*◌, ◌-◌, ◌/◌, ◌%◌, ◌^◌, ◌≤◌, ◌<◌}
use native.Mathlib.Nat.{div-add-mod'}
use native.Mathlib.Decide.{dec_lt}
use native.Mathlib.Omega.{arith}
use lib.Arith.{digits_div, digits_mod}
use lib.Dec.{eqb, ltb, leb}
use lib.ListN.{get_or, length, drop, drop_of_length-le}
use lib.Seq.{drop-cons}
use borrow.Author.Tests.{eq-eqb, ne_eqb, lt-ltb, le-ltb, le-leb, lt-leb, eqb-true, ltb-true, leb-true}
use Rattle.parity.specs.Matrix.{Matrix, put}
use Rattle.parity.specs.Cycles.{split_of}
use Rattle.parity.specs.Splits.{split_right}
use Rattle.parity.specs.Record.{kind_of, payload, number_in, open_word, bit_word, carries, pair_in, split_word, end_word, Checked, stopped, checked, reading, Loaded, faulty, loaded, ending, performing}
use Rattle.parity.specs.declared.Form.{Form}
use Rattle.parity.specs.declared.Form.TheVariants.{First, Second, Third}
use Rattle.parity.proofs.Finite.Sums.{is_true, is_false, is}

-- a word is its kind and its payload
pub word_made : (w : ℕ) → kind_of w * 2 ^ 28 + payload w ≡ w
unfolding kind_of payload
word_made w = div-add-mod' w (2 ^ 28)

pub word_kind : (k x : ℕ) → x < 2 ^ 28 → kind_of (k * 2 ^ 28 + x) ≡ k
unfolding kind_of
word_kind k x l = digits_div k l

pub word_payload : (k x : ℕ) → x < 2 ^ 28 → payload (k * 2 ^ 28 + x) ≡ x
unfolding payload
word_payload k x l = digits_mod k l

-- the number in a kind 2 word is a byte
pub number_most : (f : Form) (c : ℕ) → number_in f c ≤ c
number_most First c = omega arith
number_most Second c = omega arith
number_most Third c = omega arith

-- what the tests of a word say
pub opens : (f : Form) (n c w : ℕ) → open_word f n c w ≡ true → (kind_of w ≡ 2) × (payload w / 256 ≡ number_in f c) × (payload w % 256 ≤ n)
unfolding open_word
opens f n c w e =
    let (a, b) = (and-eq-true_iff (eqb (kind_of w) 2 && eqb (payload w / 256) (number_in f c)) (leb (payload w % 256) n)).0 e in
    let (d, g) = (and-eq-true_iff (eqb (kind_of w) 2) (eqb (payload w / 256) (number_in f c))).0 a in
    (eqb-true (kind_of w) 2 d, eqb-true (payload w / 256) (number_in f c) g, leb-true (payload w % 256) n b)

module _ (f : Form) (n c w : ℕ) where
  pub open_yes : kind_of w ≡ 2 → payload w / 256 ≡ number_in f c → payload w % 256 ≤ n → open_word f n c w ≡ true
  unfolding open_word
  open_yes e d k = rw (eq-eqb (kind_of w) 2 e, eq-eqb (payload w / 256) (number_in f c) d, le-leb (payload w % 256) n k)

  pub open_kind : (kind_of w ≡ 2 → ⊥) → open_word f n c w ≡ false
  unfolding open_word
  open_kind d = rw (ne_eqb (kind_of w) 2 d)

  pub open_number : (payload w / 256 ≡ number_in f c → ⊥) → open_word f n c w ≡ false
  unfolding open_word
  open_number d = rw (ne_eqb (payload w / 256) (number_in f c) d, and-false)

  pub open_large : n < payload w % 256 → open_word f n c w ≡ false
  unfolding open_word
  open_large k = rw (lt-leb (payload w % 256) n k, and-false)

pub bits : (n low w : ℕ) → bit_word n low w ≡ true → (kind_of w ≡ 3) × (low ≤ payload w) × (payload w < n)
unfolding bit_word
bits n low w e =
    let (a, b) = (and-eq-true_iff (eqb (kind_of w) 3 && leb low (payload w)) (ltb (payload w) n)).0 e in
    let (d, f) = (and-eq-true_iff (eqb (kind_of w) 3) (leb low (payload w))).0 a in
    (eqb-true (kind_of w) 3 d, leb-true low (payload w) f, ltb-true (payload w) n b)

pub bit_yes : (n low w : ℕ) → kind_of w ≡ 3 → low ≤ payload w → payload w < n → bit_word n low w ≡ true
unfolding bit_word
bit_yes n low w e k l = rw (eq-eqb (kind_of w) 3 e, le-leb low (payload w) k, lt-ltb (payload w) n l)

pub bit_kind : (n low w : ℕ) → (kind_of w ≡ 3 → ⊥) → bit_word n low w ≡ false
unfolding bit_word
bit_kind n low w d = rw (ne_eqb (kind_of w) 3 d)

pub bit_low : (n low w : ℕ) → payload w < low → bit_word n low w ≡ false
unfolding bit_word
bit_low n low w k = rw (lt-leb low (payload w) k, and-false)

pub bit_large : (n low w : ℕ) → n ≤ payload w → bit_word n low w ≡ false
unfolding bit_word
bit_large n low w k = rw (le-ltb (payload w) n k, and-false)

-- a split that would be refused, or a word that is none
pub split_yes : (f : Form) (h : Matrix) (n m k w : ℕ) → carries f ≡ true → kind_of w ≡ 6 → split_right h n m k (pair_in w) ≡ true → split_word f h n m k w ≡ true
unfolding split_word
split_yes f h n m k w c e r = rw (c, eq-eqb (kind_of w) 6 e, r)

pub split_none : (f : Form) (h : Matrix) (n m k w : ℕ) → carries f ≡ false → split_word f h n m k w ≡ false
unfolding split_word
split_none f h n m k w c = rw c

pub split_kind : (f : Form) (h : Matrix) (n m k w : ℕ) → (kind_of w ≡ 6 → ⊥) → split_word f h n m k w ≡ false
unfolding split_word
split_kind f h n m k w d = rw (ne_eqb (kind_of w) 6 d, and-false)

pub split_wrong : (f : Form) (h : Matrix) (n m k w : ℕ) → split_right h n m k (pair_in w) ≡ false → split_word f h n m k w ≡ false
unfolding split_word
split_wrong f h n m k w e = rw (e, and-false)

pub splits : (f : Form) (h : Matrix) (n m k w : ℕ) → split_word f h n m k w ≡ true → (carries f ≡ true) × (kind_of w ≡ 6) × (split_right h n m k (pair_in w) ≡ true)
unfolding split_word
splits f h n m k w e =
    let (a, b) = (and-eq-true_iff (carries f && eqb (kind_of w) 6) (split_right h n m k (pair_in w))).0 e in
    let (c, d) = (and-eq-true_iff (carries f) (eqb (kind_of w) 6)).0 a in
    (c, eqb-true (kind_of w) 6 d, b)

pub end_yes : (w : ℕ) → kind_of w ≡ 15 → payload w ≡ 0 → end_word w ≡ true
unfolding end_word
end_yes w e f = rw (eq-eqb (kind_of w) 15 e, eq-eqb (payload w) 0 f)

pub ends : (w : ℕ) → end_word w ≡ true → (kind_of w ≡ 15) × (payload w ≡ 0)
unfolding end_word
ends w e =
    let (a, b) = (and-eq-true_iff (eqb (kind_of w) 15) (eqb (payload w) 0)).0 e in
    (eqb-true (kind_of w) 15 a, eqb-true (payload w) 0 b)

pub end_kind : (w : ℕ) → (kind_of w ≡ 15 → ⊥) → end_word w ≡ false
unfolding end_word
end_kind w d = rw (ne_eqb (kind_of w) 15 d)

pub end_unnamed : (w : ℕ) → (payload w ≡ 0 → ⊥) → end_word w ≡ false
unfolding end_word
end_unnamed w d = rw (ne_eqb (payload w) 0 d, and-false)

-- reading from place p of a record on
abbrev pub reading_at : Form → ℕ → ℕ → List ℕ → ℕ → ℕ → ℕ → ℕ → Matrix → Checked
reading_at f n m source p c due low h = reading f n m (drop p source) p c due low h

-- all checks are read
pub checks_done : (f : Form) (n m : ℕ) (ws : List ℕ) (p c low : ℕ) (h : Matrix) → m ≤ c → reading f n m ws p c 0 low h ≡ checked ws p h
unfolding reading
checks_done f n m [] p c low h l = rw (le-ltb c m l)
checks_done f n m (w ∷ ws) p c low h l = rw (le-ltb c m l)

-- what one word does
module _ (f : Form) (n m : ℕ) (source : List ℕ) (p c low : ℕ) (h : Matrix) where
  pub missing_open : c < m → length source ≤ p → reading_at f n m source p c 0 low h ≡ stopped p
  unfolding reading
  missing_open l k = rw (drop_of_length-le source k, lt-ltb c m l)

  pub missing_bit : (due : ℕ) → length source ≤ p → reading_at f n m source p c (suc due) low h ≡ stopped p
  unfolding reading
  missing_bit due k = rw (drop_of_length-le source k)

  module _ (k : p < length source) where
    abbrev w : ℕ
    w = get_or source p 0

    pub read_open : c < m → open_word f n c w ≡ true → reading_at f n m source p c 0 low h ≡ reading_at f n m source (suc p) (suc c) (payload w % 256) 0 h
    unfolding reading
    read_open l e = rw (drop-cons source p 0 k, lt-ltb c m l, e)

    pub not_open : c < m → open_word f n c w ≡ false → reading_at f n m source p c 0 low h ≡ stopped p
    unfolding reading
    not_open l e = rw (drop-cons source p 0 k, lt-ltb c m l, e)

    pub read_bit : (due : ℕ) → bit_word n low w ≡ true
        → reading_at f n m source p c (suc due) low h ≡ reading_at f n m source (suc p) c due (suc (payload w)) (put (c - 1) (payload w) true h)
    unfolding reading
    read_bit due e = rw (drop-cons source p 0 k, e)

    pub not_bit : (due : ℕ) → bit_word n low w ≡ false → reading_at f n m source p c (suc due) low h ≡ stopped p
    unfolding reading
    not_bit due e = rw (drop-cons source p 0 k, e)

-- the splits and the end word from place p on
abbrev pub performing_at : Form → ℕ → ℕ → List ℕ → ℕ → ℕ → Matrix → Loaded
performing_at f n m source p k h = performing f n m (drop p source) p k h

module _ (f : Form) (n m : ℕ) (source : List ℕ) (p k : ℕ) (h : Matrix) where
  pub missing_end : length source ≤ p → performing_at f n m source p k h ≡ faulty p
  unfolding performing
  missing_end l = rw (drop_of_length-le source l)

  module _ (l : p < length source) where
    abbrev x : ℕ
    x = get_or source p 0

    pub read_split : split_word f h n m k x ≡ true
        → performing_at f n m source p k h ≡ performing_at f n m source (suc p) (suc k) (split_of h (n + k) (m + k) (pair_in x).lower (pair_in x).higher)
    unfolding performing
    read_split e = rw (drop-cons source p 0 l, e)

    module _ (o : split_word f h n m k x ≡ false) where
      pub not_end : end_word x ≡ false → performing_at f n m source p k h ≡ faulty p
      unfolding performing
      not_end e = rw (drop-cons source p 0 l, o, e) refl

      pub end_last : end_word x ≡ true → length source ≤ suc p → performing_at f n m source p k h ≡ loaded n m k h
      unfolding performing ending
      end_last e t = rw (drop-cons source p 0 l, o, e, drop_of_length-le source t)

      pub end_more : end_word x ≡ true → suc p < length source → performing_at f n m source p k h ≡ faulty (suc p)
      unfolding performing ending
      end_more e t = rw (drop-cons source p 0 l, o, e, drop-cons source (suc p) 0 t)

-- A record that loads is not faulty, so each of its words is right.
pub never : (p n m k : ℕ) (h : Matrix) → faulty p ≡ loaded n m k h → ⊥
never p n m k h e = let z : ◌≡◌ {A = ℕ} 0 1 = cc in omega arith

pub never_checked : (p : ℕ) (ws : List ℕ) (q : ℕ) (h : Matrix) → stopped p ≡ checked ws q h → ⊥
never_checked p ws q h e = let z : ◌≡◌ {A = ℕ} 0 1 = cc in omega arith

module _ (f : Form) (n m : ℕ) (source : List ℕ) (p c low : ℕ) (h : Matrix) (ws : List ℕ) (q : ℕ) (g : Matrix) where
  pub right_more : c < m → reading_at f n m source p c 0 low h ≡ checked ws q g → p < length source
  right_more l e =
      elim (dec_lt p (length source)) [
        | yes k ↦ k
        | no k ↦ absurd (never_checked p ws q g (sym (missing_open f n m source p c low h l (omega arith)) ∙ e))
      ]

  pub right_open : c < m → reading_at f n m source p c 0 low h ≡ checked ws q g → open_word f n c (get_or source p 0) ≡ true
  right_open l e =
      elim (is (open_word f n c (get_or source p 0))) [
        | is_true t ↦ t
        | is_false t ↦ absurd (never_checked p ws q g (sym (not_open f n m source p c low h (right_more l e) l t) ∙ e))
      ]

  pub right_more_bit : (due : ℕ) → reading_at f n m source p c (suc due) low h ≡ checked ws q g → p < length source
  right_more_bit due e =
      elim (dec_lt p (length source)) [
        | yes k ↦ k
        | no k ↦ absurd (never_checked p ws q g (sym (missing_bit f n m source p c low h due (omega arith)) ∙ e))
      ]

  pub right_bit : (due : ℕ) → reading_at f n m source p c (suc due) low h ≡ checked ws q g → bit_word n low (get_or source p 0) ≡ true
  right_bit due e =
      elim (is (bit_word n low (get_or source p 0))) [
        | is_true t ↦ t
        | is_false t ↦ absurd (never_checked p ws q g (sym (not_bit f n m source p c low h (right_more_bit due e) due t) ∙ e))
      ]

  pub right_done : m ≤ c → reading_at f n m source p c 0 low h ≡ checked ws q g → h ≡ g
  right_done l e = same_checked (sym (checks_done f n m (drop p source) p c low h l) ∙ e)
    where
      same_checked : checked (drop p source) p h ≡ checked ws q g → h ≡ g
      same_checked t = cc
