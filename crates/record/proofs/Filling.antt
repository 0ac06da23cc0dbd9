-- Filling the matrix's words: no ones, the bits of a row, and the checks one after another. Assumes nothing.
use mathlib.Core.Path.{◌≡◌, refl, sym, ap, ◌∙◌, fun_ext}
use mathlib.Core.Bool.{true, false}
use mathlib.Core.List.{List}
use Prim.Native.Nat.{ℕ, zero, suc, ◌+◌, ◌*◌, ◌-◌, ◌/◌, ◌%◌, ◌^◌, ◌≤◌, ◌<◌}
use native.Mathlib.Nat.{add-zero, add-suc, zero-add}
use native.Mathlib.Numerals.{add-one}
use native.Mathlib.Decide.{ℕ_discrete}
use native.Mathlib.Omega.{arith}
use lib.Bits.{bit_or}
use lib.Dec.{ltb}
use lib.ListN.{get_or, length, set, length-set, take, drop}
use borrow.Author.Tests.{lt-ltb, ltb-true, ltb-false}
use borrow.Author.Tests.{lt-ltb, ltb-true, ltb-false}
use lib.Seq.{get_or-set_same, set-get_or, set-set}
use Rattle.parity.specs.Matrix.{Matrix, lent, put}
use Rattle.parity.specs.Record.{payload, form_of, open_word, checked}
use Rattle.parity.specs.declared.Form.{Form}
use Rattle.parity.proofs.Matrix.Digits.{one_shl}
use Rattle.parity.proofs.Matrix.Lent.{raised_put}
use Rattle.parity.proofs.Record.Reading.{reading_at, bits, opens, read_open, read_bit, right_more, right_open, right_more_bit, right_bit, right_done}
use Rattle.reading.specs.Read.{puts}
use Rattle.rows.specs.Rows.{Empty}
use Rattle.std.specs.List.{between}
use Rattle.std.specs.List.Sorted.{IsPartitionedBy, IsPartitionPoint}
use Rattle.std.proofs.lemmas.List.{get_or_default, get_or-take, get_or-drop, length-take-le, length-drop}
use Rattle.std.proofs.lemmas.List.Edits.{length-between, get_or-between}
use Rattle.record.specs.Fill.{Payloads, InWord, gathered, Checks, Filled}

abbrev none : Matrix
none c b = false

pub none_in : (h : Matrix) → Empty h → h ≡ none
none_in h E = fun_ext (λ c. fun_ext (λ b. E.at c b))

pub gathered_next : (ones : List ℕ) (i x y b : ℕ) → y ≡ gathered ones i x → b ≡ payload (get_or ones i 0)
    → bit_or y (1 * 2 ^ (b % 64) % 2 ^ 64) ≡ gathered ones (i + 1) x
unfolding gathered
gathered_next ones i x y b e q = rw (add-one i, q, e, one_shl (payload (get_or ones i 0) % 64) (omega arith))

-- the bits of words that all are in one word of a row
pub word_puts : (W : ℕ) (ones : List ℕ) (i j c : ℕ) (ws : List ℕ) → InWord ones i → j ≤ length ones → i < W → c * W + W ≤ length ws
    → lent W (set ws (c * W + i) (gathered ones j (get_or ws (c * W + i) 0))) ≡ puts ones c 0 j (lent W ws)
unfolding puts gathered
word_puts W ones i zero c ws B l k room = rw (set-get_or ws (c * W + i) 0)
word_puts W ones i (suc j) c ws B l k room =
    let at : ℕ = c * W + i in
    let y : ℕ = gathered ones j (get_or ws at 0) in
    let b : ℕ = payload (get_or ones j 0) in
    let q : b / 64 ≡ i = B.word j (omega arith) in
    let e : c * W + b / 64 ≡ at = rw q in
    let s = length-set ws at y in
    let few : b < W * 64 = omega arith in
    rw (← word_puts W ones i j c ws B (omega arith) k room, zero-add j)
    (rw (e, get_or-set_same ws at y 0 (omega arith), set-set ws at y (bit_or y (2 ^ (b % 64)))) at (raised_put W (set ws at y) c b (rw e (omega arith)) few))

-- words that are the same in two lists
puts_same : (a b : List ℕ) (c f g k : ℕ) (h : Matrix) → ((j : ℕ) → j < k → get_or a (f + j) 0 ≡ get_or b (g + j) 0) → puts a c f k h ≡ puts b c g k h
unfolding puts
puts_same a b c f g zero h e = refl
puts_same a b c f g (suc k) h e = rw (puts_same a b c f g k h (λ j l. e j (omega arith)), e k (omega arith))

-- a part of a record
module _ (source : List ℕ) (p count : ℕ) (k : p + count ≤ length source) where
  abbrev pub part : List ℕ
  part = between p (p + count) source

  pub part_length : length part ≡ count
  part_length = length-between source p (p + count) k ∙ omega arith

  pub puts_part : (c : ℕ) (h : Matrix) → puts part c 0 (length part) h ≡ puts source c p count h
  puts_part c h =
      ap (λ (n : ℕ). puts part c 0 n h) part_length ∙ puts_same part source c 0 p count h (λ j l. rw (zero-add j) (get_or-between source p (p + count) j 0 (omega arith)))

-- the bit of one word more
pub puts_next : (ones : List ℕ) (c i : ℕ) (h g k : Matrix) (b : ℕ) → g ≡ puts ones c 0 i h → b ≡ payload (get_or ones i 0) → k ≡ put c b true g
    → k ≡ puts ones c 0 (i + 1) h
unfolding puts
puts_next ones c i h g k b e q t = rw (add-one i, zero-add i, t, q, e)

-- the bits of i words, and then those of j more
pub puts_more : (source : List ℕ) (c from i j : ℕ) (h : Matrix) → puts source c (from + i) j (puts source c from i h) ≡ puts source c from (i + j) h
unfolding puts
puts_more source c from i zero h = rw (add-zero i)
puts_more source c from i (suc j) h = let e : from + i + j ≡ from + (i + j) = omega arith in rw (add-suc i j, e, puts_more source c from i j h)

-- rising bits, those below 64 and the others
module _ (ones : List ℕ) (P : Payloads ones 128) where
  pub parted : IsPartitionedBy (λ w. ltb (payload w) 64) ones
  parted i j d l k e =
      elim (ℕ_discrete i j) [
        | yes q ↦ rw q e
        | no q ↦ lt-ltb (payload (get_or ones i d)) 64 (omega (arith, ltb-true (payload (get_or ones j d)) 64 e, rw (same i d (omega arith), same j d k) at (P.rising i j (omega arith) k)))
      ]
    where
      same : (i d : ℕ) → i < length ones → get_or ones i 0 ≡ get_or ones i d
      same i d l = get_or_default ones i 0 d l

  module _ (r : ℕ) (l : r ≤ length ones) (C : IsPartitionPoint (λ w. ltb (payload w) 64 ≡ true) (λ w. ltb (payload w) 64 ≡ false) ones r) where
    pub low_word : InWord (take r ones) 0
    low_word = record {
      word = λ j k.
          let t : j < r = omega (arith, length-take-le r ones l) in
          rw (get_or-take r ones j 0 t) (omega (arith, ltb-true (payload (get_or ones j 0)) 64 (C.0 j 0 (omega arith) t)));
    }

    pub high_word : InWord (drop r ones) 1
    high_word = record {
      word = λ j k.
          let t : r + j < length ones = omega (arith, length-drop r ones) in
          rw (get_or-drop r ones j 0) (omega (arith, ltb-false (payload (get_or ones (r + j) 0)) 64 (C.1 (r + j) 0 (omega arith) t), P.below (r + j) t));
    }

    pub both_words : (c : ℕ) (h : Matrix) → puts (drop r ones) c 0 (length (drop r ones)) (puts (take r ones) c 0 (length (take r ones)) h) ≡ puts ones c 0 (length ones) h
    both_words c h =
        let e : r + (length ones - r) ≡ length ones = omega arith in
        let n = length ones - r in
        let front = ap (λ (k : ℕ). puts (take r ones) c 0 k h) (length-take-le r ones l) ∙ puts_same (take r ones) ones c 0 0 r h (λ j k. rw (zero-add j) (get_or-take r ones j 0 k)) in
        ap (λ (g : Matrix). puts (drop r ones) c 0 (length (drop r ones)) g) front
        ∙ ap (λ (k : ℕ). puts (drop r ones) c 0 k (puts ones c 0 r h)) (length-drop r ones)
        ∙ puts_same (drop r ones) ones c 0 (0 + r) n (puts ones c 0 r h) (λ j k. rw (zero-add j, zero-add r) (get_or-drop r ones j 0))
        ∙ puts_more ones c 0 r n h
        ∙ ap (λ (k : ℕ). puts ones c 0 k h) e

-- the ones of a check of a record whose checks are right, j of them read
pub record BitsIn (f : Form) (n m : ℕ) (source : List ℕ) (from c j d : ℕ) (g : Matrix) (ws : List ℕ) (q : ℕ) (h : Matrix) : Type 0 where
  pub inside : from + j ≤ length source
  pub below : (i : ℕ) → i < j → payload (get_or source (from + i) 0) < n
  pub rising : (i k : ℕ) → i < k → k < j → payload (get_or source (from + i) 0) < payload (get_or source (from + k) 0)
  pub low : ℕ
  pub last : (i : ℕ) → i < j → payload (get_or source (from + i) 0) < low
  pub rest : reading_at f n m source (from + j) c d low (puts source (c - 1) from j g) ≡ checked ws q h

pub bits_in : (f : Form) (n m : ℕ) (source : List ℕ) (from c j d low : ℕ) (g : Matrix) (ws : List ℕ) (q : ℕ) (h : Matrix) → from ≤ length source
    → reading_at f n m source from c (j + d) low g ≡ checked ws q h → BitsIn f n m source from c j d g ws q h
unfolding puts
bits_in f n m source from c zero d low g ws q h l e = record {
  inside = omega arith;
  below = λ i k. absurd (omega arith);
  rising = λ i k l t. absurd (omega arith);
  low = low;
  last = λ i k. absurd (omega arith);
  rest = rw (add-zero from) (rw (zero-add d) at e);
}
bits_in f n m source from c (suc j) d low g ws q h l e =
    let s : suc j + d ≡ j + suc d = omega arith in
    let B = bits_in f n m source from c j (suc d) low g ws q h l (rw s at e) in
    let p = puts source (c - 1) from j g in
    let w = right_bit f n m source (from + j) c B.low p ws q h d B.rest in
    let k = right_more_bit f n m source (from + j) c B.low p ws q h d B.rest in
    let (a, b, t) = bits n B.low (get_or source (from + j) 0) w in
    let r = sym (read_bit f n m source (from + j) c B.low p k d w) ∙ B.rest in
    record {
      inside = omega arith;
      below = λ i k. elim (ℕ_discrete i j) [ yes q ↦ rw q t | no q ↦ B.below i (omega arith) ];
      rising = λ i k l q. elim (ℕ_discrete k j) [ yes v ↦ rw v (omega (arith, B.last i (omega arith), b)) | no v ↦ B.rising i k l (omega arith) ];
      low = suc (payload (get_or source (from + j) 0));
      last = λ i k. elim (ℕ_discrete i j) [ yes q ↦ rw q (omega arith) | no q ↦ omega (arith, B.last i (omega arith), b) ];
      rest = rw (add-suc from j) r;
    }

-- c checks are filled in h, and reading came to place p
pub record Filling (m : ℕ) (source : List ℕ) (p c : ℕ) (h : Matrix) : Type 0 where
  pub few : payload (get_or source 0 0) % 256 ≤ 120
  pub checks : m ≤ 120
  pub behind : List ℕ
  pub place : ℕ
  pub matrix : Matrix
  pub reads : reading_at (form_of (get_or source 0 0)) (payload (get_or source 0 0) % 256) m source 1 0 0 0 none ≡ checked behind place matrix
  pub low : ℕ
  pub rest : reading_at (form_of (get_or source 0 0)) (payload (get_or source 0 0) % 256) m source p c 0 low h ≡ checked behind place matrix

pub filling_none : (m : ℕ) (source : List ℕ) (h : Matrix) → Checks m source → h ≡ none → Filling m source 1 0 h
filling_none m source h C z =
    let R = C.right in
    let e : reading_at (form_of (get_or source 0 0)) (payload (get_or source 0 0) % 256) m source 1 0 0 0 none ≡ checked (drop C.place source) C.place R.matrix =
    rw (R.form, R.bits) R.reads in
    record {
      few = rw R.bits R.few;
      checks = R.checks;
      behind = drop C.place source;
      place = C.place;
      matrix = R.matrix;
      reads = e;
      low = 0;
      rest = rw z e;
    }

module _ (m : ℕ) (source : List ℕ) (p c : ℕ) (h : Matrix) (F : Filling m source p c h) (l : c < m) where
  abbrev f : Form
  f = form_of (get_or source 0 0)

  abbrev n : ℕ
  n = payload (get_or source 0 0) % 256

  pub filling_more : p < length source
  filling_more = right_more f n m source p c F.low h F.behind F.place F.matrix l F.rest

  opened : open_word f n c (get_or source p 0) ≡ true
  opened = right_open f n m source p c F.low h F.behind F.place F.matrix l F.rest

  all_in : BitsIn f n m source (p + 1) (suc c) (payload (get_or source p 0) % 256) 0 h F.behind F.place F.matrix
  all_in =
      bits_in f n m source (p + 1) (suc c) (payload (get_or source p 0) % 256) 0 0 h F.behind F.place F.matrix (omega (arith, filling_more))
      (rw (add-zero (payload (get_or source p 0) % 256), add-one p) (sym (read_open f n m source p c F.low h filling_more l opened) ∙ F.rest))

  pub filling_inside : p + 1 + payload (get_or source p 0) % 256 ≤ length source
  filling_inside = all_in.inside

  abbrev pub here : List ℕ
  here = between (p + 1) (p + 1 + payload (get_or source p 0) % 256) source

  pub filling_payloads : Payloads here 128
  filling_payloads =
      let n : ℕ = payload (get_or source p 0) % 256 in
      let e = part_length source (p + 1) n filling_inside in
      let at : (j : ℕ) → j < n → get_or here j 0 ≡ get_or source (p + 1 + j) 0 = λ j k. get_or-between source (p + 1) (p + 1 + n) j 0 (omega arith) in
      record {
        below = λ j k. rw (at j (omega arith)) (omega (arith, all_in.below j (omega arith), F.few));
        rising = λ i j k t. rw (at i (omega arith), at j (omega arith)) (all_in.rising i j k (omega arith));
      }

  pub filling_next : (new : Matrix) → new ≡ puts here c 0 (length here) h
      → Filling m source (p + (1 + payload (get_or source p 0) % 256)) (c + 1) new
  filling_next new s = record {
    few = F.few;
    checks = F.checks;
    behind = F.behind;
    place = F.place;
    matrix = F.matrix;
    reads = F.reads;
    low = all_in.low;
    rest =
        let t : suc c - 1 ≡ c = omega arith in
        let u : p + (1 + payload (get_or source p 0) % 256) ≡ p + 1 + payload (get_or source p 0) % 256 = omega arith in
        let v = s ∙ puts_part source (p + 1) (payload (get_or source p 0) % 256) filling_inside c h in
        rw (u, v, add-one c) (rw t at all_in.rest);
  }

pub filling_end : (m : ℕ) (source : List ℕ) (p : ℕ) (ws : List ℕ) → Filling m source p m (lent 8 ws) → Filled m source ws
filling_end m source p ws F =
    let e : lent 8 ws ≡ F.matrix =
    right_done (form_of (get_or source 0 0)) (payload (get_or source 0 0) % 256) m source p m F.low (lent 8 ws) F.behind F.place F.matrix (omega arith) F.rest in
    record { holds = λ rest q h t. e ∙ same F.behind F.place F.matrix rest q h (sym F.reads ∙ t) }
  where
    same : (ws : List ℕ) (p : ℕ) (g : Matrix) (rest : List ℕ) (q : ℕ) (h : Matrix) → checked ws p g ≡ checked rest q h → g ≡ h
    same ws p g rest q h e = cc
