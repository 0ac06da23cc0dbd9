-- Judging the first word of a record, a check and the end. Assumes nothing.
use mathlib.Core.Path.{◌≡◌, refl, ap, ◌∙◌}
use mathlib.Core.Bool.{true, false, and-false, and-eq-true_iff}
use mathlib.Core.List.{List, [], ◌∷◌}
use Prim.Native.Nat.{ℕ, suc, ◌+◌, ◌-◌, ◌/◌, ◌%◌, ◌≤◌, ◌<◌}
use native.Mathlib.Numerals.{add-one}
use native.Mathlib.Decide.{dec_lt}
use native.Mathlib.Omega.{arith}
use lib.Dec.{eqb}
use lib.ListN.{get_or, length, drop}
use borrow.Author.Tests.{eq-eqb, ne_eqb}
use Rattle.parity.specs.Matrix.{Matrix, in_range}
use Rattle.parity.specs.Record.{kind_of, payload, head_kind, form_of, head_word, open_word, end_word, faulty, behind, loading}
use Rattle.parity.specs.declared.Form.{Form}
use Rattle.parity.proofs.Finite.Sums.{is_true, is_false, is}
use Rattle.parity.proofs.Matrix.Accept.{ranges}
use Rattle.parity.proofs.Record.Reading.{reading_at, checks_done, missing_open, missing_bit, read_open, not_open, not_bit, missing_end, not_end, end_last, end_more}
use Rattle.reading.specs.Read.{puts, BitsRead}
use Rattle.reading.specs.Judge.{Gives, Complete, Stops, Reached, ChecksRight, Ends, Breaks}

-- the first word
pub head_kind_lem : (w : ℕ) → ((f : Form) → kind_of w ≡ head_kind f → ⊥) → head_word (form_of w) w ≡ false
unfolding head_word
head_kind_lem w d = rw (ne_eqb (kind_of w) (head_kind (form_of w)) (d (form_of w)))

pub head_range : (f : Form) (w : ℕ) → ((1 ≤ payload w % 256) × (payload w % 256 ≤ 120) × (payload w / 256 ≤ 120) → ⊥) → head_word f w ≡ false
unfolding head_word
head_range f w d =
    elim (is (in_range (payload w % 256) (payload w / 256) 0)) [
      | is_false e ↦ rw (e, and-false)
      | is_true e ↦ let (a, b, g, t) = (ranges (payload w % 256) (payload w / 256) 0).0 e in absurd (d (a, b, g))
    ]

pub head_yes : (f : Form) (w : ℕ) → kind_of w ≡ head_kind f → 1 ≤ payload w % 256 → payload w % 256 ≤ 120 → payload w / 256 ≤ 120 → head_word f w ≡ true
unfolding head_word
head_yes f w e a b d = rw (eq-eqb (kind_of w) (head_kind f) e, (ranges (payload w % 256) (payload w / 256) 0).1 (a, b, d, omega arith))

head_sizes : (f : Form) (w : ℕ) → head_word f w ≡ true → (1 ≤ payload w % 256) × (payload w % 256 ≤ 120) × (payload w / 256 ≤ 120)
unfolding head_word
head_sizes f w e =
    let (a, b, d, g) = (ranges (payload w % 256) (payload w / 256) 0).0 ((and-eq-true_iff (eqb (kind_of w) (head_kind f)) _).0 e).1 in
    (a, b, d)

pub load_empty : (source : List ℕ) → length source ≡ 0 → loading source ≡ faulty 0
unfolding loading
load_empty [] e = refl
load_empty (w ∷ ws) e = absurd (omega arith)

pub load_other : (source : List ℕ) → (length source ≡ 0 → ⊥) → head_word (form_of (get_or source 0 0)) (get_or source 0 0) ≡ false → loading source ≡ faulty 0
unfolding loading
load_other [] k e = absurd (k refl)
load_other (w ∷ ws) k e = rw e

pub load_head : (source : List ℕ) (f : Form) (n m : ℕ) → (length source ≡ 0 → ⊥) → Gives (get_or source 0 0) f n m → Reached f n m source 1 0
unfolding loading
load_head [] f n m k G = absurd (k refl)
load_head (w ∷ ws) f n m k G =
    let (d, a, b) = head_sizes f w G.right in
    record {
      form = G.form;
      bits = G.bits;
      some = rw (← G.bits) d;
      few = rw (← G.bits) a;
      checks = rw (← G.checks) b;
      start = rw (G.form, G.right, G.bits, G.checks);
      inside = omega arith;
      low = 0;
      matrix = λ c b. false;
      reached = refl;
    }

module _ (f : Form) (n c : ℕ) (source : List ℕ) (p : ℕ) where
  pub stop_missing : length source ≤ p → Stops f n c source p p
  stop_missing k = record { stops = λ m below h l. missing_open f n m source p c below h l k }

  module _ (k : p < length source) where
    pub stop_open : open_word f n c (get_or source p 0) ≡ false → Stops f n c source p p
    stop_open e = record { stops = λ m below h l. not_open f n m source p c below h k l e }

    -- `due` ones are looked at, all that the check has or all that the record has left
    module _ (count due right : ℕ) (e : open_word f n c (get_or source p 0) ≡ true) (d : payload (get_or source p 0) % 256 ≡ count)
        (B : BitsRead n source (p + 1) due right) (room : p + 1 + due ≤ length source) where
      opened : (m below : ℕ) (h : Matrix) → c < m → reading_at f n m source p c 0 below h ≡ reading_at f n m source (p + 1) (suc c) count 0 h
      opened m below h l = rw (add-one p, ← d) (read_open f n m source p c below h k l e)

      pub check_stops : (due < count → p + 1 + due ≡ length source) → right < count → Stops f n c source p (p + 1 + right)
      check_stops t r = record {
        stops = λ m below h l.
            let x : ℕ = count - suc right in
            let s : count ≡ right + suc x = omega arith in
            let g = puts source (suc c - 1) (p + 1) right h in
            opened m below h l ∙ ap (λ (y : ℕ). reading_at f n m source (p + 1) (suc c) y 0 h) s ∙ B.rising.goes f m (suc c) (suc x) h
            ∙ elim (dec_lt right due) [
              | yes q ↦ not_bit f n m source (p + 1 + right) (suc c) B.low g (omega arith) x (B.next q)
              | no q ↦ missing_bit f n m source (p + 1 + right) (suc c) B.low g x (outside q)
            ];
      }
        where
          outside : (right < due → ⊥) → length source ≤ p + 1 + right
          outside q = let b = B.top in omega (arith, t (omega arith))

      pub check_complete : due ≤ count → count ≤ right → Complete f n c source p (p + 1 + right)
      check_complete x r =
          let s : count ≡ right + 0 = omega (arith, B.top) in
          record {
            top = omega (arith, B.top);
            low = B.low;
            after = λ h. puts source (suc c - 1) (p + 1) right h;
            goes = λ m below h l.
                opened m below h l ∙ ap (λ (y : ℕ). reading_at f n m source (p + 1) (suc c) y 0 h) s ∙ B.rising.goes f m (suc c) 0 h;
          }

-- the checks, one after another
module _ (f : Form) (n m : ℕ) (source : List ℕ) (p q c : ℕ) (R : Reached f n m source p c) (l : c < m) where
  pub reach_next : Complete f n c source p q → Reached f n m source q (c + 1)
  reach_next C = record {
    form = R.form;
    bits = R.bits;
    some = R.some;
    few = R.few;
    checks = R.checks;
    start = R.start;
    inside = C.top;
    low = C.low;
    matrix = C.after R.matrix;
    reached = rw (add-one c) (R.reached ∙ C.goes m R.low R.matrix l);
  }

  pub reach_stop : Stops f n c source p q → loading source ≡ faulty q
  unfolding behind
  reach_stop S = R.start ∙ rw (R.reached, S.stops m R.low R.matrix l)

pub reach_all : (f : Form) (n m : ℕ) (source : List ℕ) (p : ℕ) → Reached f n m source p m → ChecksRight f n m source p
unfolding behind
reach_all f n m source p R =
    let e = R.reached ∙ checks_done f n m (drop p source) p m R.low R.matrix (omega arith) in
    record {
      form = R.form;
      bits = R.bits;
      some = R.some;
      few = R.few;
      checks = R.checks;
      inside = R.inside;
      matrix = R.matrix;
      reads = e;
      loads = R.start ∙ rw e;
    }

-- the end of a record
module _ (source : List ℕ) (p : ℕ) where
  pub break_missing : length source ≤ p → Breaks source p p
  break_missing l = record { breaks = λ f n m k h o. missing_end f n m source p k h l }

  module _ (l : p < length source) where
    pub break_other : end_word (get_or source p 0) ≡ false → Breaks source p p
    break_other e = record { breaks = λ f n m k h o. not_end f n m source p k h l (o l) e }

    pub break_more : end_word (get_or source p 0) ≡ true → p + 1 < length source → Breaks source p (p + 1)
    break_more e t = rw (add-one p) record { breaks = λ f n m k h o. end_more f n m source p k h l (o l) e (omega arith) }

    pub end_right : end_word (get_or source p 0) ≡ true → length source ≤ p + 1 → Ends source p
    end_right e t = record { ends = λ f n m k h o. end_last f n m source p k h l (o l) e (omega arith) }
