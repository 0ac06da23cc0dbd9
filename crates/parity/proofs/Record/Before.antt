-- A record without its kind 6 words is the one of its checks, and loads to the checks before the splits (M-107). Assumes nothing.
use mathlib.Core.Path.{◌≡◌, refl, sym, ap, ◌∙◌}
use mathlib.Core.Bool.{true, and-eq-true_iff}
use mathlib.Core.List.{List, [], ◌∷◌, ◌++◌}
use Prim.Native.Nat.{ℕ, zero, suc, ◌+◌, ◌*◌, ◌^◌, ◌≤◌}
use native.Mathlib.Nat.{add-zero}
use native.Mathlib.Omega.{arith}
use lib.ListN.{get_or, length}
use borrow.Author.Tests.{eq-eqb, ne_eqb}
use Rattle.parity.specs.Finite.{count}
use Rattle.parity.specs.Matrix.{Matrix}
use Rattle.parity.specs.Sound.{Sound}
use Rattle.parity.specs.Splits.{Pair, split_all, split_right, splits_right, all_back}
use Rattle.parity.specs.Record.{kind_of, head_kind, form_of, bit_words, opening, check_words, splitting, split_words, record_of, without_splits}
use Rattle.parity.specs.declared.Form.{Form}
use Rattle.parity.specs.declared.Form.TheVariants.{First, Second, Third}
use Rattle.parity.specs.RecordPromises.{LoadsBefore}
use Rattle.parity.proofs.Finite.Sums.{count_bound}
use Rattle.parity.proofs.Matrix.Accept.{pack_same}
use Rattle.parity.proofs.Lists.Rebuilt.{built_recovers}
use Rattle.parity.proofs.Record.Reading.{word_kind}
use Rattle.parity.proofs.Record.Writing.{bits_passed, check_after, no_checks, split_after}
use Rattle.parity.proofs.Record.Records.{load_right}
use Rattle.parity.proofs.Record.ReadWritten.{opening_made}
use Rattle.parity.proofs.Record.ReadBack.{loading_back}
use Rattle.parity.proofs.Record.Performed.{splitting_kind, pair_small, loading_plain}
use Rattle.parity.proofs.Record.RoundTrip.{load_answered, loaded_words_lem, sourced_built, sourced_sound}

-- a word of another kind stays, and one of kind 6 goes
stays : (w : ℕ) (ws : List ℕ) → (kind_of w ≡ 6 → ⊥) → without_splits (w ∷ ws) ≡ w ∷ without_splits ws
unfolding without_splits
stays w ws d = rw (ne_eqb (kind_of w) 6 d)

goes : (w : ℕ) (ws : List ℕ) → kind_of w ≡ 6 → without_splits (w ∷ ws) ≡ without_splits ws
unfolding without_splits
goes w ws e = rw (eq-eqb (kind_of w) 6 e)

-- the checks stay,
checks_stay : (f : Form) (h : Matrix) (n c : ℕ) (ws : List ℕ) → n ≤ 120 → c ≤ 120 → without_splits (check_words f h n c ++ ws) ≡ check_words f h n c ++ without_splits ws
checks_stay f h n zero ws k l = rw (no_checks f h n ws, no_checks f h n (without_splits ws))
checks_stay f h n (suc c) ws k l =
    let (o, p, q) = opening_made f c (count n (h c)) (omega arith) (omega (arith, count_bound n (h c))) in
    rw (check_after f h n c ws, checks_stay f h n c (opening f c (count n (h c)) ∷ (bit_words (h c) n ++ ws)) k (omega arith))
    (rw (
      stays (opening f c (count n (h c))) (bit_words (h c) n ++ ws) (λ r. omega arith),
      bits_passed without_splits (λ w ws e. stays w ws (λ r. omega arith)) (h c) n ws k,
      check_after f h n c (without_splits ws),
    ))

-- and the splits go.
splits_go : (g : Matrix) (n m : ℕ) → n ≤ 120 → (ps : List Pair) → splits_right g n m ps ≡ true → (ws : List ℕ) → without_splits (split_words ps ++ ws) ≡ without_splits ws
unfolding splits_right
splits_go g n m k [] e ws = unfold split_words in refl
splits_go g n m k (q ∷ ps) e ws =
    let (a, b) = (and-eq-true_iff (splits_right g n m ps) (split_right (split_all g n m ps) n m (length ps) q)).0 e in
    let (x, y) = pair_small g n m k (split_all g n m ps) (length ps) q b in
    rw (split_after q ps ws) (splits_go g n m k ps a (splitting q ∷ ws) ∙ goes (splitting q) ws (splitting_kind q x y))

head_stays : (f : Form) → head_kind f ≡ 6 → ⊥
head_stays First e = omega arith
head_stays Second e = omega arith
head_stays Third e = omega arith

record_before : (f : Form) (h : Matrix) (n m : ℕ) (ps : List Pair) → Sound h n m 0 → splits_right h n m ps ≡ true
    → without_splits (record_of f h n m ps) ≡ record_of f h n m []
unfolding record_of
record_before f h n m ps S e =
    let w = head_kind f * 2 ^ 28 + m * 256 + n in
    let t : w ≡ head_kind f * 2 ^ 28 + (m * 256 + n) = omega arith in
    let d : kind_of w ≡ head_kind f = rw t (word_kind (head_kind f) (m * 256 + n) (omega (arith, S.n120, S.m120))) in
    let end = (15 * 2 ^ 28) ∷ [] in
    let z : kind_of (15 * 2 ^ 28) ≡ 15 = rw (add-zero (15 * 2 ^ 28)) at (word_kind 15 0 (omega arith)) in
    let last : without_splits end ≡ end = stays (15 * 2 ^ 28) [] (λ r. omega arith) ∙ unfold without_splits in refl in
    let none : split_words [] ++ end ≡ end = unfold split_words in refl in
    stays w (check_words f h n m ++ (split_words ps ++ end)) (λ r. head_stays f (sym d ∙ r))
    ∙ ap (w ∷◌) (checks_stay f h n m (split_words ps ++ end) S.n120 S.m120 ∙ rw (splits_go h n m S.n120 ps e end, last, none))

-- The record without its kind 6 words loads, with k = 0, to the checks before the splits.
pub loads_before : LoadsBefore
loads_before source held n m k e =
    let A = load_answered source held n m k e in
    let S = loading_back source n m k A.matrix A.loads in
    let f = form_of (get_or source 0 0) in
    let w : without_splits source ≡ record_of f S.checks n m [] =
    ap without_splits (sym S.words) ∙ record_before f S.checks n m S.pairs S.sound S.right in
    let q : all_back A.matrix n m k ≡ S.checks = (built_recovers S.checks n m S.sound (sourced_built source n m k A.matrix S)).base in
    rw (w, loaded_words_lem source held n m k A, pack_same A.matrix n m k (sourced_sound source n m k A.matrix S), q)
    (load_right (record_of f S.checks n m []) held n m 0 S.checks A.words (loading_plain f S.checks n m S.sound))
