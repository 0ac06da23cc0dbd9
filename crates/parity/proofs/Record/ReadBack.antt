-- A record that loads is the one, of its form, that is made of its checks and its splits, and acceptance takes these checks with k = 0. Assumes nothing.
use mathlib.Core.Path.{◌≡◌, refl, sym, ap, ◌∙◌}
use mathlib.Core.Bool.{true, false, and-eq-true_iff, true≢false}
use mathlib.Core.List.{List, [], ◌∷◌, ◌++◌}
use Prim.Native.Nat.{ℕ, suc, ◌+◌, ◌*◌, ◌/◌, ◌%◌, ◌^◌}
use native.Mathlib.Nat.{add-zero}
use native.Mathlib.Omega.{arith}
use lib.Dec.{eqb}
use lib.ListN.{get_or, length}
use borrow.Author.Tests.{eqb-true}
use Rattle.parity.specs.Matrix.{Matrix, in_range}
use Rattle.parity.specs.Splits.{Pair, split_all, split_right, splits_right}
use Rattle.parity.specs.Record.{kind_of, payload, head_kind, form_of, head_word, carries, pair_in, split_word, end_word, Checked, stopped, checked, reading, loaded, ending, performing, behind, loading, splitting, split_words, record_of}
use Rattle.parity.specs.declared.Form.{Form}
use Rattle.parity.specs.Sound.{Sound}
use Rattle.parity.proofs.Finite.Sums.{is_true, is_false, is}
use Rattle.parity.proofs.Matrix.Accept.{ranges}
use Rattle.parity.proofs.Record.Reading.{splits, ends, never}
use Rattle.parity.proofs.Record.Writing.{split_after}
use Rattle.parity.proofs.Record.ChecksBack.{word_is, rest_back, checks_sound}

-- The splits and the end word of a record that loads, from the checks g on; `ws` are all words behind these.
pub record Carried (f : Form) (g : Matrix) (n m : ℕ) (ws : List ℕ) (n' m' k' : ℕ) (h : Matrix) : Type 0 where
  pub pairs : List Pair
  pub right : splits_right g n m pairs ≡ true
  pub same_n : n' ≡ n
  pub same_m : m' ≡ m
  pub same_k : k' ≡ length pairs
  pub matrix : h ≡ split_all g n m pairs
  pub words : ws ≡ split_words pairs ++ ((15 * 2 ^ 28) ∷ [])
  pub form : carries f ≡ false → k' ≡ 0

splitting_is : (w : ℕ) → kind_of w ≡ 6 → w ≡ splitting (pair_in w)
unfolding splitting pair_in
splitting_is w e = let t : w ≡ 6 * 2 ^ 28 + payload w = word_is w 6 (payload w) e refl in omega arith

module _ (f : Form) (g : Matrix) (n m : ℕ) (n' m' k' : ℕ) (h : Matrix) where
  nothing_after : (p k : ℕ) (ws : List ℕ) (g' : Matrix) → ending n m k ws p g' ≡ loaded n' m' k' h → (ws ≡ []) × (loaded n m k g' ≡ loaded n' m' k' h)
  unfolding ending
  nothing_after p k [] g' e = (refl, e)
  nothing_after p k (w ∷ ws) g' e = absurd (never p n' m' k' h e)

  first_end : (w : ℕ) (ws : List ℕ) (p k : ℕ) (g' : Matrix) → split_word f g' n m k w ≡ false → performing f n m (w ∷ ws) p k g' ≡ loaded n' m' k' h
      → (w ≡ 15 * 2 ^ 28) × (ws ≡ []) × (n' ≡ n) × (m' ≡ m) × (k' ≡ k) × (h ≡ g')
  unfolding performing
  first_end w ws p k g' o e =
      elim (is (end_word w)) [
        | is_false t ↦ absurd (never p n' m' k' h (rw (o, t) at e))
        | is_true t ↦
            let (a, b) = ends w t in
            let (d, r) = nothing_after (suc p) k ws g' (rw (o, t) at e) in
            (word_is w 15 0 a b ∙ add-zero (15 * 2 ^ 28), d, (cc), (cc), (cc), (cc))
      ]

  first_split : (w : ℕ) (ws : List ℕ) (p : ℕ) (ps : List Pair) → split_word f (split_all g n m ps) n m (length ps) w ≡ true
      → performing f n m (w ∷ ws) p (length ps) (split_all g n m ps) ≡ loaded n' m' k' h
      → performing f n m ws (suc p) (length (pair_in w ∷ ps)) (split_all g n m (pair_in w ∷ ps)) ≡ loaded n' m' k' h
  unfolding performing split_all
  first_split w ws p ps o e = rw o at e

  right_more : (q : Pair) (ps : List Pair) → splits_right g n m ps ≡ true → split_right (split_all g n m ps) n m (length ps) q ≡ true → splits_right g n m (q ∷ ps) ≡ true
  unfolding splits_right
  right_more q ps a b = rw (a, b)

  none_left : (p k : ℕ) (g' : Matrix) → performing f n m [] p k g' ≡ loaded n' m' k' h → ⊥
  unfolding performing
  none_left p k g' e = never p n' m' k' h e

  -- with the splits ps read
  splits_back : (ws : List ℕ) (p : ℕ) (ps : List Pair) → splits_right g n m ps ≡ true → (carries f ≡ false → length ps ≡ 0)
      → performing f n m ws p (length ps) (split_all g n m ps) ≡ loaded n' m' k' h → Carried f g n m (split_words ps ++ ws) n' m' k' h
  splits_back [] p ps r z e = absurd (none_left p (length ps) (split_all g n m ps) e)
  splits_back (w ∷ ws) p ps r z e =
      elim (is (split_word f (split_all g n m ps) n m (length ps) w)) [
        | is_false o ↦
            let (a, b, c, d, q, t) = first_end w ws p (length ps) (split_all g n m ps) o e in
            record { pairs = ps; right = r; same_n = c; same_m = d; same_k = q; matrix = t; words = rw (a, b); form = λ x. q ∙ z x }
        | is_true o ↦
            let (a, b, c) = splits f (split_all g n m ps) n m (length ps) w o in
            let C = splits_back ws (suc p) (pair_in w ∷ ps) (right_more (pair_in w) ps r c) (λ q. absurd (true≢false (sym a ∙ q))) (first_split w ws p ps o e) in
            let v : split_words (pair_in w ∷ ps) ++ ws ≡ split_words ps ++ (w ∷ ws) = one_more ps w ws b in
            rw v at C
      ]
    where
      one_more : (ps : List Pair) (w : ℕ) (ws : List ℕ) → kind_of w ≡ 6 → split_words (pair_in w ∷ ps) ++ ws ≡ split_words ps ++ (w ∷ ws)
      one_more ps w ws b = split_after (pair_in w) ps ws ∙ ap (λ (x : ℕ). split_words ps ++ (x ∷ ws)) (sym (splitting_is w b))

  carried : (ws : List ℕ) (p : ℕ) → performing f n m ws p 0 g ≡ loaded n' m' k' h → Carried f g n m ws n' m' k' h
  unfolding split_words splits_right split_all
  carried ws p e = splits_back ws p [] refl (λ q. refl) e

head_is : (w j : ℕ) → kind_of w ≡ j → w ≡ j * 2 ^ 28 + payload w / 256 * 256 + payload w % 256
head_is w j e = let f : w ≡ j * 2 ^ 28 + payload w = word_is w j (payload w) e refl in omega arith

-- A record that loads: its checks, which acceptance takes with k = 0, and its splits, none of which is refused.
pub record Sourced (source : List ℕ) (n m k : ℕ) (h : Matrix) : Type 0 where
  pub checks : Matrix
  pub pairs : List Pair
  pub words : record_of (form_of (get_or source 0 0)) checks n m pairs ≡ source
  pub sound : Sound checks n m 0
  pub right : splits_right checks n m pairs ≡ true
  pub size : k ≡ length pairs
  pub matrix : h ≡ split_all checks n m pairs
  pub plain : carries (form_of (get_or source 0 0)) ≡ false → k ≡ 0

rest_sourced : (w : ℕ) (ws : List ℕ) (n m k : ℕ) (h : Matrix) → head_word (form_of w) w ≡ true
    → (r : Checked) → reading (form_of w) (payload w % 256) (payload w / 256) ws 1 0 0 0 (λ d a. false) ≡ r
    → behind (form_of w) (payload w % 256) (payload w / 256) r ≡ loaded n m k h → Sourced (w ∷ ws) n m k h
unfolding head_word record_of behind
rest_sourced w ws n m k h o (stopped p) e r = absurd (never p n m k h r)
rest_sourced w ws n m k h o (checked rest p g) e r =
    let f = form_of w in
    let N = payload w % 256 in
    let M = payload w / 256 in
    let (a, b) = (and-eq-true_iff (eqb (kind_of w) (head_kind f)) (in_range N M 0)).0 o in
    let (x, y, z, t) = (ranges N M 0).0 b in
    let R = rest_back f N M ws rest p g y e in
    let C = carried f g N M n m k h rest p r in
    rw (C.same_n, C.same_m) record {
      checks = g;
      pairs = C.pairs;
      words = rw (← head_is w (head_kind f) (eqb-true (kind_of w) (head_kind f) a), ← C.words, ← R.words);
      sound = checks_sound f N M ws rest p g x y z e;
      right = C.right;
      size = C.same_k;
      matrix = C.matrix;
      plain = C.form;
    }

pub loading_back : (source : List ℕ) (n m k : ℕ) (h : Matrix) → loading source ≡ loaded n m k h → Sourced source n m k h
unfolding loading
loading_back [] n m k h e = absurd (never 0 n m k h e)
loading_back (w ∷ ws) n m k h e =
    elim (is (head_word (form_of w) w)) [
      | is_false o ↦ absurd (never 0 n m k h (rw o at e))
      | is_true o ↦ rest_sourced w ws n m k h o _ refl (rw o at e)
    ]
