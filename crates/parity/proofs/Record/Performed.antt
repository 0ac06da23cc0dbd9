-- Loading a record performs its splits: what is made of checks and of splits that none refuses loads to the matrix after them (M-107). Assumes nothing.
use mathlib.Core.Path.{◌≡◌, refl, ◌∙◌}
use mathlib.Core.Bool.{true, and-eq-true_iff}
use mathlib.Core.List.{List, [], ◌∷◌, ◌++◌}
use Prim.Native.Nat.{ℕ, suc, ◌+◌, ◌*◌, ◌/◌, ◌%◌, ◌^◌, ◌≤◌, ◌<◌}
use native.Mathlib.Nat.{add-zero, add-suc}
use native.Mathlib.Omega.{arith}
use lib.ListN.{length}
use Rattle.parity.specs.Matrix.{Matrix}
use Rattle.parity.specs.Cycles.{split_of}
use Rattle.parity.specs.Splits.{Pair, split_all, split_right, splits_right}
use Rattle.parity.specs.Record.{kind_of, pair_in, loaded, ending, performing, behind, loading, splitting, split_words, record_of}
use Rattle.parity.specs.declared.Form.{Form}
use Rattle.parity.specs.declared.Form.TheVariants.{Third}
use Rattle.parity.specs.Sound.{Sound}
use Rattle.parity.proofs.Record.Reading.{word_kind, word_payload, split_yes, split_kind, end_yes}
use Rattle.parity.proofs.Record.Writing.{split_after}
use Rattle.parity.proofs.Record.ReadWritten.{head_made, read_checks}
use Rattle.parity.proofs.Lists.Rebuilt.{right}

-- a kind 6 word
module _ (p : Pair) (a : p.lower < 512) (b : p.higher < 512) where
  pub splitting_kind : kind_of (splitting p) ≡ 6
  unfolding splitting
  splitting_kind = word_kind 6 (p.higher * 512 + p.lower) (omega arith)

  splitting_read : pair_in (splitting p) ≡ p
  unfolding pair_in splitting
  splitting_read =
      let x : (p.higher * 512 + p.lower) % 512 ≡ p.lower = omega arith in
      let y : (p.higher * 512 + p.lower) / 512 ≡ p.higher = omega arith in
      rw (word_payload 6 (p.higher * 512 + p.lower) (omega arith), x, y)

module _ (g : Matrix) (n m : ℕ) (few : n ≤ 120) where
  pub pair_small : (h : Matrix) (k : ℕ) (q : Pair) → split_right h n m k q ≡ true → (q.lower < 512) × (q.higher < 512)
  pair_small h k q e = let r = (right h n m k q).0 e in (omega (arith, r.low, r.high, r.room), omega (arith, r.high, r.room))

  perform_split : (h : Matrix) (k p : ℕ) (q : Pair) (rest : List ℕ) → split_right h n m k q ≡ true
      → performing Third n m (splitting q ∷ rest) p k h ≡ performing Third n m rest (suc p) (suc k) (split_of h (n + k) (m + k) q.lower q.higher)
  unfolding performing
  perform_split h k p q rest e =
      let (a, b) = pair_small h k q e in
      let s = splitting_read q a b in
      rw (split_yes Third h n m k (splitting q) refl (splitting_kind q a b) (rw s e), s)

  -- reading the words of a list of splits
  perform_splits : (ps : List Pair) → splits_right g n m ps ≡ true → (rest : List ℕ) (p : ℕ)
      → performing Third n m (split_words ps ++ rest) p 0 g ≡ performing Third n m rest (p + length ps) (length ps) (split_all g n m ps)
  unfolding splits_right split_all
  perform_splits [] e rest p = unfold split_words in rw (add-zero p)
  perform_splits (q ∷ ps) e rest p =
      let (a, b) = (and-eq-true_iff (splits_right g n m ps) (split_right (split_all g n m ps) n m (length ps) q)).0 e in
      rw (split_after q ps rest, add-suc p (length ps))
      (perform_splits ps a (splitting q ∷ rest) p ∙ perform_split (split_all g n m ps) (length ps) (p + length ps) q rest b)

perform_end : (f : Form) (n m p k : ℕ) (h : Matrix) → performing f n m ((15 * 2 ^ 28) ∷ []) p k h ≡ loaded n m k h
unfolding performing ending
perform_end f n m p k h =
    let e : kind_of (15 * 2 ^ 28) ≡ 15 = rw (add-zero (15 * 2 ^ 28)) at (word_kind 15 0 (omega arith)) in
    let d = rw (add-zero (15 * 2 ^ 28)) at (word_payload 15 0 (omega arith)) in
    rw (split_kind f h n m k (15 * 2 ^ 28) (λ q. omega arith), end_yes (15 * 2 ^ 28) e d)

-- the record behind its first word
loading_made : (f : Form) (h : Matrix) (n m : ℕ) → Sound h n m 0 → (ps : List Pair)
    → (p : ℕ) × (loading (record_of f h n m ps) ≡ performing f n m (split_words ps ++ ((15 * 2 ^ 28) ∷ [])) p 0 h)
unfolding loading record_of behind
loading_made f h n m S ps =
    let (g, o, p, q) = head_made f n m S.n1 S.n120 S.m120 in
    let R = read_checks f h n m S (split_words ps ++ ((15 * 2 ^ 28) ∷ [])) in
    (R.place, rw (g, o, p, q, R.reads))

-- A record of any form without splits loads to the matrix that it was made of,
pub loading_plain : (f : Form) (h : Matrix) (n m : ℕ) → Sound h n m 0 → loading (record_of f h n m []) ≡ loaded n m 0 h
loading_plain f h n m S = let (p, e) = loading_made f h n m S [] in e ∙ unfold split_words in perform_end f n m p 0 h

-- and one of the third form to the matrix after the splits.
pub loading_splits : (h : Matrix) (n m : ℕ) → Sound h n m 0 → (ps : List Pair) → splits_right h n m ps ≡ true
    → loading (record_of Third h n m ps) ≡ loaded n m (length ps) (split_all h n m ps)
loading_splits h n m S ps r =
    let (p, e) = loading_made Third h n m S ps in
    e ∙ perform_splits h n m S.n120 ps r ((15 * 2 ^ 28) ∷ []) p ∙ perform_end Third n m (p + length ps) (length ps) (split_all h n m ps)
