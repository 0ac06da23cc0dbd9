-- What counting and the calls that split or take back answer and leave: the splits made and taken back, and the causes that refuse. Assumes nothing.
use mathlib.Core.Path.{◌≡◌, refl, sym, ap, ◌∙◌}
use mathlib.Core.Bool.{true, false, not, ◌&&◌, and-eq-true_iff}
use mathlib.Core.List.{List, [], ◌∷◌}
use Prim.Native.Nat.{ℕ, suc, ◌+◌, ◌-◌, ◌≤◌, ◌<◌, ◌^◌}
use native.Mathlib.Omega.{arith}
use lib.Dec.{eqb, ltb, lit<}
use lib.ListN.{get_or, length}
use borrow.Author.Tests.{eq-eqb, ne_eqb, eqb-false, le-ltb, ltb-true, not-false, lt-ltb}
use Rattle.parity.specs.Matrix.{Matrix, lent, pack, rule_a, cause}
use Rattle.parity.specs.Cycles.{share, held_by, cycles, split_of, taken_back, others, Orthogonalised}
use Rattle.parity.specs.Causes.{Reply, answer, refusal, refusal_of}
use Rattle.parity.specs.Calls.{not_pair, count_reply, split_reply, split_outcome, take_back_reply, take_back_outcome, orthogonalised_reply, orthogonalise_outcome, accept_reply, orthogonalising}
use Rattle.parity.proofs.Finite.Bools.{or_false_both}
use Rattle.parity.proofs.Matrix.Packing.{pack_lent}
use Rattle.parity.proofs.Matrix.Sound.{split_sound}
use Rattle.parity.proofs.Matrix.Accept.{Accepted, accepts, pack_same, pack_accepted, accepting_answers, passes, accepting_refuses}
use Rattle.parity.proofs.Splits.Orthogonal.{orthogonal_sound, Ends, ends}
use Rattle.parity.specs.declared.Refusal.{Refusal}
use Rattle.parity.specs.Sound.{Sound}
use Rattle.parity.proofs.Causes.Refused.{refused_same}

-- machine words that hold a matrix are those that pack it
pub packed : (ws : List ℕ) (h : Matrix) → length ws ≡ 4096 → ((i : ℕ) → get_or ws i 0 < 2 ^ 64) → lent 8 ws ≡ h → ws ≡ pack 8 h
packed ws h l a e = sym (pack_lent 8 (lit< tt) ws l a) ∙ ap (pack 8) e

-- a pair that cause 7 does not refuse
pub is_pair : (N u v : ℕ) → not_pair N u v ≡ false → (u < N) × (v < N) × (u ≡ v → ⊥)
unfolding not_pair
is_pair N u v e =
    let (a, b) = or_false_both (eqb u v) (not (ltb u N && ltb v N)) e in
    let (c, d) = (and-eq-true_iff (ltb u N) (ltb v N)).0 (not-false (ltb u N && ltb v N) b) in
    (ltb-true u N c, ltb-true v N d, eqb-false u v a)

module _ (ws : List ℕ) (n m k : ℕ) (A : Accepted ws n m k) where
  abbrev h : Matrix
  h = lent 8 ws

  abbrev N : ℕ
  N = n + k

  abbrev M : ℕ
  M = m + k

  pub counts : count_reply ws n m k ≡ answer (cycles h N M ∷ [])
  unfolding count_reply
  counts = passes ws n m k A _

  -- A split that is made: its answer, and its words, which are accepted and hold the split matrix.
  module _ (u v : ℕ) (p : not_pair N u v ≡ false) (s : 2 ≤ share h M u v) (l : k ≡ 392 → ⊥) where
    pub split_made : split_outcome ws n m k u v ≡ record { reply = answer (share h M u v ∷ suc k ∷ held_by h M u v); after = pack 8 (split_of h N M u v) }
    unfolding split_outcome split_reply
    split_made = rw (passes ws n m k A, p, le-ltb (share h M u v) 2 s, ne_eqb k 392 l) refl

    split_keeps : Sound (split_of h N M u v) n m (suc k)
    split_keeps =
        let (un, vn, uv) = is_pair N u v p in
        split_sound h n m k u v A.sound un vn uv s (omega (arith, A.sound.k392))

    pub split_accepted : Accepted (pack 8 (split_of h N M u v)) n m (suc k)
    split_accepted = pack_accepted (split_of h N M u v) n m (suc k) split_keeps

    pub split_lent : lent 8 (pack 8 (split_of h N M u v)) ≡ split_of h N M u v
    split_lent = pack_same (split_of h N M u v) n m (suc k) split_keeps

  -- A taking back that is made: its answer, and its words.
  abbrev t : Matrix
  t = taken_back h (n + (k - 1)) (m + (k - 1))

  pub back_made : (k ≡ 0 → ⊥) → rule_a t n m (k - 1) ≡ true
      → take_back_outcome ws n m k ≡ record { reply = answer (others h (n + (k - 1)) (m + (k - 1)) ∷ (k - 1) ∷ []); after = pack 8 t }
  unfolding take_back_outcome take_back_reply
  back_made d r = rw (passes ws n m k A, ne_eqb k 0 d, r)

  -- Causes 15 and 16 leave the words.
  pub back_none : k ≡ 0 → take_back_outcome ws n m k ≡ record { reply = refusal 15 []; after = ws }
  unfolding take_back_outcome take_back_reply
  back_none e = rw (passes ws n m k A, eq-eqb k 0 e)

  pub back_broken : (k ≡ 0 → ⊥) → rule_a t n m (k - 1) ≡ false → take_back_outcome ws n m k ≡ record { reply = refusal 16 []; after = ws }
  unfolding take_back_outcome take_back_reply
  back_broken d e = rw (passes ws n m k A, ne_eqb k 0 d, e)

  -- Orthogonalising: its reply, and its words, which are accepted and hold the matrix that it came to.
  abbrev o : Orthogonalised
  o = orthogonalising ws n m k

  pub orthogonalises : orthogonalise_outcome ws n m k ≡ record { reply = orthogonalised_reply o; after = pack 8 o.matrix }
  unfolding orthogonalise_outcome
  orthogonalises = rw (passes ws n m k A, (accepts ws n m k).1 A)

  orthogonal_keeps : Sound o.matrix n m o.k
  orthogonal_keeps = orthogonal_sound n m _ h k 0 0 [] A.sound

  pub orthogonal_accepted : Accepted (pack 8 o.matrix) n m o.k
  orthogonal_accepted = pack_accepted o.matrix n m o.k orthogonal_keeps

  pub orthogonal_lent : lent 8 (pack 8 o.matrix) ≡ o.matrix
  orthogonal_lent = pack_same o.matrix n m o.k orthogonal_keeps

  pub orthogonal_ends : Ends n m o
  orthogonal_ends = ends n m _ h k 0 0 [] A.sound.k392 (omega (arith, A.sound.k392))

module _ (ws : List ℕ) (n m k : ℕ) where
  -- Causes 1 to 4 leave the words.
  module _ (r : Refusal) (e : refusal_of r ≡ accept_reply ws n m k) where
    refused_cause : cause ws n m k ≡ 0 → ⊥
    refused_cause q =
        let a = refused_same ws n m k r (answer []) e ∙ accepting_answers ws n m k (answer []) q in
        let b = refused_same ws n m k r (answer (0 ∷ [])) e ∙ accepting_answers ws n m k (answer (0 ∷ [])) q in
        let z : ◌≡◌ {A = ℕ} 0 1 = ap (λ (x : Reply). length x.values) (sym a ∙ b) in
        omega arith

    refused_reply : refusal (cause ws n m k) [] ≡ refusal_of r
    refused_reply = sym (refused_same ws n m k r (answer []) e ∙ accepting_refuses ws n m k (answer []) refused_cause)

    pub split_refused : (u v : ℕ) → split_outcome ws n m k u v ≡ record { reply = refusal_of r; after = ws }
    unfolding split_outcome split_reply
    split_refused u v = rw (accepting_refuses ws n m k _ refused_cause, ne_eqb (cause ws n m k) 0 refused_cause, ← refused_reply)

    pub back_refused : take_back_outcome ws n m k ≡ record { reply = refusal_of r; after = ws }
    unfolding take_back_outcome take_back_reply
    back_refused = rw (accepting_refuses ws n m k _ refused_cause, ne_eqb (cause ws n m k) 0 refused_cause, ← refused_reply)

    pub orthogonalise_refused : orthogonalise_outcome ws n m k ≡ record { reply = refusal_of r; after = ws }
    unfolding orthogonalise_outcome
    orthogonalise_refused = rw (accepting_refuses ws n m k _ refused_cause, ne_eqb (cause ws n m k) 0 refused_cause, ← refused_reply)

  -- So do causes 7, 8 and 9, for a split of an accepted matrix.
  module _ (A : Accepted ws n m k) (u v : ℕ) where
    pub split_no_pair : not_pair (n + k) u v ≡ true → split_outcome ws n m k u v ≡ record { reply = refusal 7 []; after = ws }
    unfolding split_outcome split_reply
    split_no_pair p = rw (passes ws n m k A, p)

    module _ (p : not_pair (n + k) u v ≡ false) where
      pub split_low_share : share (lent 8 ws) (m + k) u v < 2
          → split_outcome ws n m k u v ≡ record { reply = refusal 8 (share (lent 8 ws) (m + k) u v ∷ []); after = ws }
      unfolding split_outcome split_reply
      split_low_share l = rw (passes ws n m k A, p, lt-ltb (share (lent 8 ws) (m + k) u v) 2 l)

      pub split_no_room : 2 ≤ share (lent 8 ws) (m + k) u v → k ≡ 392 → split_outcome ws n m k u v ≡ record { reply = refusal 9 []; after = ws }
      unfolding split_outcome split_reply
      split_no_room l q = rw (passes ws n m k A, p, le-ltb (share (lent 8 ws) (m + k) u v) 2 l, eq-eqb k 392 q)
