-- After every list of calls the matrix is built by the splits that were not taken back, and the carried sum is theirs. Assumes nothing.
use mathlib.Core.Path.{◌≡◌, refl, sym, ap, ◌∙◌}
use mathlib.Core.Logic.{◌↔◌}
use mathlib.Core.Bool.{true, false, false≢true}
use mathlib.Core.List.{List, [], ◌∷◌}
use Prim.Native.Nat.{ℕ, suc, ◌+◌, ◌-◌, ◌≤◌}
use native.Mathlib.Nat.{add-zero}
use native.Mathlib.Omega.{arith}
use native.Mathlib.Decide.{ℕ_discrete, dec_lt}
use lib.ListN.{get_or}
use borrow.Author.Tests.{ne_eqb}
use Rattle.parity.specs.Matrix.{Matrix, lent, pack, cause}
use Rattle.parity.specs.Cycles.{share, cycles, taken_back, others, Orthogonalised}
use Rattle.parity.specs.Causes.{Reply, answer, refusal, Outcome}
use Rattle.parity.specs.Calls.{not_pair, split_reply, split_outcome, take_back_outcome, orthogonalised_reply, orthogonalising}
use Rattle.parity.specs.Demand3.{Call, splits, orthogonalises, takes_back, Last, orthogonalise_said, Stand, made_sum, made_k, orthogonalise_adds, orthogonalise_k, next, runs, start}
use Rattle.parity.specs.CyclesPromises.{SplitTakenBack}
use Rattle.parity.proofs.Finite.Sums.{is_true, is_false, is}
use Rattle.parity.proofs.Matrix.Accept.{Accepted, accepts, pack_same, pack_accepted, accepting_refuses}
use Rattle.parity.proofs.Splits.Orthogonal.{finished_cycles}
use Rattle.parity.proofs.Splits.Splitting.{is_pair, split_made, split_no_pair, split_low_share, split_no_room, back_made, back_none, orthogonalises as orthogonalise-made, orthogonal_ends}
use Rattle.parity.proofs.Splits.MadeSplit.{made_taken_back}
use Rattle.parity.proofs.Lists.Built.{Built, given as built-given, more, good, built_orthogonal, Undone, undone}

-- what a split comes to: a refusal that leaves the words, or a split that is made
pub data SplitCase (ws : List ℕ) (n m k u v : ℕ) : Type 0 where
  refused : (c : ℕ) (vs : List ℕ) → split_outcome ws n m k u v ≡ record { reply = refusal (suc c) vs; after = ws } → SplitCase ws n m k u v
  made : not_pair (n + k) u v ≡ false → 2 ≤ share (lent 8 ws) (m + k) u v → (k ≡ 392 → ⊥) → SplitCase ws n m k u v

pub split_case : (ws : List ℕ) (n m k u v : ℕ) → Accepted ws n m k → SplitCase ws n m k u v
split_case ws n m k u v A =
    elim (is (not_pair (n + k) u v)) [
      | is_true p ↦ refused 6 [] (split_no_pair ws n m k A u v p)
      | is_false p ↦ elim (dec_lt (share (lent 8 ws) (m + k) u v) 2) [
        | yes l ↦ refused 7 (share (lent 8 ws) (m + k) u v ∷ []) (split_low_share ws n m k A u v p l)
        | no l ↦ elim (ℕ_discrete k 392) [
          | yes q ↦ refused 8 [] (split_no_room ws n m k A u v p (omega arith) q)
          | no q ↦ made p (omega arith) q
        ]
      ]
    ]

-- a split that answers was accepted
pub answered : (ws : List ℕ) (n m k u v s k' : ℕ) (held : List ℕ) → (split_outcome ws n m k u v).reply ≡ answer (s ∷ k' ∷ held) → cause ws n m k ≡ 0
unfolding split_outcome split_reply
answered ws n m k u v s k' held e =
    elim (ℕ_discrete (cause ws n m k) 0) [
      | yes q ↦ q
      | no d ↦ ap (λ (r : Reply). r.number) (sym (accepting_refuses ws n m k _ d) ∙ e)
    ]

-- A split that is made, followed by taking back, gives the same words and k, and the same s.
pub split_taken_back : SplitTakenBack
split_taken_back ws n m k u v s k' held e =
    let A = (accepts ws n m k).0 (answered ws n m k u v s k' held e) in
    elim (split_case ws n m k u v A) [
      | refused i vs f ↦ absurd (omega (arith, ap (λ (r : Reply). r.number) (sym (ap (λ (o : Outcome). o.reply) f) ∙ e)))
      | made p t l ↦
          let f = split_made ws n m k A u v p t l in
          let r = sym (ap (λ (o : Outcome). o.reply) f) ∙ e in
          let x : share (lent 8 ws) (m + k) u v ≡ s = ap (λ (r : Reply). get_or r.values 0 0) r in
          let y : suc k ≡ k' = ap (λ (r : Reply). get_or r.values 1 0) r in
          rw (f, ← y, ← x) (made_taken_back ws n m k A u v p t l)
    ]

-- What holds of what stands after a list.
pub record Stands (given : List ℕ) (n m : ℕ) (s : Stand) : Type 0 where
  pub accepted : Accepted s.words n m s.k
  pub built : Built (lent 8 given) n m (lent 8 s.words) s.k s.carried
  pub finishes : (r : Reply) → s.last ≡ orthogonalise_said r
      → (r.number ≡ 0) ↔ (cycles (lent 8 s.words) (n + s.k) (m + s.k) ≡ 0)

pub other_last : ◌≡◌ {A = ℕ} 0 1 → ⊥
other_last e = omega arith

-- what an orthogonalise answers, finished or refused 9
pub reply_k : (o : Orthogonalised) (k : ℕ) → orthogonalise_k k (orthogonalised_reply o) ≡ o.k
unfolding orthogonalise_k orthogonalised_reply
reply_k o k = elim (is o.finished) [ is_true e ↦ rw e | is_false e ↦ rw e ]

reply_sum : (o : Orthogonalised) → orthogonalise_adds (orthogonalised_reply o) ≡ o.sum
unfolding orthogonalise_adds orthogonalised_reply
reply_sum o = elim (is o.finished) [ is_true e ↦ rw e | is_false e ↦ rw e ]

reply_finished : (o : Orthogonalised) → ((orthogonalised_reply o).number ≡ 0) ↔ (o.finished ≡ true)
unfolding orthogonalised_reply
reply_finished o =
    elim (is o.finished) [
      | is_true e ↦ rw e (λ q. refl, λ q. refl)
      | is_false e ↦ rw e (λ q. absurd (omega arith), λ q. absurd (false≢true q))
    ]

module _ (given : List ℕ) (n m : ℕ) (A₀ : Accepted given n m 0) where
  abbrev g : Matrix
  g = lent 8 given

  -- a built matrix that a call leaves in the words
  pub placed : (h : Matrix) (k total : ℕ) (l : Last) → Built g n m h k total → ((r : Reply) → l ≡ orthogonalise_said r → (r.number ≡ 0) ↔ (cycles h (n + k) (m + k) ≡ 0))
      → Stands given n m record { words = pack 8 h; k = k; carried = total; last = l }
  placed h k total l B f =
      let S = (good g n m A₀.sound B).ok in
      record { accepted = pack_accepted h n m k S; built = rw (pack_same h n m k S) B; finishes = rw (pack_same h n m k S) f }

  pub stands_start : Stands given n m (start given)
  stands_start = record { accepted = A₀; built = built-given; finishes = λ r e. absurd (other_last cc) }

  -- the carried sum, written otherwise
  same_sum : {h : Matrix} {k a b : ℕ} → a ≡ b → Built g n m h k a → Built g n m h k b
  same_sum e B = rw e at B

  stands_split : (s : Stand) (u v : ℕ) → Stands given n m s → Stands given n m (next n m s (splits u v))
  unfolding next made_k made_sum
  stands_split s u v S =
      elim (split_case s.words n m s.k u v S.accepted) [
        | refused c vs e ↦ rw (e, ne_eqb (suc c) 0 (λ q. omega arith))
            record { accepted = S.accepted; built = same_sum (omega arith) S.built; finishes = λ r q. absurd (other_last cc) }
        | made p t l ↦
            let (un, vn, uv) = is_pair (n + s.k) u v p in
            rw (split_made s.words n m s.k S.accepted u v p t l)
            (placed _ _ _ _ (more S.built u v un vn uv t (omega (arith, S.accepted.sound.k392))) (λ r q. absurd (other_last cc)))
      ]

  -- Taking back undoes the last split, and is refused only at k = 0.
  module _ (s : Stand) (S : Stands given n m s) where
    undo : (s.k ≡ 0 → ⊥) → Undone g n m (lent 8 s.words) s.k s.carried
    undo d = undone g n m A₀.sound S.built (omega arith)

    back_now : (d : s.k ≡ 0 → ⊥) → take_back_outcome s.words n m s.k ≡ record {
      reply = answer (others (lent 8 s.words) (n + (s.k - 1)) (m + (s.k - 1)) ∷ (s.k - 1) ∷ []);
      after = pack 8 (taken_back (lent 8 s.words) (n + (s.k - 1)) (m + (s.k - 1)));
    }
    back_now d = back_made s.words n m s.k S.accepted d (good g n m A₀.sound (undo d).built).ok.rule

    pub none_back : s.k ≡ 0 → (take_back_outcome s.words n m s.k).reply ≡ refusal 15 []
    none_back z = rw (back_none s.words n m s.k S.accepted z)

    pub back_answers : (s.k ≡ 0 → ⊥) → (take_back_outcome s.words n m s.k).reply.number ≡ 0
    back_answers d = rw (back_now d)

    stands_back : Stands given n m (next n m s takes_back)
    unfolding next made_k made_sum
    stands_back =
        elim (ℕ_discrete s.k 0) [
          | yes z ↦ rw (back_none s.words n m s.k S.accepted z)
              record { accepted = S.accepted; built = same_sum (omega arith) S.built; finishes = λ r q. absurd (other_last cc) }
          | no d ↦ rw (back_now d) (placed _ _ _ _ (undo d).built (λ r q. absurd (other_last cc)))
        ]

    -- what it takes off is in the carried sum
    pub back_enough : made_sum (take_back_outcome s.words n m s.k).reply ≤ s.carried
    unfolding made_sum
    back_enough =
        elim (ℕ_discrete s.k 0) [
          | yes z ↦ rw (back_none s.words n m s.k S.accepted z) (omega arith)
          | no d ↦ rw (back_now d) (undo d).enough
        ]

  stands_orthogonalise : (s : Stand) → Stands given n m s → Stands given n m (next n m s orthogonalises)
  unfolding next
  stands_orthogonalise s S =
      let o = orthogonalising s.words n m s.k in
      let E = finished_cycles n m o (orthogonal_ends s.words n m s.k S.accepted) in
      let F = reply_finished o in
      rw (orthogonalise-made s.words n m s.k S.accepted, reply_k o s.k, reply_sum o) (placed _ _ _ _
      (built_orthogonal g n m A₀.sound s.carried _ (lent 8 s.words) s.k 0 0 [] (rw (add-zero s.carried) S.built))
      (λ r q. let e : orthogonalised_reply o ≡ r = said (orthogonalised_reply o) r q in rw (← e) (λ t. E.0 (F.0 t), λ t. F.1 (E.1 t))))
    where
      said : (x y : Reply) → orthogonalise_said x ≡ orthogonalise_said y → x ≡ y
      said x y q = cc

  pub stands_runs : (cs : List Call) (s : Stand) → Stands given n m s → Stands given n m (runs n m s cs)
  unfolding runs
  stands_runs [] s S = S
  stands_runs (splits u v ∷ cs) s S = stands_runs cs (next n m s (splits u v)) (stands_split s u v S)
  stands_runs (orthogonalises ∷ cs) s S = stands_runs cs (next n m s orthogonalises) (stands_orthogonalise s S)
  stands_runs (takes_back ∷ cs) s S = stands_runs cs (next n m s takes_back) (stands_back s S)
