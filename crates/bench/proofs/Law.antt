-- A case whose test is true holds: the test, turned into the calls' definitions. Assumes nothing.
use mathlib.Core.Path.{◌≡◌, ap, ◌∙◌}
use mathlib.Core.Bool.{true, false, not, ◌&&◌, and-eq-true_iff, false≢true}
use mathlib.Core.List.{List, [], ◌∷◌}
use Prim.Native.Nat.{ℕ, ◌+◌, ◌-◌}
use native.Mathlib.Omega.{arith}
use lib.Dec.{eqb, ltb}
use lib.ListN.{length}
use borrow.Author.Tests.{eqb-true, eq-eqb, not-true}
use Rattle.parity.specs.Finite.{one, list_from}
use Rattle.parity.specs.Matrix.{Matrix, lent, pack}
use Rattle.parity.specs.Cycles.{share, cycles, Orthogonalised, orthogonal}
use Rattle.parity.specs.Words.{is_one, steps, agrees, losses}
use Rattle.parity.specs.Record.{Loaded, faulty, loaded, loading}
use Rattle.parity.specs.Encoding.{rank_of, encoded}
use Rattle.parity.specs.Causes.{answer, refusal}
use Rattle.parity.specs.Calls.{byte_of, not_pair, wrong_byte, loaded_reply, load_outcome, split_reply, split_outcome, orthogonalised_reply}
use Rattle.parity.specs.Sound.{Sound}
use Rattle.parity.proofs.Splits.Orthogonal.{orthogonal_sound}
use Rattle.parity.proofs.Matrix.Accept.{Accepted, passes}
use Rattle.parity.proofs.Words.Bytes.{right_bytes, Word}
use Rattle.parity.proofs.Splits.Splitting.{counts, orthogonalises as all-orthogonalises}
use Rattle.parity.proofs.Words.Peeling.{peel_made, peel_refused}
use Rattle.parity.proofs.Encoding.Messages.{ranks, encodes_list}
use Rattle.parity.proofs.Words.Steps.{Ended, peel_steps}
use Rattle.bench.specs.Case.{listed, Lent, Case, words_of, counting, orthogonalising, splitting_no_pair, splitting_below_two, peeling, peeling_contradiction, ranking, encoding, loading_faulty, Holds, AllHold}
use Rattle.bench.specs.Test.{same_list, fits, agree, orthogonalises, is_word, peels_to, faulty_at, test, tests}
use Rattle.bench.proofs.Listed.{listed_sound, accepted, held, agreed, same_list_lem}

-- a word that passes the test of its length and bytes
is_word_lem : (N top : ℕ) (w : List ℕ) → is_word N top w ≡ true → Word N top w
unfolding is_word
is_word_lem N top w e =
    let (p, q) = (and-eq-true_iff (eqb (length w) N) (not (wrong_byte top w))).0 e in
    record {
      size = eqb-true (length w) N p;
      bytes = λ b l. (right_bytes top w).0 (not-true (wrong_byte top w) q) b (omega (arith, eqb-true (length w) N p));
    }

-- what orthogonalising came to, where its test is true
came_to : (o : Orthogonalised) (n m splits total k : ℕ) (named : List ℕ) (after : List (List ℕ)) → Sound o.matrix n m o.k
    → orthogonalises o n m splits total k named after ≡ true
    → (orthogonalised_reply o ≡ answer (splits ∷ total ∷ k ∷ named)) × (pack 8 o.matrix ≡ words_of after)
unfolding orthogonalised_reply orthogonalises words_of
came_to o n m splits total k named after S e =
    let (e₁, f) = (and-eq-true_iff (o.finished && eqb o.splits splits && eqb o.sum total && eqb o.k k && same_list o.held named && agree (n + k) (m + k) o.matrix (listed after)) _).0 e in
    let (e₅, g) = (and-eq-true_iff (o.finished && eqb o.splits splits && eqb o.sum total && eqb o.k k && same_list o.held named) _).0 e₁ in
    let (e₂, a) = (and-eq-true_iff (o.finished && eqb o.splits splits && eqb o.sum total && eqb o.k k) _).0 e₅ in
    let (e₃, p) = (and-eq-true_iff (o.finished && eqb o.splits splits && eqb o.sum total) _).0 e₂ in
    let (e₄, q) = (and-eq-true_iff (o.finished && eqb o.splits splits) _).0 e₃ in
    let (r, s) = (and-eq-true_iff o.finished _).0 e₄ in (
      rw (r, eqb-true o.splits splits s, eqb-true o.sum total q, eqb-true o.k k p, same_list_lem o.held named a),
      ap (pack 8) (agreed (n + k) (m + k) o.matrix (listed after) (rw (eqb-true o.k k p) at S.clean) (listed_sound n m k after f).clean g),
    )

module _ (g : Lent) (f : fits g.n g.m g.k g.checks ≡ true) where
  abbrev ws : List ℕ
  ws = words_of g.checks

  abbrev h : Matrix
  h = listed g.checks

  abbrev N : ℕ
  N = g.n + g.k

  abbrev M : ℕ
  M = g.m + g.k

  A : Accepted ws g.n g.m g.k
  A = accepted g.n g.m g.k g.checks f

  same : lent 8 ws ≡ h
  same = held g.n g.m g.k g.checks f

  law_counting : (c : ℕ) → eqb (cycles h N M) c ≡ true → Holds (counting g c)
  law_counting c e = counts ws g.n g.m g.k A ∙ rw (same, eqb-true (cycles h N M) c e)

  law_orthogonalising : (splits total k : ℕ) (named : List ℕ) (after : List (List ℕ))
      → orthogonalises (orthogonal (393 - g.k) h g.n g.m g.k 0 0 []) g.n g.m splits total k named after ≡ true
      → Holds (orthogonalising g splits total k named after)
  law_orthogonalising splits total k named after e =
      let S = orthogonal_sound g.n g.m (393 - g.k) h g.k 0 0 [] (listed_sound g.n g.m g.k g.checks f) in
      let (p, q) = came_to (orthogonal (393 - g.k) h g.n g.m g.k 0 0 []) g.n g.m splits total k named after S e in
      all-orthogonalises ws g.n g.m g.k A ∙ rw (same, p, q)

  law_no_pair : (u v : ℕ) → not_pair N u v ≡ true → Holds (splitting_no_pair g u v)
  unfolding split_outcome split_reply
  law_no_pair u v e = rw (passes ws g.n g.m g.k A, e)

  law_below_two : (u v s : ℕ) → not_pair N u v ≡ false → eqb (share h M u v) s ≡ true → ltb s 2 ≡ true → Holds (splitting_below_two g u v s)
  unfolding split_outcome split_reply
  law_below_two u v s e q l = rw (passes ws g.n g.m g.k A, e, same, eqb-true (share h M u v) s q, l)

  module _ (w : List ℕ) (i : is_word N 2 w ≡ true) where
    W : Word N 2 w
    W = is_word_lem N 2 w i

    abbrev end : ℕ → ℕ
    end = steps N h N M (byte_of w)

    E : Ended h N M (byte_of w) end
    E = peel_steps h N M (byte_of w) W.bytes

    law_peeling : (numbers after : List ℕ) → peels_to h g.n g.m g.k w numbers after ≡ true → Holds (peeling g w numbers after)
    unfolding peels_to
    law_peeling numbers after e =
        let (e₁, s) = (and-eq-true_iff (agrees h N M end && same_list (losses g.n g.k (byte_of w) end) numbers) (same_list (list_from 0 N end) after)).0 e in
        let (a, q) = (and-eq-true_iff (agrees h N M end) (same_list (losses g.n g.k (byte_of w) end) numbers)).0 e₁ in
        peel_made ws g.n g.m g.k A w W end (rw same E) (rw same a)
        ∙ rw (same_list_lem (losses g.n g.k (byte_of w) end) numbers q, same_list_lem (list_from 0 N end) after s)

    law_contradiction : agrees h N M end ≡ false → Holds (peeling_contradiction g w)
    law_contradiction e = peel_refused ws g.n g.m g.k A w W end (rw same E) (rw same e)

  law_ranking : (r : ℕ) → eqb g.k 0 ≡ true → eqb (rank_of h g.n g.m) r ≡ true → Holds (ranking g r)
  law_ranking r z e =
      let k : g.k ≡ 0 = eqb-true g.k 0 z in
      rw k (ranks ws g.n g.m (rw k at A) ∙ rw (same, eqb-true (rank_of h g.n g.m) r e))

  law_encoding : (message w : List ℕ) → eqb g.k 0 ≡ true → is_word (g.n - rank_of h g.n g.m) 1 message ≡ true
      → same_list (list_from 0 g.n (λ b. one (encoded h g.n g.m (is_one (byte_of message)) b))) w ≡ true
      → Holds (encoding g message w)
  law_encoding message w z i e held l =
      let k : g.k ≡ 0 = eqb-true g.k 0 z in
      rw k (encodes_list ws g.n g.m (rw k at A) message held (rw same (is_word_lem (g.n - rank_of h g.n g.m) 1 message i)) l
      ∙ rw (same, same_list_lem _ w e))

law_loading : (source : List ℕ) (place : ℕ) → faulty_at (loading source) place ≡ true → Holds (loading_faulty source place)
unfolding load_outcome
law_loading source place e ws l = rw (eq-eqb _ _ l, refused (loading source) e)
  where
    refused : (x : Loaded) → faulty_at x place ≡ true → loaded_reply x ≡ refusal 5 (place ∷ [])
    refused (faulty p) q = unfold loaded_reply faulty_at in (rw (eqb-true p place q))
    refused (loaded n m k h) q = absurd (false≢true (unfold faulty_at in q))

-- The law: what is tested holds.
pub law : (c : Case) → test c ≡ true → Holds c
unfolding test
law (counting g c) e = let (f, q) = (and-eq-true_iff (fits g.n g.m g.k g.checks) _).0 e in law_counting g f c q
law (orthogonalising g splits total k named after) e =
    let (f, q) = (and-eq-true_iff (fits g.n g.m g.k g.checks) _).0 e in law_orthogonalising g f splits total k named after q
law (splitting_no_pair g u v) e = let (f, q) = (and-eq-true_iff (fits g.n g.m g.k g.checks) _).0 e in law_no_pair g f u v q
law (splitting_below_two g u v s) e =
    let (d, l) = (and-eq-true_iff (fits g.n g.m g.k g.checks && not (not_pair (g.n + g.k) u v) && eqb (share (listed g.checks) (g.m + g.k) u v) s) (ltb s 2)).0 e in
    let (p, q) = (and-eq-true_iff (fits g.n g.m g.k g.checks && not (not_pair (g.n + g.k) u v)) _).0 d in
    let (f, r) = (and-eq-true_iff (fits g.n g.m g.k g.checks) _).0 p in
    law_below_two g f u v s (not-true _ r) q l
law (peeling g w numbers after) e =
    let (p, q) = (and-eq-true_iff (fits g.n g.m g.k g.checks && is_word (g.n + g.k) 2 w) _).0 e in
    let (f, i) = (and-eq-true_iff (fits g.n g.m g.k g.checks) _).0 p in
    law_peeling g f w i numbers after q
law (peeling_contradiction g w) e =
    let (p, q) = (and-eq-true_iff (fits g.n g.m g.k g.checks && is_word (g.n + g.k) 2 w) _).0 e in
    let (f, i) = (and-eq-true_iff (fits g.n g.m g.k g.checks) _).0 p in
    law_contradiction g f w i (not-true _ q)
law (ranking g r) e =
    let (p, q) = (and-eq-true_iff (fits g.n g.m g.k g.checks && eqb g.k 0) _).0 e in
    let (f, z) = (and-eq-true_iff (fits g.n g.m g.k g.checks) _).0 p in
    law_ranking g f r z q
law (encoding g message w) e =
    let (d, s) = (and-eq-true_iff (fits g.n g.m g.k g.checks && eqb g.k 0 && is_word (g.n - rank_of (listed g.checks) g.n g.m) 1 message) _).0 e in
    let (p, i) = (and-eq-true_iff (fits g.n g.m g.k g.checks && eqb g.k 0) _).0 d in
    let (f, z) = (and-eq-true_iff (fits g.n g.m g.k g.checks) _).0 p in
    law_encoding g f message w z i s
law (loading_faulty source place) e = law_loading source place e

pub all_hold : (cs : List Case) → tests cs ≡ true → AllHold cs
unfolding tests
all_hold [] e = tt
all_hold (c ∷ cs) e = let (p, q) = (and-eq-true_iff (test c) (tests cs)).0 e in (law c p, all_hold cs q)
