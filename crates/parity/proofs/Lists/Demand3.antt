-- Demand 3, for every given matrix and every list of calls. Assumes nothing.
use mathlib.Core.Path.{◌≡◌, refl, sym, ap, ◌∙◌}
use mathlib.Core.Logic.{◌⊎◌, inl}
use mathlib.Core.Bool.{Bool, true}
use mathlib.Core.List.{List, [], ◌∷◌, ◌++◌}
use Prim.Native.Nat.{ℕ, ◌+◌, ◌<◌}
use native.Mathlib.Nat.{add-zero, zero-add}
use native.Mathlib.Omega.{arith}
use native.Mathlib.Decide.{dec_lt}
use lib.ListN.{length, take, replicate, length-replicate}
use lib.Seq.{get_or-take, ext_get_or, length-take-le}
use borrow.Author.Tests.{eq-eqb, eqb-true}
use Rattle.parity.specs.Finite.{one, list_from}
use Rattle.parity.specs.Matrix.{Matrix, lent, cause}
use Rattle.parity.specs.Cycles.{cycles}
use Rattle.parity.specs.Words.{erased, is_one, extended, residue}
use Rattle.parity.specs.Causes.{Outcome}
use Rattle.parity.specs.Calls.{byte_of, extend_outcome, peel_outcome}
use Rattle.parity.specs.Demand3.{orthogonalises, Stand, runs, start, Verifies, erasing, Left, Recovered, Peelings, BeginsOne, Keeps, Demand3}
use Rattle.parity.proofs.Finite.Sums.{one≤1, byte_one, eqb_one}
use Rattle.parity.proofs.Finite.Lists.{length_list_from, at_list_from}
use Rattle.parity.proofs.Splits.Split.{Even}
use Rattle.parity.proofs.Matrix.Accept.{Accepted, accepts, other_k}
use Rattle.parity.proofs.Words.Extend.{inside_cong, extend_base, extend_added}
use Rattle.parity.proofs.Words.Residue.{residue_of, residue_at}
use Rattle.parity.proofs.Words.Bytes.{Codeword, take_word, take_even, longer_sent, longer_added, longer_size, erased_got, erased_size}
use Rattle.parity.proofs.Splits.Splitting.{counts}
use Rattle.parity.proofs.Words.Verifying.{verified, verifies, extends, completes}
use Rattle.parity.proofs.Words.Peeling.{Answered, left_is, erased_answered, recovers}
use Rattle.parity.proofs.Lists.Built.{Good, good}
use Rattle.parity.proofs.Lists.Rebuilt.{built_sum}
use Rattle.parity.proofs.Lists.Chain.{Stands, stands_start, none_back, back_answers, back_enough, stands_runs}

module _ (given : List ℕ) (n m : ℕ) (A₀ : Accepted given n m 0) (s : Stand) (S : Stands given n m s) where
  abbrev g : Matrix
  g = lent 8 given

  abbrev h : Matrix
  h = lent 8 s.words

  abbrev k : ℕ
  k = s.k

  abbrev N : ℕ
  N = n + k

  abbrev M : ℕ
  M = m + k

  A : Accepted s.words n m k
  A = S.accepted

  G : Good g n m h k s.carried
  G = good g n m A₀.sound S.built

  given_codeword : (x : List ℕ) → Verifies given n m 0 x → Codeword g n m x
  given_codeword x v = rw (add-zero n, add-zero m) at (verifies given n m 0 A₀ x v)

  codeword_given : (x : List ℕ) → Codeword g n m x → Verifies given n m 0 x
  codeword_given x C = verified given n m 0 A₀ x (rw (add-zero n, add-zero m) C)

  -- a codeword x of the given matrix
  module _ (x : List ℕ) (C : Codeword g n m x) where
    abbrev X : ℕ → Bool
    X = is_one (byte_of x)

    abbrev Y : ℕ → Bool
    Y = extended h n m k X

    extended_even : Even h N M Y
    extended_even =
        G.evens Y (λ c l. rw (inside_cong g n c (extend_base h n m X k)) (C.even c l)) (extend_added h n m k A.sound.rule X)

    abbrev y : List ℕ
    y = list_from 0 N (λ b. one (Y b))

    at_y : (b : ℕ) → b < N → byte_of y b ≡ one (Y b)
    at_y b l = at_list_from 0 N (λ b. one (Y b)) b l ∙ rw (zero-add b)

    extended_codeword : Codeword h N M y
    extended_codeword = record {
      word = record { size = length_list_from 0 N (λ b. one (Y b)); bytes = λ b l. rw (at_y b l) (one≤1 (Y b)) };
      even = λ c l. rw (inside_cong h N c {w = is_one (byte_of y)} {x = Y} (λ b q. rw (at_y b q) (eqb_one (Y b)))) (extended_even c l);
    }

    y_sent : (b : ℕ) → b < n → byte_of y b ≡ byte_of x b
    y_sent b l = at_y b (omega arith) ∙ rw (extend_base h n m X k b l) (byte_one (byte_of x b) (C.word.bytes b l))

    begins_x : take n y ≡ x
    begins_x =
        let t : length (take n y) ≡ n = length-take-le n y (omega (arith, length_list_from 0 N (λ b. one (Y b)))) in
        ext_get_or 0 (take n y) x (t ∙ sym C.word.size) (λ b l. get_or-take n y b 0 (omega arith) ∙ y_sent b (omega arith))

    y_verified : Verifies s.words n m k y
    y_verified = verified s.words n m k A y extended_codeword

    module _ (e : ℕ → Bool) where
      abbrev before : List ℕ
      before = erasing e x

      abbrev more : List ℕ
      more = before ++ replicate k 2

      before_got : (b : ℕ) → b < n → (byte_of before b ≡ 2) ⊎ (byte_of before b ≡ byte_of x b)
      before_got = erased_got n x C.word e

      more_got : (b : ℕ) → b < N → (byte_of more b ≡ 2) ⊎ (byte_of more b ≡ byte_of y b)
      more_got b l =
          elim (dec_lt b n) [
            | yes q ↦ rw (longer_sent n (erasing e x) (erased_size n x C.word e) k b q, y_sent b q) (before_got b q)
            | no q ↦ inl (longer_added n (erasing e x) (erased_size n x C.word e) k b (omega arith) l)
          ]

      module _ (v : Verifies given n m 0 x) where
        by_given : Answered given n m 0 before
        by_given = erased_answered given n m 0 x v before (rw (add-zero n) (erased_size n x C.word e)) (λ b l. before_got b (omega arith))

        by_extended : Answered s.words n m k more
        by_extended = erased_answered s.words n m k y y_verified more (longer_size n (erasing e x) (erased_size n x C.word e) k) more_got

        sent_left : (b : ℕ) → b < n → residue h N M (erased (byte_of more)) b ≡ true → residue g n m (erased (byte_of before)) b ≡ true
        sent_left b l q =
            let (t, st, wi, p) = residue_at h N M (erased (byte_of more)) b q in
            residue_of g n m (erased (byte_of before)) t (G.stops t st)
            (λ b l p. rw (longer_sent n (erasing e x) (erased_size n x C.word e) k b l) at (wi b (omega arith) p)) b l p

        no_less : (b : ℕ) → b < n → Left (peel_outcome s.words n m k more).after b → Left (peel_outcome given n m 0 before).after b
        no_less b l q =
            let r : residue h N M (erased (byte_of more)) b ≡ true = sym (left_is s.words n m k more by_extended b (omega arith)) ∙ eq-eqb _ 2 q in
            eqb-true _ 2 (left_is given n m 0 before by_given b (omega arith) ∙ rw (add-zero n, add-zero m) (sent_left b l r))

        both : Peelings n k before more y (peel_outcome given n m 0 before) (peel_outcome s.words n m k more)
        both = record {
          given_answers = ap (λ (o : Outcome). o.reply.number) by_given.outcome;
          extended_answers = ap (λ (o : Outcome). o.reply.number) by_extended.outcome;
          no_less = no_less;
          given_right = λ b l r.
              recovers given n m 0 x v before (rw (add-zero n) (erased_size n x C.word e)) (λ b l. before_got b (omega arith)) b (omega arith) r.1
              ∙ sym (y_sent b l);
          extended_right = λ b l r. recovers s.words n m k y y_verified more (longer_size n (erasing e x) (erased_size n x C.word e) k) more_got b l r.1;
        }

    begin : (v : Verifies given n m 0 x) (held : List ℕ) → length held ≡ N → BeginsOne given n m s.words k x (extend_outcome s.words n m k x held)
    begin v held l = rw (extends s.words n m k A x held C.word l) record {
      answers = refl;
      begun = begins_x;
      verified = y_verified;
      only = λ z w t. completes s.words n m k A x z C.word (verifies s.words n m k A z w) t;
      peelings = λ e. both e v;
    }

  pub keeps : Keeps given n m s
  keeps = record {
    accepted = (accepts s.words n m k).1 A;
    other_k = λ j d. other_k s.words n m k A j d;
    cycles_start = cycles g n m;
    cycles_left = cycles h N M;
    counts_start = rw (add-zero n, add-zero m) at (counts given n m 0 A₀);
    counts_left = counts s.words n m k A;
    falls = G.falls;
    not_taken_back = built_sum g n m A₀.sound S.built;
    enough = back_enough given n m A₀ s S;
    back_none = none_back given n m A₀ s S;
    back_answers = back_answers given n m A₀ s S;
    each_codeword = λ x held v l. begin x (given_codeword x v) v held l;
    each_extended = λ z v.
        let D = verifies s.words n m k A z v in
        codeword_given (take n z) record {
          word = take_word n N 1 z D.word (omega arith);
          even = take_even n N 1 z D.word (omega arith) g m (G.given_even (is_one (byte_of z)) D.even);
        };
    finishes = S.finishes;
  }

pub demand3 : Demand3
demand3 given n m e cs =
    let A = (accepts given n m 0).0 e in
    keeps given n m A (runs n m (start given) cs) (stands_runs given n m A cs (start given) (stands_start given n m A))

-- For users: orthogonalising a given matrix and then peeling with it recovers at least what peeling with the given matrix recovers.
pub orthogonalise_then_peel : (given : List ℕ) (n m : ℕ) → cause given n m 0 ≡ 0 → (x : List ℕ) → Verifies given n m 0 x → (e : ℕ → Bool)
    → let s = runs n m (start given) (orthogonalises ∷ []) in
    (b : ℕ) → b < n → Recovered (erasing e x) (peel_outcome given n m 0 (erasing e x)).after b
    → Recovered (erasing e x) (peel_outcome s.words n m s.k (erasing e x ++ replicate s.k 2)).after b
orthogonalise_then_peel given n m a x v e b l r =
    let s = runs n m (start given) (orthogonalises ∷ []) in
    let K = demand3 given n m a (orthogonalises ∷ []) in
    (r.0, λ q. r.1 (((K.each_codeword x (replicate (n + s.k) 0) v (length-replicate (n + s.k) 0)).peelings e).no_less b l q))
