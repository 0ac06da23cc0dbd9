-- From what the calls come to, by their contracts, to what the receiver relies on, by demand 3 and what is promised of peeling. Assumes nothing.
use mathlib.Core.Path.{◌≡◌, refl, sym, ap, ◌∙◌}
use mathlib.Core.Bool.{Bool, true, false, true≢false}
use mathlib.Core.List.{List, [], ◌∷◌, ◌++◌}
use Prim.Native.Nat.{ℕ, ◌+◌, ◌-◌, ◌≤◌, ◌<◌}
use native.Mathlib.Nat.{zero-add}
use native.Mathlib.Omega.{arith}
use lib.Dec.{eqb}
use lib.ListN.{length, take, drop, replicate, length-replicate, length-append, replicate-append-replicate, get_or-append}
use lib.Seq.{ext_get_or, get_or-take, length-take-le, take-append-add, take_at}
use borrow.Author.Tests.{eq-eqb, ne_eqb}
use Rattle.std.specs.Prelude.{Result, Ok, Err, is_ok}
use Rattle.parity.specs.Matrix.{cause}
use Rattle.parity.specs.Causes.{Reply, answer, refusal_of, result_reply, loss_values}
use Rattle.parity.specs.declared.Losses.{Losses}
use Rattle.parity.specs.declared.Refusal.{Refusal}
use Rattle.parity.specs.Calls.{byte_of, orthogonalise_outcome, peel_outcome}
use Rattle.parity.specs.Demand3.{Call, orthogonalises, Stand, orthogonalise_k, next, runs, start, Verifies, erasing, Peelings, Keeps}
use Rattle.parity.proofs.Matrix.Accept.{accepts}
use Rattle.parity.proofs.Causes.Refused.{refused_number}
use Rattle.parity.proofs.Words.Promised.{peel_leaves_largest}
use Rattle.parity.proofs.Lists.Demand3.{demand3}
use Rattle.rows.specs.Whole.{Written, word_from}
use Rattle.client.specs.Relied.{ReliesOn}

-- all words are copied
same_words : (n : ℕ) (ws before after : List ℕ) → length ws ≡ n → length before ≡ n → Written before after 0 (word_from ws 0) n → after ≡ ws
same_words n ws before after l q A =
    ext_get_or 0 after ws (A.long ∙ q ∙ sym l) (λ i k. rw (zero-add i) at (A.done i (omega (arith, A.long))))

-- the word, and as many of the erased bits behind it as there are added ones
front : (n k : ℕ) (w : List ℕ) → length w ≡ n → k ≤ 392 → take (n + k) (w ++ replicate 392 2) ≡ w ++ replicate k 2
front n k w size l =
    let e : replicate {A = ℕ} 392 2 ≡ replicate k 2 ++ replicate (392 - k) 2 =
    ap (λ (j : ℕ). replicate j 2) {x = 392} {y = k + (392 - k)} (omega arith) ∙ sym (replicate-append-replicate {A = ℕ} k (392 - k) 2) in
    ap (λ (j : ℕ). take (j + k) (w ++ replicate 392 2)) (sym size) ∙ take-append-add w (replicate 392 2) k
    ∙ ap (λ (r : List ℕ). w ++ take k r) e ∙ ap (λ (r : List ℕ). w ++ r) (take_at (replicate k 2) (replicate (392 - k) 2) k (length-replicate {A = ℕ} k 2))

-- all of the word
whole : (n : ℕ) (w : List ℕ) → length w ≡ n → take (n + 0) w ≡ w
whole n w size =
    ext_get_or 0 (take (n + 0) w) w (length-take-le (n + 0) w (omega arith) ∙ omega arith) (λ b l. get_or-take (n + 0) w b 0 (omega (arith, length-take-le (n + 0) w (omega arith))))

-- what stands before other bytes
before_others : (ws : List ℕ) (n m k : ℕ) (v others : List ℕ) → (peel_outcome ws n m k v).reply.number ≡ 0 → (b : ℕ) → b < n + k
    → byte_of ((peel_outcome ws n m k v).after ++ others) b ≡ byte_of (peel_outcome ws n m k v).after b
before_others ws n m k v others e b l = get_or-append (peel_outcome ws n m k v).after others 0 b (omega (arith, (peel_leaves_largest ws n m k v e).size))

module _ (ws : List ℕ) (n m : ℕ) (a : cause ws n m 0 ≡ 0) where
  -- what demand 3 says after a list of calls
  module _ (cs : List Call) where
    abbrev s : Stand
    s = runs n m (start ws) cs

    K : Keeps ws n m s
    K = demand3 ws n m a cs

    pub few : (s.k ≤ 392) × (n + s.k ≤ 512)
    few = let S = ((accepts s.words n m s.k).0 K.accepted).sound in (S.k392, omega (arith, S.n120, S.k392))

    peelings : (x : List ℕ) (v : Verifies ws n m 0 x) (e : ℕ → Bool)
        → (y : List ℕ) × ((b : ℕ) → b < n → byte_of y b ≡ byte_of x b)
        × Peelings n s.k (erasing e x) (erasing e x ++ replicate s.k 2) y (peel_outcome ws n m 0 (erasing e x)) (peel_outcome s.words n m s.k (erasing e x ++ replicate s.k 2))
    peelings x v e =
        let B = K.each_codeword x (replicate (n + s.k) 0) v (length-replicate (n + s.k) 0) in
        (_, λ b l. sym (get_or-take n _ b 0 l) ∙ ap (λ (z : List ℕ). byte_of z b) B.begun, B.peelings e)

    module _ (w before : List ℕ) (size : length w ≡ n) (behind : before ≡ w ++ replicate 392 2) (own : List ℕ) (k : ℕ) (o : own ≡ s.words) (j : k ≡ s.k)
        (r : Bool) (given longer : List ℕ) (g : given ≡ (peel_outcome ws n m 0 (take (n + 0) w)).after ++ drop (n + 0) w)
        (f : longer ≡ (peel_outcome own n m k (take (n + k) before)).after ++ drop (n + k) before)
        (t : r ≡ eqb (peel_outcome own n m k (take (n + k) before)).reply.number 0) where
      module _ (x : List ℕ) (e : ℕ → Bool) (v : Verifies ws n m 0 x) (q : w ≡ erasing e x) where
        P : Peelings n s.k (erasing e x) (erasing e x ++ replicate s.k 2) (peelings x v e).0 (peel_outcome ws n m 0 (erasing e x)) (peel_outcome s.words n m s.k (erasing e x ++ replicate s.k 2))
        P = (peelings x v e).2

        longer_is : take (n + k) before ≡ erasing e x ++ replicate s.k 2
        longer_is = ap (take (n + k)) behind ∙ front n k w size (omega (arith, few.0)) ∙ rw (j, q)

        outcome_is : peel_outcome own n m k (take (n + k) before) ≡ peel_outcome s.words n m s.k (erasing e x ++ replicate s.k 2)
        outcome_is = rw (longer_is, o, j)

        given_at : (b : ℕ) → b < n → byte_of given b ≡ byte_of (peel_outcome ws n m 0 (erasing e x)).after b
        given_at b l = rw (g, whole n w size, q) (before_others ws n m 0 (erasing e x) _ P.given_answers b (omega arith))

        longer_at : (b : ℕ) → b < n → byte_of longer b ≡ byte_of (peel_outcome s.words n m s.k (erasing e x ++ replicate s.k 2)).after b
        longer_at b l = rw (f, outcome_is) (before_others s.words n m s.k (erasing e x ++ replicate s.k 2) _ P.extended_answers b (omega arith))

        answers : r ≡ true
        answers = t ∙ rw outcome_is (eq-eqb _ 0 P.extended_answers)

      pub relies : ReliesOn ws n m w r given longer
      relies = record {
        both_answer = answers;
        no_less = λ x e v q b l i. given_at x e v q b l ∙ (P x e v q).no_less b l (sym (longer_at x e v q b l) ∙ i);
        given_right = λ x e v q b l i.
            given_at x e v q b l
            ∙ (P x e v q).given_right b l (sym (ap (λ (z : List ℕ). byte_of z b) q) ∙ i.0, λ z. i.1 (given_at x e v q b l ∙ z)) ∙ (peelings x v e).1 b l;
        longer_right = λ x e v q b l i.
            longer_at x e v q b l
            ∙ (P x e v q).extended_right b (omega arith) (
              get_or-append (erasing e x) _ 0 b (omega (arith, ap length q)) ∙ sym (ap (λ (z : List ℕ). byte_of z b) q) ∙ i.0,
              λ z. i.1 (longer_at x e v q b l ∙ z),
            )
            ∙ (peelings x v e).1 b l;
      }

  -- a word got from a codeword is never refused with the given matrix
  pub refused : (w : List ℕ) → length w ≡ n → (given longer : List ℕ) → false ≡ eqb (peel_outcome ws n m 0 (take (n + 0) w)).reply.number 0
      → ReliesOn ws n m w false given longer
  refused w size given longer f = record {
    both_answer = λ x e v q. absurd (no x e v q);
    no_less = λ x e v q. absurd (no x e v q);
    given_right = λ x e v q. absurd (no x e v q);
    longer_right = λ x e v q. absurd (no x e v q);
  }
    where
      no : (x : List ℕ) (e : ℕ → Bool) → Verifies ws n m 0 x → w ≡ erasing e x → ⊥
      no x e v q = true≢false (sym (f ∙ rw (whole n w size, q) (eq-eqb _ 0 (peelings [] x v e).2.given_answers)))

  -- the list of one orthogonalise, where it finishes
  pub after_one : (splits total k : ℕ) (held : List ℕ) → answer (splits ∷ total ∷ k ∷ held) ≡ (orthogonalise_outcome ws n m 0).reply
      → ((orthogonalise_outcome ws n m 0).after ≡ (runs n m (start ws) (orthogonalises ∷ [])).words) × (k ≡ (runs n m (start ws) (orthogonalises ∷ [])).k)
  unfolding runs next orthogonalise_k
  after_one splits total k held e = (refl, rw (← e))

-- the copy, orthogonalised
pub copied_one : (ws : List ℕ) (n m : ℕ) → cause ws n m 0 ≡ 0 → (held copy own : List ℕ) → length held ≡ 4096 → Written held copy 0 (word_from ws 0) 4096
    → (splits total k : ℕ) (hs : List ℕ) → answer (splits ∷ total ∷ k ∷ hs) ≡ (orthogonalise_outcome copy n m 0).reply → own ≡ (orthogonalise_outcome copy n m 0).after
    → (own ≡ (runs n m (start ws) (orthogonalises ∷ [])).words) × (k ≡ (runs n m (start ws) (orthogonalises ∷ [])).k)
copied_one ws n m a held copy own l W splits total k hs e o =
    let c = same_words 4096 ws held copy ((accepts ws n m 0).0 a).words l W in
    let (x, y) = after_one ws n m a splits total k hs (rw c at e) in
    ((rw c at o) ∙ x, y)

-- the empty list
pub after_none : (ws : List ℕ) (n m : ℕ) → (ws ≡ (runs n m (start ws) []).words) × (0 ≡ (runs n m (start ws) []).k)
unfolding runs
after_none ws n m = (refl, refl)

-- room for the bytes that are peeled
pub room : (n k : ℕ) (w before : List ℕ) → length w ≡ n → before ≡ w ++ replicate 392 2 → k ≤ 392 → n + k ≤ length before
room n k w before size behind l = rw (behind, length-append w (replicate 392 2), size, length-replicate {A = ℕ} 392 2) (omega arith)

-- whether peeling answers
pub told : (r : Result Losses Refusal) (reply : Reply) → result_reply loss_values r ≡ reply → is_ok r ≡ eqb reply.number 0
told (Ok l) reply e = rw (← e) refl
told (Err r) reply e = rw (← e) (sym (ne_eqb (refusal_of r).number 0 (refused_number r)))
