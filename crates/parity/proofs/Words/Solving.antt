-- Solving checks in any order (M-108): every complete run ends as peeling does, and every run can be completed. Assumes nothing.
use mathlib.Core.Path.{◌≡◌, refl, sym, ap, ◌∙◌, fun_ext}
use mathlib.Core.Bool.{Bool, true, false, not, ◌&&◌, cond, and-eq-true_iff, true≢false, false≢true}
use mathlib.Core.Logic.{◌⊎◌}
use mathlib.Core.List.{List, [], ◌∷◌, ◌++◌}
use Prim.Native.Nat.{ℕ, zero, suc, ◌+◌, ◌%◌, ◌≤◌, ◌<◌}
use native.Mathlib.Nat.{zero-add}
use native.Mathlib.Omega.{arith}
use native.Mathlib.Decide.{ℕ_discrete, dec_lt}
use lib.Dec.{ltb}
use lib.ListN.{length, get_or-eq_default}
use borrow.Author.Tests.{eq-eqb, ne_eqb, eqb-true, ltb-true, lt-ltb, not-true}
use Rattle.parity.specs.Finite.{one, count, any}
use Rattle.parity.specs.Matrix.{Matrix, lent}
use Rattle.parity.specs.Words.{erased, is_one, inside, odd, solved, recovered, losses}
use Rattle.parity.specs.Causes.{Reply, answer, Outcome}
use Rattle.parity.specs.Calls.{byte_of, verify_reply, peel_outcome}
use Rattle.parity.specs.Demand3.{Verifies, erasing, Left}
use Rattle.parity.specs.Solving.{ready, solving, solving_all, is_run, is_complete}
use Rattle.parity.specs.SolvingPromises.{AnyOrder, SolvedInAnyOrder}
use Rattle.parity.proofs.Finite.Sums.{is_true, is_false, is, byte_one, eqb_one, eqb_two, any_of, any_at, count_at, count_two, count_part, sum_point, byte_known}
use Rattle.parity.proofs.Matrix.Lent.{count_add}
use Rattle.parity.proofs.Finite.Lists.{length_list_from, at_list_from}
use Rattle.parity.proofs.Splits.Split.{Stops}
use Rattle.parity.proofs.Words.Extend.{odd_added}
use Rattle.parity.proofs.Words.Steps.{solved_at, solved_other, Stage, stage_start, step, fewer, ended}
use Rattle.parity.proofs.Causes.Admit.{accepted_number}
use Rattle.parity.proofs.Words.Verifying.{verifies}
use Rattle.parity.proofs.Words.Bytes.{list_bytes, erased_got, erased_size}
use Rattle.parity.proofs.Words.Peeling.{Answered, codeword_x, solves_w, erased_answered, peel_made}

module _ (h : Matrix) (N : ℕ) (w : List ℕ) (c : ℕ) where
  ready_one : ready h N w c ≡ true → inside h N c (erased (byte_of w)) ≡ 1
  unfolding ready
  ready_one e =
      elim (ℕ_discrete (inside h N c (erased (byte_of w))) 1)
      [ yes q ↦ q | no d ↦ absurd (false≢true (rw (ne_eqb (inside h N c (erased (byte_of w))) 1 d) at e)) ]

  module _ (size : length w ≡ N) where
    abbrev value : ℕ
    value = one (odd (inside h N c (is_one (byte_of w))))

    solving_size : length (solving h N w c) ≡ N
    unfolding solving
    solving_size = length_list_from 0 (length w) _ ∙ size

    solving_at : (b : ℕ) → b < N → byte_of (solving h N w c) b ≡ cond (h c b && erased (byte_of w) b) value (byte_of w b)
    unfolding solving
    solving_at b l = at_list_from 0 (length w) _ b (omega arith) ∙ rw (zero-add b) refl

    -- a step on a check that is ready is the step of peeling at its erased bit
    pub one_step : ready h N w c ≡ true
        → (b : ℕ) × (b < N) × (h c b ≡ true) × (erased (byte_of w) b ≡ true) × (byte_of (solving h N w c) ≡ solved h N c b (byte_of w))
    unfolding inside
    one_step e =
        let a = ready_one e in
        let (b, l, p) = count_at N (λ b. h c b && erased (byte_of w) b) (omega arith) in
        let (hb, eb) = (and-eq-true_iff (h c b) (erased (byte_of w) b)).0 p in (
          b,
          l,
          hb,
          eb,
          fun_ext (λ i. elim (dec_lt i N) [
            | no k ↦
                get_or-eq_default (solving h N w c) 0 (omega (arith, solving_size))
                ∙ sym (solved_other h N c b (byte_of w) i (λ q. omega arith) ∙ get_or-eq_default w 0 (omega arith))
            | yes k ↦ elim (ℕ_discrete i b) [
              | yes q ↦ rw q (solving_at b l ∙ rw (hb, eb) (sym (solved_at h N c b (byte_of w))))
              | no d ↦ solving_at i k ∙ elim (is (h c i && erased (byte_of w) i)) [
                | is_false q ↦ rw q (sym (solved_other h N c b (byte_of w) i d))
                | is_true q ↦ absurd (omega (arith, count_two N (λ b. h c b && erased (byte_of w) b) i b k l d q p))
              ]
            ]
          ]),
        )

    -- The check then has no erased bit and is even.
    solved_check : (b : ℕ) → b < N → h c b ≡ true → erased (byte_of w) b ≡ true → inside h N c (erased (byte_of w)) ≡ 1
        → (inside h N c (erased (solved h N c b (byte_of w))) ≡ 0) × (inside h N c (is_one (solved h N c b (byte_of w))) % 2 ≡ 0)
    unfolding inside count
    solved_check b l hb eb a =
        let p = sum_point N b {f = λ i. one (h c i && erased (byte_of w) i)} {g = λ i. one (h c i && erased (solved h N c b (byte_of w)) i)} l
        (λ i k d. rw (solved_other h N c b (byte_of w) i d)) in
        let r = sum_point N b {f = λ i. one (h c i && is_one (byte_of w) i)} {g = λ i. one (h c i && is_one (solved h N c b (byte_of w)) i)} l
        (λ i k d. rw (solved_other h N c b (byte_of w) i d)) in (
          omega (arith, rw (hb, eb, solved_at h N c b (byte_of w), eqb_two (odd (inside h N c (is_one (byte_of w))))) at p),
          omega (arith, rw (hb, solved_at h N c b (byte_of w), eqb_one (odd (inside h N c (is_one (byte_of w)))), eqb-true (byte_of w b) 2 eb) at r, odd_added (inside h N c (is_one (byte_of w)))),
        )

    pub solves_check : ready h N w c ≡ true
        → (inside h N c (erased (byte_of (solving h N w c))) ≡ 0) × (inside h N c (is_one (byte_of (solving h N w c))) % 2 ≡ 0)
    solves_check e = let (b, l, hb, eb, q) = one_step e in rw q (solved_check b l hb eb (ready_one e))

-- the word after a run on w, which is a stage of peeling w₀: it is a stage too, and each step has taken one erased bit
pub record After (h : Matrix) (N M : ℕ) (w₀ : ℕ → ℕ) (w : List ℕ) (cs : List ℕ) : Type 0 where
  pub size : length (solving_all h N w cs) ≡ N
  pub stage : Stage h N M w₀ (byte_of (solving_all h N w cs))
  pub fell : count N (erased (byte_of w)) ≡ length cs + count N (erased (byte_of (solving_all h N w cs)))

module _ (h : Matrix) (N M : ℕ) where
  -- a step on a check that is ready leaves one erased bit fewer
  step_fell : (w : List ℕ) (c : ℕ) → length w ≡ N → ready h N w c ≡ true → count N (erased (byte_of w)) ≡ suc (count N (erased (byte_of (solving h N w c))))
  step_fell w c size r = let (b, bn, hb, eb, q) = one_step h N w c size r in rw q (fewer h N c b (byte_of w) bn eb)

  pub run_after : (w₀ : ℕ → ℕ) (w cs : List ℕ) → length w ≡ N → Stage h N M w₀ (byte_of w) → is_run h N M w cs ≡ true → After h N M w₀ w cs
  unfolding is_run solving_all
  run_after w₀ w [] size S e = record { size = size; stage = S; fell = sym (zero-add (count N (erased (byte_of w)))) }
  run_after w₀ w (c ∷ cs) size S e =
      let (e₁, e₂) = (and-eq-true_iff (ltb c M && ready h N w c) (is_run h N M (solving h N w c) cs)).0 e in
      let (l, r) = (and-eq-true_iff (ltb c M) (ready h N w c)).0 e₁ in
      let (b, bn, hb, eb, q) = one_step h N w c size r in
      let T : Stage h N M w₀ (byte_of (solving h N w c)) = rw q (step h N M w₀ (byte_of w) S c b (ltb-true c M l) bn hb eb (ready_one h N w c r)) in
      let A = run_after w₀ (solving h N w c) cs (solving_size h N w c size) T e₂ in
      record { size = A.size; stage = A.stage; fell = omega (arith, A.fell, step_fell w c size r) }

  -- a list of steps, and then another
  all_append : (w cs more : List ℕ) → solving_all h N w (cs ++ more) ≡ solving_all h N (solving_all h N w cs) more
  unfolding solving_all
  all_append w [] more = refl
  all_append w (c ∷ cs) more = all_append (solving h N w c) cs more

  run_append : (w cs more : List ℕ) → is_run h N M w (cs ++ more) ≡ (is_run h N M w cs && is_run h N M (solving_all h N w cs) more)
  unfolding is_run solving_all
  run_append w [] more = refl
  run_append w (c ∷ cs) more = rw (run_append (solving h N w c) cs more) (go (ltb c M && ready h N w c) _ _)
    where
      go : (a b d : Bool) → (a && (b && d)) ≡ (a && b && d)
      go true b d = refl
      go false b d = refl

  -- Every word has a complete run: steps as long as a check is ready.
  completed : (fuel : ℕ) (w : List ℕ) → length w ≡ N → count N (erased (byte_of w)) ≤ fuel → (cs : List ℕ) × (is_complete h N M w cs ≡ true)
  unfolding is_complete is_run solving_all
  completed zero w size k =
      elim (is (any M (ready h N w))) [
        | is_false e ↦ ([], rw e)
        | is_true e ↦ let (c, l, r) = any_at M (ready h N w) e in absurd (omega (arith, step_fell w c size r))
      ]
  completed (suc fuel) w size k =
      elim (is (any M (ready h N w))) [
        | is_false e ↦ ([], rw e)
        | is_true e ↦
            let (c, l, r) = any_at M (ready h N w) e in
            let (cs, f) = completed fuel (solving h N w c) (solving_size h N w c size) (omega (arith, step_fell w c size r)) in
            (c ∷ cs, rw (lt-ltb c M l, r) f)
      ]

  -- A complete run, and what it says.
  complete_at : (w cs : List ℕ) → is_complete h N M w cs ≡ true → (is_run h N M w cs ≡ true) × Stops h N M (erased (byte_of (solving_all h N w cs)))
  unfolding is_complete
  complete_at w cs e =
      let (r, f) = (and-eq-true_iff (is_run h N M w cs) (not (any M (ready h N (solving_all h N w cs))))).0 e in
      (r, λ c l q. true≢false (sym (any_of M (ready h N (solving_all h N w cs)) c l (unfold ready in eq-eqb _ 1 q)) ∙ not-true _ f))

  pub complete_append : (w cs more : List ℕ) → is_run h N M w cs ≡ true → is_complete h N M (solving_all h N w cs) more ≡ true → is_complete h N M w (cs ++ more) ≡ true
  unfolding is_complete
  complete_append w cs more r e = rw (run_append w cs more, all_append w cs more, r) e

  -- Every run can be gone on with to a complete one.
  pub goes_on : (w cs : List ℕ) → length w ≡ N → ((b : ℕ) → b < N → byte_of w b ≤ 2) → is_run h N M w cs ≡ true
      → (more : List ℕ) × (is_complete h N M w (cs ++ more) ≡ true)
  goes_on w cs size u r =
      let A = run_after (byte_of w) w cs size (stage_start h N M (byte_of w) u) r in
      let v = solving_all h N w cs in
      let (more, e) = completed (count N (erased (byte_of v))) v A.size (omega arith) in
      (more, complete_append w cs more r e)

-- a codeword x in which some bytes are made 2
module _ (ws : List ℕ) (n m k : ℕ) (x : List ℕ) (v : Verifies ws n m k x) (w : List ℕ) (size : length w ≡ n + k)
    (got : (b : ℕ) → b < n + k → (byte_of w b ≡ 2) ⊎ (byte_of w b ≡ byte_of x b)) where
  abbrev h : Matrix
  h = lent 8 ws

  abbrev N : ℕ
  N = n + k

  abbrev M : ℕ
  M = m + k

  P : Answered ws n m k w
  P = erased_answered ws n m k x v w size got

  after : (cs : List ℕ) → is_run h N M w cs ≡ true → After h N M (byte_of w) w cs
  after cs r = run_after h N M (byte_of w) w cs size (stage_start h N M (byte_of w) P.word.bytes) r

  -- what peeling comes to, by a complete run
  peel_run : (cs : List ℕ) → is_complete h N M w cs ≡ true
      → peel_outcome ws n m k w ≡ record { reply = answer (losses n k (byte_of w) (byte_of (solving_all h N w cs))); after = solving_all h N w cs }
  peel_run cs e =
      let (r, t) = complete_at h N M w cs e in
      let A = after cs r in
      let E = ended h N M (byte_of w) (byte_of (solving_all h N w cs)) A.stage t in
      peel_made ws n m k P.accepted w P.word (byte_of (solving_all h N w cs)) E (sym E.answers ∙ P.solvable)
      ∙ rw (list_bytes N (solving_all h N w cs) A.size)

  -- its steps are the recovered bits
  recovers_all : (cs : List ℕ) → is_run h N M w cs ≡ true
      → length cs ≡ count n (recovered (byte_of w) (byte_of (solving_all h N w cs))) + count k (λ j. recovered (byte_of w) (byte_of (solving_all h N w cs)) (n + j))
  unfolding recovered
  recovers_all cs r =
      let A = after cs r in
      omega (
        arith,
        A.fell,
        count_part N (erased (byte_of w)) (erased (byte_of (solving_all h N w cs))) A.stage.shrinks,
        count_add n k (λ b. erased (byte_of w) b && not (erased (byte_of (solving_all h N w cs)) b)),
      )

  right : (cs : List ℕ) → is_run h N M w cs ≡ true → (b : ℕ) → b < N → (Left (solving_all h N w cs) b → ⊥) → byte_of (solving_all h N w cs) b ≡ byte_of x b
  right cs r b l d =
      let S = (after cs r).stage in
      sym (byte_known (byte_of (solving_all h N w cs) b) (S.bytes b l) d)
      ∙ ap one (sym (S.right (is_one (byte_of x)) (solves_w ws n m k x v w size got) b l (ne_eqb (byte_of (solving_all h N w cs) b) 2 d)))
      ∙ byte_one (byte_of x b) ((codeword_x ws n m k x v w size got).word.bytes b l)

  every_run : AnyOrder ws n m k x w
  unfolding losses
  every_run =
      let (all, f) = goes_on h N M w [] size P.word.bytes (unfold is_run in refl) in
      let end = byte_of (solving_all h N w all) in
      record {
        sent = count n (recovered (byte_of w) end);
        added = count k (λ j. recovered (byte_of w) end (n + j));
        sent_left = count n (erased end);
        added_left = count k (λ j. erased end (n + j));
        answers = ap (λ (o : Outcome). o.reply) (peel_run all f);
        same_word = λ cs e. sym (ap (λ (o : Outcome). o.after) (peel_run cs e));
        total = λ cs e.
            let same : solving_all h N w cs ≡ solving_all h N w all = sym (ap (λ (o : Outcome). o.after) (peel_run cs e)) ∙ ap (λ (o : Outcome). o.after) (peel_run all f) in
            recovers_all cs (complete_at h N M w cs e).0 ∙ rw same;
        right = right;
        goes_on = λ cs r. goes_on h N M w cs size P.word.bytes r;
      }

pub solved_in_any_order : SolvedInAnyOrder
unfolding verify_reply
solved_in_any_order ws n m k x v e =
    let C = verifies ws n m k (accepted_number ws n m k _ (ap (λ (r : Reply). r.number) v)) x v in
    every_run ws n m k x v (erasing e x) (erased_size (n + k) x C.word e) (erased_got (n + k) x C.word e)
