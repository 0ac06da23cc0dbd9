-- What joining two matrices answers and leaves, and what it promises of codewords and of peeling. Assumes nothing.
use mathlib.Core.Path.{◌≡◌, refl, sym, ap, ◌∙◌}
use mathlib.Core.Logic.{◌↔◌, ◌⊎◌}
use mathlib.Core.Bool.{Bool, true, false, not, ◌&&◌, ◌||◌}
use mathlib.Core.List.{List, [], ◌∷◌}
use Prim.Native.Nat.{ℕ, suc, ◌+◌, ◌%◌, ◌≤◌, ◌<◌}
use native.Mathlib.Nat.{add-zero}
use native.Mathlib.Omega.{arith}
use native.Mathlib.Decide.{dec_lt}
use lib.Dec.{eqb, ltb, lit<}
use lib.ListN.{length, get_or}
use borrow.Author.Tests.{eq-eqb, eqb-true, ltb-false, lt-ltb, le-ltb, not-false}
use Rattle.parity.specs.Finite.{all, count}
use Rattle.parity.specs.Matrix.{Matrix, lent, pack, in_range, clean, rule_a}
use Rattle.parity.specs.Words.{is_one, inside, erased, residue}
use Rattle.parity.specs.Joining.{Joined}
use Rattle.parity.specs.Causes.{Reply, answer, refusal, refuse}
use Rattle.parity.specs.Calls.{byte_of, wrong_length, accepting_both, joining, join_reply, join_outcome, peel_outcome}
use Rattle.parity.specs.Demand3.{Verifies, erasing, Left, Recovered}
use Rattle.parity.specs.JoiningPromises.{Joins, JoinsBoth}
use Rattle.parity.specs.Sound.{Clean, Sound}
use Rattle.parity.proofs.Finite.Bools.{or_false_both}
use Rattle.parity.proofs.Finite.Sums.{count_cong}
use Rattle.parity.proofs.Matrix.Clean.{cleans}
use Rattle.parity.proofs.Matrix.Accept.{Accepted, accepts, ranges, cause_0, pack_same, pack_accepted}
use Rattle.parity.proofs.Splits.Split.{Stops, Even}
use Rattle.parity.proofs.Words.Bytes.{Word, erased_got, erased_size}
use Rattle.parity.proofs.Words.Residue.{residue_at, residue_of}
use Rattle.parity.proofs.Words.Verifying.{verified, verifies}
use Rattle.parity.proofs.Words.Peeling.{erased_answered, left_is, never_refused, recovers}
use Rattle.parity.proofs.Joining.Checks.{each_joined, each_first, each_second, joined_clean}

-- two matrices over the same n bits that causes 1 to 4, 13 and 20 do not refuse
pub record Acceptable (ws₁ : List ℕ) (n m₁ : ℕ) (ws₂ : List ℕ) (m₂ : ℕ) : Type 0 where
  pub first : Accepted ws₁ n m₁ 0
  pub second : Accepted ws₂ n m₂ 0

-- a cause that did not refuse
past : (b : Bool) (c : ℕ) (after : Reply) → (refuse b (refusal (suc c) []) after).number ≡ 0 → (b ≡ false) × (after.number ≡ 0)
past true c after e = absurd (omega arith)
past false c after e = (refl, e)

module _ (ws₁ : List ℕ) (n₁ m₁ k₁ : ℕ) (ws₂ : List ℕ) (n₂ m₂ k₂ : ℕ) where
  -- a reply behind these causes
  pub both_acceptable : (after : Reply) → (accepting_both ws₁ n₁ m₁ k₁ ws₂ n₂ m₂ k₂ after).number ≡ 0
      → (k₁ ≡ 0) × (k₂ ≡ 0) × (n₁ ≡ n₂) × Acceptable ws₁ n₁ m₁ ws₂ m₂
  unfolding accepting_both
  both_acceptable after e =
      let (a, ea) = past (wrong_length 4096 ws₁ || wrong_length 4096 ws₂) 0 _ e in
      let (b, eb) = past (not (in_range n₁ m₁ k₁) || not (in_range n₂ m₂ k₂)) 1 _ ea in
      let (c, ec) = past (not (clean 8 (n₁ + k₁) (m₁ + k₁) 0 ws₁) || not (clean 8 (n₂ + k₂) (m₂ + k₂) 0 ws₂)) 2 _ eb in
      let (d, ed) = past (not (rule_a (lent 8 ws₁) n₁ m₁ k₁) || not (rule_a (lent 8 ws₂) n₂ m₂ k₂)) 3 _ ec in
      let (f, ef) = past (ltb 0 k₁ || ltb 0 k₂) 12 _ ed in
      let (g, eg) = past (not (eqb n₁ n₂)) 19 after ef in
      let (a₁, a₂) = or_false_both (wrong_length 4096 ws₁) _ a in
      let (b₁, b₂) = or_false_both (not (in_range n₁ m₁ k₁)) _ b in
      let (c₁, c₂) = or_false_both (not (clean 8 (n₁ + k₁) (m₁ + k₁) 0 ws₁)) _ c in
      let (d₁, d₂) = or_false_both (not (rule_a (lent 8 ws₁) n₁ m₁ k₁)) _ d in
      let (f₁, f₂) = or_false_both (ltb 0 k₁) _ f in
      let z₁ : k₁ ≡ 0 = omega (arith, ltb-false 0 k₁ f₁) in
      let z₂ : k₂ ≡ 0 = omega (arith, ltb-false 0 k₂ f₂) in
      let n : n₁ ≡ n₂ = eqb-true n₁ n₂ (not-false _ g) in
      let A₁ = (accepts ws₁ n₁ m₁ k₁).0 (cause_0 ws₁ n₁ m₁ k₁ (eqb-true _ _ (not-false _ a₁)) (not-false _ b₁) (not-false _ c₁) (not-false _ d₁)) in
      let A₂ = (accepts ws₂ n₂ m₂ k₂).0 (cause_0 ws₂ n₂ m₂ k₂ (eqb-true _ _ (not-false _ a₂)) (not-false _ b₂) (not-false _ c₂) (not-false _ d₂)) in
      (z₁, z₂, n, record { first = rw z₁ at A₁; second = rw (z₂, ← n) at A₂ })

module _ (ws₁ : List ℕ) (n m₁ : ℕ) (ws₂ : List ℕ) (m₂ : ℕ) (J : Acceptable ws₁ n m₁ ws₂ m₂) where
  abbrev h₁ : Matrix
  h₁ = lent 8 ws₁

  abbrev h₂ : Matrix
  h₂ = lent 8 ws₂

  abbrev both : Joined
  both = joining ws₁ n m₁ ws₂ m₂

  abbrev M : ℕ
  M = both.checks

  -- the joined matrix is accepted with k = 0
  pub both_clean : Clean both.matrix n M
  both_clean =
      let A = J.first.sound.clean in
      let B = J.second.sound.clean in
      joined_clean n h₁ m₁ h₂ n record { checks = λ c b l. A.checks c b (omega arith); bits = λ c b l. A.bits c b (omega arith) } m₂
      (λ d b l. B.bits d b (omega arith))

  both_sound : M ≤ 120 → Sound both.matrix n M 0
  unfolding rule_a all
  both_sound few = record {
    n1 = J.first.sound.n1;
    n120 = J.first.sound.n120;
    m120 = few;
    k392 = omega arith;
    clean = record { checks = λ c b l. both_clean.checks c b (omega arith); bits = λ c b l. both_clean.bits c b (omega arith) };
    rule = refl;
  }

  -- each joined check is even, or stops, exactly if each check of both is and does
  pub both_even : (x : ℕ → Bool) → Even both.matrix n M x ↔ (Even h₁ n m₁ x × Even h₂ n m₂ x)
  unfolding inside
  both_even x =
      let P : (ℕ → Bool) → Type 0 = λ s. count n (λ b. s b && x b) % 2 ≡ 0 in (
        λ E. (
          each_first n h₁ m₁ h₂ P m₂ E,
          each_second n h₁ m₁ h₂ P (λ s t f p. rw (← count_cong n {p = λ b. s b && x b} {q = λ b. t b && x b} (λ b l. rw (f b l))) p) m₂ E,
        ),
        λ (E, F). each_joined n h₁ m₁ h₂ P E m₂ F,
      )

  pub both_stops : (s : ℕ → Bool) → Stops both.matrix n M s → Stops h₁ n m₁ s × Stops h₂ n m₂ s
  unfolding inside
  both_stops x E =
      let P : (ℕ → Bool) → Type 0 = λ s. count n (λ b. s b && x b) ≡ 1 → ⊥ in (
        each_first n h₁ m₁ h₂ P m₂ E,
        each_second n h₁ m₁ h₂ P (λ s t f p q. p (count_cong n {p = λ b. s b && x b} {q = λ b. t b && x b} (λ b l. rw (f b l)) ∙ q)) m₂ E,
      )

-- what acceptance tests
four_of : (ws : List ℕ) (n m : ℕ) → Accepted ws n m 0
    → (eqb (length ws) 4096 ≡ true) × (in_range n m 0 ≡ true) × (clean 8 (n + 0) (m + 0) 0 ws ≡ true) × (rule_a (lent 8 ws) n m 0 ≡ true)
four_of ws n m A =
    let S = A.sound in (
      eq-eqb (length ws) 4096 A.words,
      (ranges n m 0).1 (S.n1, S.n120, S.m120, S.k392),
      (cleans 8 (n + 0) (m + 0) (lit< tt) ws).1 (A.machine, S.clean),
      S.rule,
    )

-- verifying with k = 0
plainly : (ws : List ℕ) (n m : ℕ) → Accepted ws n m 0 → (x : List ℕ) → Verifies ws n m 0 x ↔ (Word n 1 x × Even (lent 8 ws) n m (is_one (byte_of x)))
plainly ws n m A x = (
  λ v. let C = rw (add-zero n, add-zero m) at (verifies ws n m 0 A x v) in (C.word, C.even),
  λ (W, E). verified ws n m 0 A x (rw (add-zero n, add-zero m) record { word = W; even = E }),
)

-- peeling a codeword x with the bits of e erased, where k = 0
module _ (ws : List ℕ) (n m : ℕ) (x : List ℕ) (X : Word n 1 x) (v : Verifies ws n m 0 x) (e : ℕ → Bool) where
  got : (b : ℕ) → b < n + 0 → (byte_of (erasing e x) b ≡ 2) ⊎ (byte_of (erasing e x) b ≡ byte_of x b)
  got b l = erased_got n x X e b (omega arith)

  size : length (erasing e x) ≡ n + 0
  size = rw (add-zero n) (erased_size n x X e)

  peel_answers : (peel_outcome ws n m 0 (erasing e x)).reply.number ≡ 0
  peel_answers = never_refused ws n m 0 x v (erasing e x) size got

  peel_right : (b : ℕ) → b < n → (Left (peel_outcome ws n m 0 (erasing e x)).after b → ⊥) → byte_of (peel_outcome ws n m 0 (erasing e x)).after b ≡ byte_of x b
  peel_right b l d = recovers ws n m 0 x v (erasing e x) size got b (omega arith) d

  peel_left : (b : ℕ) → b < n → erased (byte_of (peel_outcome ws n m 0 (erasing e x)).after) b ≡ residue (lent 8 ws) n m (erased (byte_of (erasing e x))) b
  peel_left b l = left_is ws n m 0 (erasing e x) (erased_answered ws n m 0 x v (erasing e x) size got) b (omega arith) ∙ rw (add-zero n, add-zero m)

-- where each stopping set of one matrix is one of another, its peeling leaves no bit that the other's recovers
no_less : (ws ws' : List ℕ) (n m m' : ℕ) (x : List ℕ) → Word n 1 x → Verifies ws n m 0 x → Verifies ws' n m' 0 x
    → ((s : ℕ → Bool) → Stops (lent 8 ws') n m' s → Stops (lent 8 ws) n m s) → (e : ℕ → Bool) (b : ℕ) → b < n
    → Recovered (erasing e x) (peel_outcome ws n m 0 (erasing e x)).after b → Left (peel_outcome ws' n m' 0 (erasing e x)).after b → ⊥
no_less ws ws' n m m' x X v v' S e b l r q =
    let (s, st, wi, p) = residue_at (lent 8 ws') n m' (erased (byte_of (erasing e x))) b (sym (peel_left ws' n m' x X v' e b l) ∙ eq-eqb _ 2 q) in
    r.1 (eqb-true _ 2 (peel_left ws n m x X v e b l ∙ residue_of (lent 8 ws) n m (erased (byte_of (erasing e x))) s (S s st) wi b l p))

module _ (ws₁ : List ℕ) (n m₁ : ℕ) (ws₂ : List ℕ) (m₂ : ℕ) (J : Acceptable ws₁ n m₁ ws₂ m₂) where
  abbrev checks : ℕ
  checks = (joining ws₁ n m₁ ws₂ m₂).checks

  abbrev h : Matrix
  h = (joining ws₁ n m₁ ws₂ m₂).matrix

  abbrev ws : List ℕ
  ws = pack 8 h

  stopping : lent 8 ws ≡ h → (s : ℕ → Bool) → Stops (lent 8 ws) n checks s → Stops (lent 8 ws₁) n m₁ s × Stops (lent 8 ws₂) n m₂ s
  stopping L s S = both_stops ws₁ n m₁ ws₂ m₂ J s (rw L at S)

  codes : lent 8 ws ≡ h → Accepted ws n checks 0 → (x : List ℕ) → Verifies ws n checks 0 x ↔ (Verifies ws₁ n m₁ 0 x × Verifies ws₂ n m₂ 0 x)
  codes L A x = (
    λ v.
        let (W, E) = (plainly ws n checks A x).0 v in
        let (E₁, E₂) = (both_even ws₁ n m₁ ws₂ m₂ J (is_one (byte_of x))).0 (rw L at E) in
        ((plainly ws₁ n m₁ J.first x).1 (W, E₁), (plainly ws₂ n m₂ J.second x).1 (W, E₂)),
    λ (v₁, v₂).
        let (W, E₁) = (plainly ws₁ n m₁ J.first x).0 v₁ in
        let (X, E₂) = (plainly ws₂ n m₂ J.second x).0 v₂ in
        (plainly ws n checks A x).1 (W, rw L ((both_even ws₁ n m₁ ws₂ m₂ J (is_one (byte_of x))).1 (E₁, E₂))),
  )

  joins : checks ≤ 120 → Joins ws₁ n m₁ 0 ws₂ n m₂ 0 ws checks
  joins few =
      let S = both_sound ws₁ n m₁ ws₂ m₂ J few in
      let L = pack_same h n checks 0 S in
      let A = pack_accepted h n checks 0 S in
      record {
        accepted = (accepts ws n checks 0).1 A;
        codewords = codes L A;
        peelings = λ x v e.
            let (v₁, v₂) = (codes L A x).0 v in
            let (W, E) = (plainly ws n checks A x).0 v in
            record {
              first_answers = peel_answers ws₁ n m₁ x W v₁ e;
              second_answers = peel_answers ws₂ n m₂ x W v₂ e;
              joined_answers = peel_answers ws n checks x W v e;
              no_less_first = no_less ws₁ ws n m₁ checks x W v₁ v (λ s t. (stopping L s t).0) e;
              no_less_second = no_less ws₂ ws n m₂ checks x W v₂ v (λ s t. (stopping L s t).1) e;
              right = peel_right ws n checks x W v e;
            };
      }

  -- behind these causes
  pub both_passes : (after : Reply) → accepting_both ws₁ n m₁ 0 ws₂ n m₂ 0 after ≡ after
  unfolding accepting_both
  both_passes after =
      let S₁ = four_of ws₁ n m₁ J.first in
      let S₂ = four_of ws₂ n m₂ J.second in
      rw (S₁.0, S₂.0, S₁.1, S₂.1, S₁.2, S₂.2, S₁.3, S₂.3, eq-eqb n n refl)

  -- what joining comes to
  module _ (ws₃ : List ℕ) (third : length ws₃ ≡ 4096) where
    pub join_made : checks ≤ 120 → join_outcome ws₁ n m₁ 0 ws₂ n m₂ 0 ws₃ ≡ record { reply = answer (checks ∷ []); after = ws }
    unfolding join_outcome join_reply
    join_made few = rw (eq-eqb (length ws₃) 4096 third, both_passes, le-ltb 120 checks few)

    pub join_too_many : 120 < checks → join_outcome ws₁ n m₁ 0 ws₂ n m₂ 0 ws₃ ≡ record { reply = refusal 21 []; after = ws₃ }
    unfolding join_outcome join_reply
    join_too_many many = rw (eq-eqb (length ws₃) 4096 third, both_passes, lt-ltb 120 checks many)

-- an answer that is carried
made : (ws₁ : List ℕ) (n₁ m₁ k₁ : ℕ) (ws₂ : List ℕ) (n₂ m₂ k₂ : ℕ) (ws₃ : List ℕ) (c : ℕ) → k₁ ≡ 0 → k₂ ≡ 0 → n₁ ≡ n₂ → Acceptable ws₁ n₁ m₁ ws₂ m₂
    → length ws₃ ≡ 4096 → (join_outcome ws₁ n₁ m₁ k₁ ws₂ n₂ m₂ k₂ ws₃).reply ≡ answer (c ∷ [])
    → Joins ws₁ n₁ m₁ k₁ ws₂ n₂ m₂ k₂ (join_outcome ws₁ n₁ m₁ k₁ ws₂ n₂ m₂ k₂ ws₃).after c
made ws₁ n₁ m₁ k₁ ws₂ n₂ m₂ k₂ ws₃ c z₁ z₂ q J t e =
    elim (dec_lt 120 (joining ws₁ n₁ m₁ ws₂ m₂).checks) [
      | yes l ↦
          let f : ◌≡◌ {A = ℕ} 21 0 = ap (λ (r : Reply). r.number) (rw (z₁, z₂, ← q, join_too_many ws₁ n₁ m₁ ws₂ m₂ J ws₃ t l) at e) in
          absurd (omega arith)
      | no l ↦
          let few : (joining ws₁ n₁ m₁ ws₂ m₂).checks ≤ 120 = omega arith in
          let f = join_made ws₁ n₁ m₁ ws₂ m₂ J ws₃ t few in
          let i : (joining ws₁ n₁ m₁ ws₂ m₂).checks ≡ c = ap (λ (r : Reply). get_or r.values 0 0) (rw (z₁, z₂, ← q, f) at e) in
          rw (z₁, z₂, ← q, f, ← i) (joins ws₁ n₁ m₁ ws₂ m₂ J few)
    ]

-- The promise.
pub joins_both : JoinsBoth
unfolding join_outcome join_reply
joins_both ws₁ n₁ m₁ k₁ ws₂ n₂ m₂ k₂ ws₃ c e =
    let (t, e₁) = past (wrong_length 4096 ws₃) 0 _ (ap (λ (r : Reply). r.number) e) in
    let (z₁, z₂, q, J) = both_acceptable ws₁ n₁ m₁ k₁ ws₂ n₂ m₂ k₂ _ e₁ in
    made ws₁ n₁ m₁ k₁ ws₂ n₂ m₂ k₂ ws₃ c z₁ z₂ q J (eqb-true _ _ (not-false _ t)) e
