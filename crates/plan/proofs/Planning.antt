-- The plan that peeling and elimination make for given losses serves every lane. Assumes nothing.
use mathlib.Core.Path.{◌≡◌, refl, sym, ap, ◌∙◌}
use mathlib.Core.Bool.{Bool, true, false, not, ◌&&◌, ◌||◌, or-true, or-false, and-eq-true_iff, true≢false, false≢true}
use mathlib.Core.List.{List}
use Prim.Native.Nat.{ℕ, zero, suc, ◌*◌, ◌%◌, ◌≤◌, ◌<◌}
use native.Mathlib.Omega.{arith}
use native.Mathlib.Decide.{dec_lt}
use lib.Dec.{eqb, leb}
use borrow.Author.Tests.{eq-eqb, eqb-true, lt-ltb, le-leb, leb-true}
use Rattle.parity.specs.Finite.{all, any}
use Rattle.parity.specs.Matrix.{Matrix, lent}
use Rattle.parity.specs.Words.{inside, odd}
use Rattle.parity.specs.Determining.{some_agrees, determined}
use Rattle.parity.proofs.Finite.Bools.{or_false_both}
use Rattle.parity.proofs.Finite.Sums.{is_true, is_false, is, any_at, any_of}
use Rattle.parity.proofs.Matrix.Lent.{lent_out}
use Rattle.parity.proofs.Words.Steps.{stage_start}
use Rattle.parity.proofs.Words.Sets.{odd_even, not_odd_even}
use Rattle.parity.proofs.Words.Agreeing.{agree_stage, some_same, determined_same}
use Rattle.result.specs.Result.{held, agreeing}
use Rattle.result.proofs.Agreeing.{agreeing_wider}
use Rattle.result.proofs.Word.{erased_held}
use Rattle.steps.proofs.Held.{Held, held_reached}
use Rattle.elimination.specs.Reduction.{Reduction}
use Rattle.pivots.specs.Pivots.{EvenFrom}
use Rattle.residue.specs.Rows.{Gathered}
use Rattle.residue.specs.Sets.{Apart, Determined}
use Rattle.residue.proofs.Gathering.{narrow}
use Rattle.residue.proofs.Solving.{uneven_none, eliminated_none, eliminated_some}
use Rattle.lanes.specs.Lanes.{ran, uneven, Low, Lists, peeling, mending, contradicted}
use Rattle.plan.specs.Order.{Free, Settling, Joined, Own, Listed}
use Rattle.plan.specs.Plan.{Plans}
use Rattle.parity.proofs.Words.Bytes.{erasable_most}

-- all, as the contrary of some
all_any : (n : ℕ) (p q : ℕ → Bool) → ((c : ℕ) → c < n → p c ≡ not (q c)) → all n p ≡ not (any n q)
unfolding all any
all_any zero p q f = refl
all_any (suc n) p q f = rw (all_any n p q (λ c k. f c (omega arith)), f n (omega arith)) (go (any n q) (q n))
  where
    go : (a b : Bool) → (not a && not b) ≡ not (a || b)
    go true b = refl
    go false b = refl

even_not_odd : (s : ℕ) → eqb (s % 2) 0 ≡ not (odd s)
even_not_odd s = elim (is (odd s)) [ is_true q ↦ odd_even s q ∙ rw q | is_false q ↦ not_odd_even s q ∙ rw q ]

held_byte : (e o : ℕ → Bool) (b : ℕ) → held e o b ≤ 2
held_byte e o b = erasable_most (e b) (o b)

-- reduced rows have no pivot of another
pub reduced_own : (g k : Matrix) (B L r : ℕ) (e : ℕ → Bool) (at : List ℕ) → Reduction g k B L e B r at → Own k r at
reduced_own g k B L r e at R = record { other = λ c d i j n. R.form.alone c d i (omega (arith, R.form.few)) n }

pub reduced_low : (g k : Matrix) (B L r : ℕ) (e : ℕ → Bool) (at : List ℕ) → Reduction g k B L e B r at → Low r B at
reduced_low g k B L r e at R = record { low = λ c l. R.form.low c l }

module _ (h : Matrix) (N M W : ℕ) (few : N ≤ 512) (wide : W ≤ 8) (room : N ≤ W * 64) (e : ℕ → Bool) (short : (b : ℕ) → N ≤ b → e b ≡ false) (es : List ℕ) (done : ℕ → Bool) (p : Lists)
    (S : Settling h (W * 64) M e (lent 8 es 0) p.checks p.bits p.s done) (J : Joined h (W * 64) M (lent 8 es 0) done p.skip)
    (g k : Matrix) (at : List ℕ) (G : Gathered h g (W * 64) M (lent 8 es 0) p.L) (R : Reduction g k (W * 64) p.L (lent W es 0) (W * 64) p.r at)
    (left : ℕ → Bool) (T : Listed k (W * 64) (lent W es 0) at p.r (lent 8 es 0) left p.rows p.pivots p.t) (none : (c : ℕ) → p.none c ≡ false) where
  abbrev B : ℕ
  B = W * 64

  abbrev e₁ : ℕ → Bool
  e₁ = lent 8 es 0

  module _ (o : ℕ → Bool) (A : Apart N e o) where
    -- the ones when peeling is over
    abbrev o₁ : ℕ → Bool
    o₁ = ran h B p.checks p.bits p.s o

    free : Free e o
    free = record { none = A.apart }

    H : Held h N M (held e o) e₁ o₁
    H = held_reached h B N M room (held e o) e o e₁ o₁ (S.order.reached o)
        record { apart = A.apart; short_e = A.short_e; short_o = A.short_o; stage = stage_start h N M (held e o) (λ b l. held_byte e o b) }

    A₁ : Apart N e₁ o₁
    A₁ = record { short_e = H.short_e; short_o = H.short_o; apart = H.apart }

    -- the checks that are not tested are even, or have a bit that is left
    tested : (c : ℕ) → c < M → (not (eqb (inside h B c e₁) 0) || eqb (inside h B c o₁ % 2) 0) ≡ not (leb 0 c && (not (p.skip c) && odd (inside h B c o₁)))
    tested c l = rw (le-leb 0 c (omega arith), J.at c, lt-ltb c M l) (elim (is (eqb (inside h B c e₁) 0)) [
      | is_false q ↦ rw (q, or-true)
      | is_true q ↦ rw (q, or-false) (elim (is (done c)) [
        | is_false d ↦ rw d (even_not_odd (inside h B c o₁))
        | is_true d ↦ rw d (even_not_odd (inside h B c o₁) ∙ rw ((S.order.even c d).even o free))
      ])
    ])

    agree₁ : agreeing h 512 M e₁ o₁ ≡ not (uneven h B 0 M p.skip o₁)
    unfolding uneven
    agree₁ =
        sym (agreeing_wider h B 512 M e₁ o₁ (omega arith) record { none = λ b l. H.short_e b (omega arith) } record { none = λ b l. H.short_o b (omega arith) })
        ∙ unfold agreeing in all_any M _ _ tested

    -- the stage that peeling ends at has the same codewords
    same_some : some_agrees h N M (held e o) ≡ some_agrees h N M (held e₁ o₁)
    same_some = some_same h h N M M (held e o) (held e₁ o₁) (agree_stage h N M (held e o) (held e₁ o₁) H.stage)

    same_word : (b : ℕ) → determined h N M (held e o) b ≡ determined h N M (held e₁ o₁) b
    same_word b = ap (λ (f : ℕ → ℕ). f b) (determined_same h h N M M (held e o) (held e₁ o₁) (agree_stage h N M (held e o) (held e₁ o₁) H.stage))

    out_o : (b : ℕ) → B ≤ b → o₁ b ≡ false
    out_o b l = H.short_o b (omega arith)

    test_at : (c : ℕ) → (leb p.r c && (not (p.none c) && odd (inside k B c o₁))) ≡ (leb p.r c && odd (inside k B c o₁))
    test_at c = rw (none c)

    uneven_rows : uneven k B p.r p.L p.none o₁ ≡ true → EvenFrom k B p.r p.L o₁ false
    unfolding uneven
    uneven_rows q = record {
      even = λ z. absurd (false≢true z);
      uneven = λ z.
          let (c, l, u) = any_at p.L (λ c. leb p.r c && (not (p.none c) && odd (inside k B c o₁))) q in
          let (u₁, u₂) = (and-eq-true_iff (leb p.r c) (odd (inside k B c o₁))).0 (sym (test_at c) ∙ u) in
          (c, leb-true p.r c u₁, l, λ z. false≢true (sym (odd_even (inside k B c o₁) u₂) ∙ eq-eqb (inside k B c o₁ % 2) 0 z));
    }

    even_rows : uneven k B p.r p.L p.none o₁ ≡ false → EvenFrom k B p.r p.L o₁ true
    unfolding uneven
    even_rows q = record {
      even = λ z c i l. elim (is (odd (inside k B c o₁))) [
        | is_false u ↦ eqb-true (inside k B c o₁ % 2) 0 (not_odd_even (inside k B c o₁) u)
        | is_true u ↦ absurd (false≢true (sym q ∙ any_of p.L (λ c. leb p.r c && (not (p.none c) && odd (inside k B c o₁))) c l (test_at c ∙ rw (le-leb p.r c i, u))))
      ];
      uneven = λ z. absurd (true≢false z);
    }

    -- a check that is tested is odd
    none₁ : uneven h B 0 M p.skip o₁ ≡ true → some_agrees h N M (held e o) ≡ false
    none₁ q = same_some ∙ uneven_none h N M e₁ o₁ few A₁ (agree₁ ∙ rw q)

    module _ (q : uneven h B 0 M p.skip o₁ ≡ false) where
      t : agreeing h 512 M e₁ o₁ ≡ true
      t = agree₁ ∙ rw q

      -- a row that is tested is odd
      none₂ : uneven k B p.r p.L p.none o₁ ≡ true → some_agrees h N M (held e o) ≡ false
      none₂ u =
          same_some ∙ eliminated_none h N M e₁ o₁ few A₁ t g k B p.L p.r at (lent W es 0) o₁ room (omega arith) (narrow W 8 wide es) (λ b l. refl) (lent_out W es 0) out_o G R
          (uneven_rows u)

      -- all are even
      some : uneven k B p.r p.L p.none o₁ ≡ false → Determined h N M e₁ o₁ true left (ran k B p.rows p.pivots p.t o₁)
      some u =
          eliminated_some h N M e₁ o₁ few A₁ t g k B p.L p.r at (lent W es 0) o₁ room (omega arith) (narrow W 8 wide es) (λ b l. refl) (lent_out W es 0) out_o G R
          (even_rows u) left (ran k B p.rows p.pivots p.t o₁) (T.written o₁)

    told : not (contradicted h k B M p o) ≡ some_agrees h N M (held e o)
    unfolding contradicted peeling
    told = elim (is (uneven h B 0 M p.skip o₁)) [
      | is_true q ↦ rw q (sym (none₁ q))
      | is_false q ↦ rw q (elim (is (uneven k B p.r p.L p.none o₁)) [
        | is_true u ↦ rw u (sym (none₂ q u))
        | is_false u ↦ rw u ((some q u).told ∙ sym same_some)
      ])
    ]

    word : contradicted h k B M p o ≡ false → (b : ℕ) → b < N → held left (mending h k B p o) b ≡ determined h N M (held e o) b
    unfolding contradicted peeling mending
    word f b l =
        let (q, u) = or_false_both (uneven h B 0 M p.skip o₁) (uneven k B p.r p.L p.none o₁) f in
        (some q u).word refl b l ∙ sym (same_word b)

    shrinks : (b : ℕ) → left b ≡ true → e b ≡ true
    shrinks b q =
        let u : e₁ b ≡ true = ((and-eq-true_iff (e₁ b) _).0 (sym ((T.written o).left b) ∙ q)).0 in
        elim (dec_lt b N) [
          | yes l ↦ sym (ap (λ (f : ℕ → Bool). f b) (erased_held e o)) ∙ H.stage.shrinks b l (ap (λ (f : ℕ → Bool). f b) (erased_held e₁ o₁) ∙ u)
          | no l ↦ absurd (false≢true (sym (H.short_e b (omega arith)) ∙ u))
        ]

  pub plan_works : Plans h N M e left (mending h k B p) (contradicted h k B M p)
  plan_works = record {
    told = told;
    word = word;
    fewer = shrinks (λ b. false) record { short_e = short; short_o = λ b l. refl; apart = λ b q. refl };
  }
