-- The lists of a plan name checks, rows and bits that there are. Assumes nothing.
use mathlib.Core.Path.{◌≡◌, refl, sym, ◌∙◌}
use mathlib.Core.Bool.{Bool, true, ◌&&◌, and-eq-true_iff, true≢false}
use mathlib.Core.List.{List, []}
use Prim.Native.Nat.{ℕ, ◌*◌, ◌≤◌, ◌<◌}
use native.Mathlib.Omega.{arith}
use native.Mathlib.Decide.{dec_lt}
use lib.ListN.{get_or, length, take}
use Rattle.std.proofs.lemmas.List.{length-take-le}
use Rattle.parity.specs.Finite.{count}
use Rattle.parity.specs.Matrix.{Matrix, lent}
use Rattle.parity.specs.Words.{inside}
use Rattle.parity.proofs.Finite.Sums.{count_le, count_mono, count_bound}
use Rattle.sets.specs.Sets.{Short}
use Rattle.elimination.specs.Reduction.{Reduction}
use Rattle.residue.specs.Rows.{Gathered}
use Rattle.residue.proofs.Gathering.{narrow}
use Rattle.lanes.specs.declared.Step.{Step}
use Rattle.lanes.specs.Lanes.{Low, lists_of, checks_of, bits_of}
use Rattle.lanes.specs.Tiles.{Ready}
use Rattle.plan.specs.Order.{Settling, Joined, Peeled, Listed}
use Rattle.plan.specs.Plan.{Plans}
use Rattle.plan.proofs.Planning.{plan_works}
use Rattle.plan.proofs.Ordering.{settling_first}
use Rattle.plan.proofs.Aloning.{listed_none}
use Rattle.lanes.specs.Lanes.{mending, contradicted}

-- a bit of a set that has none from N on
in_short : (N : ℕ) (e : ℕ → Bool) → Short N e → (b : ℕ) → e b ≡ true → b < N
in_short N e S b q = elim (dec_lt b N) [ yes l ↦ l | no l ↦ absurd (true≢false (sym q ∙ S.none b (omega arith))) ]

module _ (h : Matrix) (N M W : ℕ) (few : N ≤ 512) (wide : W ≤ 8) (room : N ≤ W * 64) (e : ℕ → Bool) (short : Short N e) (es cs bs : List ℕ) (s : ℕ) (skip : ℕ → Bool) (P : Peeled h (W * 64) M e (lent 8 es 0) cs bs s skip)
    (g k : Matrix) (L r : ℕ) (piv : List ℕ) (G : Gathered h g (W * 64) M (lent 8 es 0) L) (R : Reduction g k (W * 64) L (lent W es 0) (W * 64) r piv)
    (ls : List ℕ) (same : ls ≡ es) (left : ℕ → Bool) (ds ps : List ℕ) (t : ℕ) (T : Listed k (W * 64) (lent W es 0) piv r (lent 8 ls 0) left ds ps t) where
  low : Low r N piv
  low = record {
    low = λ c l. in_short N e short (get_or piv c 0) (P.settling.order.within (get_or piv c 0)
        (sym (narrow W 8 wide es (get_or piv c 0) (R.form.low c l)) ∙ R.form.among c l));
  }

  pub ready_made : Ready N M (lists_of cs bs s skip r L ds ps t)
  ready_made = record {
    checks = P.settling.order.checks;
    bits = record { low = λ i l. in_short N e short (get_or bs i 0) (P.settling.order.lost i l) };
    rows = record { low = λ i l. omega (arith, T.rows.low i l, R.form.few) };
    pivots = T.bits N low;
    first = R.form.few;
  }

  pub plan_made : Plans h N M e left (mending h k (W * 64) (lists_of cs bs s skip r L ds ps t)) (contradicted h k (W * 64) M (lists_of cs bs s skip r L ds ps t))
  plan_made =
      plan_works h N M W few wide room e short.none es P.done (lists_of cs bs s skip r L ds ps t) P.settling P.joined g k piv G R left
      (rw same at T) (λ c. refl)

-- nothing is left: there are no rows
module _ (h : Matrix) (B M : ℕ) (few : B ≤ 512) (e : ℕ → Bool) (empty : count 512 e ≡ 0) (g : Matrix) (ew : ℕ → Bool) where
  no_row : (c : ℕ) → inside h B c e ≡ 0
  unfolding inside
  no_row c = omega (arith, empty, count_le B (λ b. h c b && e b) e (λ b l q. ((and-eq-true_iff (h c b) (e b)).0 q).1), count_mono B 512 e few)

  pub gathered_empty : Gathered h g B M e 0
  gathered_empty = record { few = omega arith; from = λ d l. absurd (omega arith); all = λ c l n. absurd (n (no_row c)) }

  pub reduction_empty : (piv : List ℕ) → Reduction g g B 0 ew B 0 piv
  reduction_empty piv = record {
    same = λ x. refl;
    form = record {
      few = omega arith;
      low = λ c l. absurd (omega arith);
      among = λ c l. absurd (omega arith);
      rise = λ c d k l. absurd (omega arith);
      own = λ c l. absurd (omega arith);
      alone = λ c d k l. absurd (omega arith);
      first = λ c j k. absurd (omega arith);
      rest = λ c j k l. absurd (omega arith);
    };
  }

module _ (h : Matrix) (N M W : ℕ) (few : N ≤ 512) (wide : W ≤ 8) (room : N ≤ W * 64) (e : ℕ → Bool) (short : Short N e) (es cs bs : List ℕ) (s : ℕ) (skip : ℕ → Bool) (P : Peeled h (W * 64) M e (lent 8 es 0) cs bs s skip)
    (empty : count 512 (lent 8 es 0) ≡ 0) (k : Matrix) where
  pub ready_peeled : Ready N M (lists_of cs bs s skip 0 0 [] [] 0)
  ready_peeled =
      (ready_made h N M W few wide room e short es cs bs s skip P k k 0 0 [] (gathered_empty h (W * 64) M (omega arith) (lent 8 es 0) empty k (lent W es 0))
      (reduction_empty h (W * 64) M (omega arith) (lent 8 es 0) empty k (lent W es 0) []) es refl (lent 8 es 0) [] [] 0 (listed_none k (W * 64) (lent W es 0) [] (lent 8 es 0) [] []))

  pub plan_peeled : Plans h N M e (lent 8 es 0) (mending h k (W * 64) (lists_of cs bs s skip 0 0 [] [] 0)) (contradicted h k (W * 64) M (lists_of cs bs s skip 0 0 [] [] 0))
  plan_peeled =
      (plan_made h N M W few wide room e short es cs bs s skip P k k 0 0 [] (gathered_empty h (W * 64) M (omega arith) (lent 8 es 0) empty k (lent W es 0))
      (reduction_empty h (W * 64) M (omega arith) (lent 8 es 0) empty k (lent W es 0) []) es refl (lent 8 es 0) [] [] 0 (listed_none k (W * 64) (lent W es 0) [] (lent 8 es 0) [] []))

-- no more steps are noted than there are bits
module _ (h : Matrix) (B M : ℕ) (e e' : ℕ → Bool) (steps : List Step) (s : ℕ) (done : ℕ → Bool) (room : B ≤ length steps) (S : Settling h B M e e' (checks_of steps) (bits_of steps) s done) where
  pub few_steps : s ≤ length steps
  few_steps = omega (arith, S.order.fewer, count_bound B e)

  -- they are a list of their own
  pub peeled_first : (skip : ℕ → Bool) → Joined h B M e' done skip → Peeled h B M e e' (checks_of (take s steps)) (bits_of (take s steps)) (length (take s steps)) skip
  peeled_first skip J = rw (length-take-le s steps few_steps) record { done = done; settling = settling_first h B M e e' steps s done S; joined = J }
