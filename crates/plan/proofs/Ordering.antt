-- Steps that are noted for every set of ones at once. Assumes nothing.
use mathlib.Core.Path.{◌≡◌, refl, sym, ap, ◌∙◌, fun_ext}
use mathlib.Core.Bool.{Bool, true, false, not, ◌&&◌, ◌||◌, and-true, and-false, or-true, or-false, and-eq-true_iff, true≢false, false≢true}
use mathlib.Core.List.{List}
use Prim.Native.Nat.{ℕ, zero, suc, ◌+◌, ◌%◌, ◌≤◌, ◌<◌}
use native.Mathlib.Numerals.{add-one}
use native.Mathlib.Omega.{arith}
use native.Mathlib.Decide.{ℕ_discrete, dec_lt}
use lib.Dec.{eqb}
use lib.ListN.{get_or, length, take}
use lib.Seq.{get_or-set_same, get_or-set_other}
use borrow.Author.Tests.{eq-eqb, ne_eqb, lt-ltb, le-ltb}
use Rattle.parity.specs.Finite.{one, count}
use Rattle.parity.specs.Matrix.{Matrix, put}
use Rattle.parity.specs.Words.{inside, odd}
use Rattle.parity.proofs.Finite.Sums.{is_true, is_false, is, sum_point, count_cong, below_next}
use Rattle.parity.proofs.Matrix.Lent.{put_here, put_place}
use Rattle.parity.proofs.Words.Extend.{odd_added}
use Rattle.parity.proofs.Words.Residue.{outside, inside_le}
use Rattle.search.specs.Next.{Lone, NoSingle}
use Rattle.search.specs.Live.{Live}
use Rattle.sets.specs.Sets.{Short}
use Rattle.sets.proofs.Short.{inside_short}
use Rattle.steps.specs.Steps.{Solved, start, next}
use Rattle.steps.proofs.Held.{fewer}
use Rattle.steps.proofs.Listing.{live_solved}
use Rattle.rows.specs.Rows.{Empty}
use Rattle.std.proofs.lemmas.List.{length-map, get_or-take}
use Rattle.lanes.proofs.Running.{no_step, check_at, bit_at}
use Rattle.lanes.specs.declared.Step.{Step}
use Rattle.lanes.specs.Lanes.{ran, solved_by, checks_of, bits_of}
use Rattle.plan.specs.Order.{Noted, Free, Even, Ordered, Settling, Joined}

-- what is noted of a step, and of the others
module _ (steps steps' : List Step) (s c b : ℕ) (N : Noted steps steps' s c b) where
  pub noted_check : s < length steps → get_or (checks_of steps') s 0 ≡ c
  noted_check k = rw N.0 (get_or-set_same (checks_of steps) s c 0 (rw (length-map steps (λ (t : Step). t.check)) k))

  pub noted_bit : s < length steps → get_or (bits_of steps') s 0 ≡ b
  noted_bit k = rw N.1 (get_or-set_same (bits_of steps) s b 0 (rw (length-map steps (λ (t : Step). t.bit)) k))

  pub other_checks : (i : ℕ) → i < s → get_or (checks_of steps') i 0 ≡ get_or (checks_of steps) i 0
  other_checks i k = rw N.0 (get_or-set_other (checks_of steps) s i c 0 (λ e. omega arith))

  pub other_bits : (i : ℕ) → i < s → get_or (bits_of steps') i 0 ≡ get_or (bits_of steps) i 0
  other_bits i k = rw N.1 (get_or-set_other (bits_of steps) s i b 0 (λ e. omega arith))

-- only the first s numbers of the lists count
pub ran_same : (h : Matrix) (B : ℕ) (cs bs cs' bs' : List ℕ) (s : ℕ) (o : ℕ → Bool) → ((i : ℕ) → i < s → get_or cs' i 0 ≡ get_or cs i 0)
    → ((i : ℕ) → i < s → get_or bs' i 0 ≡ get_or bs i 0) → ran h B cs' bs' s o ≡ ran h B cs bs s o
unfolding ran
ran_same h B cs bs cs' bs' zero o f g = refl
ran_same h B cs bs cs' bs' (suc s) o f g =
    rw (f s (omega arith), g s (omega arith), ran_same h B cs bs cs' bs' s o (λ i l. f i (omega arith)) (λ i l. g i (omega arith)))

-- the first n steps
module _ (steps : List Step) (n : ℕ) where
  pub first_checks : (i : ℕ) → i < n → get_or (checks_of (take n steps)) i 0 ≡ get_or (checks_of steps) i 0
  first_checks i k = check_at (take n steps) i ∙ rw (get_or-take n steps i no_step k) (sym (check_at steps i))

  pub first_bits : (i : ℕ) → i < n → get_or (bits_of (take n steps)) i 0 ≡ get_or (bits_of steps) i 0
  first_bits i k = bit_at (take n steps) i ∙ rw (get_or-take n steps i no_step k) (sym (bit_at steps i))

-- are an order as they are among all
pub settling_first : (h : Matrix) (B M : ℕ) (e e' : ℕ → Bool) (steps : List Step) (s : ℕ) (done : ℕ → Bool) → Settling h B M e e' (checks_of steps) (bits_of steps) s done
    → Settling h B M e e' (checks_of (take s steps)) (bits_of (take s steps)) s done
settling_first h B M e e' steps s done S =
    let O = S.order in
    let same : (o : ℕ → Bool) → ran h B (checks_of (take s steps)) (bits_of (take s steps)) s o ≡ ran h B (checks_of steps) (bits_of steps) s o =
    λ o. ran_same h B (checks_of steps) (bits_of steps) (checks_of (take s steps)) (bits_of (take s steps)) s o (first_checks steps s) (first_bits steps s) in record {
      order = record {
        checks = record { low = λ i l. rw (first_checks steps s i l) (O.checks.low i l) };
        bits = record { low = λ i l. rw (first_bits steps s i l) (O.bits.low i l) };
        fewer = O.fewer;
        within = O.within;
        lost = λ i l. rw (first_bits steps s i l) (O.lost i l);
        reached = λ o. rw (same o) (O.reached o);
        free = λ o F. rw (same o) (O.free o F);
        even = λ d q. record { gone = (O.even d q).gone; even = λ o F. rw (same o) ((O.even d q).even o F) };
      };
      over = S.over;
    }

-- a set that gains bit b at most, which was not in it
inside_gain : (h : Matrix) (B c b : ℕ) (o : ℕ → Bool) (x : Bool) → b < B → h c b ≡ true → o b ≡ false → inside h B c (λ a. o a || (eqb a b && x)) ≡ inside h B c o + one x
unfolding inside count
inside_gain h B c b o x l t q =
    let p = sum_point B b {f = λ a. one (h c a && (o a || (eqb a b && x)))} {g = λ a. one (h c a && o a)} l (λ a k d. rw (ne_eqb a b d, or-false)) in
    omega (arith, rw (t, q, eq-eqb b b refl) at p)

-- one that the check does not contain
inside_else : (h : Matrix) (B c b : ℕ) (o : ℕ → Bool) (x : Bool) → h c b ≡ false → inside h B c (λ a. o a || (eqb a b && x)) ≡ inside h B c o
unfolding inside
inside_else h B c b o x t = count_cong B (λ a k. elim (ℕ_discrete a b) [ yes q ↦ rw (q, t) | no d ↦ rw (ne_eqb a b d, or-false) ])

-- the bit leaves
inside_loss : (h : Matrix) (B c b : ℕ) (e e' : ℕ → Bool) → b < B → h c b ≡ true → e b ≡ true → ((a : ℕ) → e' a ≡ (e a && not (eqb a b))) → inside h B c e ≡ inside h B c e' + 1
unfolding inside count
inside_loss h B c b e e' l t q f =
    let p = sum_point B b {f = λ a. one (h c a && e a)} {g = λ a. one (h c a && e' a)} l (λ a k d. rw (f a, ne_eqb a b d, and-true)) in
    omega (arith, rw (f b, t, q, eq-eqb b b refl) at p)

even_odd : (s : ℕ) → odd (s + one (odd s)) ≡ false
unfolding odd
even_odd s = let q = odd_added s in ne_eqb ((s + one (odd s)) % 2) 1 (λ z. omega (arith, q))

pub ordered_none : (h : Matrix) (B M : ℕ) (e : ℕ → Bool) (cs bs : List ℕ) (done : Matrix) → Empty done → Ordered h B M e e cs bs 0 (done 0)
unfolding ran
ordered_none h B M e cs bs done E = record {
  checks = record { low = λ i l. absurd (omega arith) };
  bits = record { low = λ i l. absurd (omega arith) };
  fewer = omega arith;
  within = λ a q. q;
  lost = λ i l. absurd (omega arith);
  reached = λ o. start;
  free = λ o F. F;
  even = λ d q. absurd (false≢true (sym (E.at 0 d) ∙ q));
}

module _ (h : Matrix) (B M : ℕ) (e e₁ : ℕ → Bool) (cs bs : List ℕ) (s : ℕ) (done : ℕ → Bool) (O : Ordered h B M e e₁ cs bs s done) (c b : ℕ) (L : Lone h B M e₁ c b)
    (e₂ : ℕ → Bool) (gone : (a : ℕ) → e₂ a ≡ (e₁ a && not (eqb a b))) (cs' bs' : List ℕ) (fc : get_or cs' s 0 ≡ c) (fb : get_or bs' s 0 ≡ b)
    (sc : (i : ℕ) → i < s → get_or cs' i 0 ≡ get_or cs i 0) (sb : (i : ℕ) → i < s → get_or bs' i 0 ≡ get_or bs i 0) where
  -- the set after the step
  step : (o : ℕ → Bool) (a : ℕ) → ran h B cs' bs' (suc s) o a ≡ (ran h B cs bs s o a || (eqb a b && odd (inside h B c (ran h B cs bs s o))))
  unfolding ran solved_by
  step o a = rw (ran_same h B cs bs cs' bs' s o sc sb, fc, fb)

  solves : (o : ℕ → Bool) → Solved h B c b e₁ (ran h B cs bs s o) e₂ (ran h B cs' bs' (suc s) o)
  solves o = record { gone = gone; value = step o }

  left : (a : ℕ) → e₂ a ≡ true → (e₁ a ≡ true) × (not (eqb a b) ≡ true)
  left a q = (and-eq-true_iff (e₁ a) (not (eqb a b))).0 (sym (gone a) ∙ q)

  free₂ : (o : ℕ → Bool) → Free e o → Free e₂ (ran h B cs' bs' (suc s) o)
  free₂ o F = record {
    none = λ a q.
        let (p, r) = left a q in
        step o a ∙ rw ((O.free o F).none a p) (elim (ℕ_discrete a b) [ yes t ↦ absurd (false≢true (rw (eq-eqb a b t) at r)) | no d ↦ rw (ne_eqb a b d) ]);
  }

  inside_step : (o : ℕ → Bool) (d : ℕ) → inside h B d (ran h B cs' bs' (suc s) o) ≡ inside h B d (λ a. ran h B cs bs s o a || (eqb a b && odd (inside h B c (ran h B cs bs s o))))
  inside_step o d = ap (inside h B d) (fun_ext (step o))

  even_own : Even h B e e₂ cs' bs' (suc s) c
  even_own = record {
    gone = omega (arith, L.only, inside_loss h B c b e₁ e₂ L.bit L.has L.gone gone);
    even = λ o F. rw (inside_step o c, inside_gain h B c b (ran h B cs bs s o) (odd (inside h B c (ran h B cs bs s o))) L.bit L.has ((O.free o F).none b L.gone))
        (even_odd (inside h B c (ran h B cs bs s o)));
  }

  even_other : (d : ℕ) → Even h B e e₁ cs bs s d → Even h B e e₂ cs' bs' (suc s) d
  even_other d E =
      let n : h d b ≡ false = elim (is (h d b)) [ is_false q ↦ q | is_true q ↦ absurd (true≢false (sym L.gone ∙ outside h B d e₁ E.gone b L.bit q)) ] in
      record {
        gone = omega (arith, E.gone, inside_le h B d e₂ e₁ (λ a k q. (left a q).0));
        even = λ o F. rw (inside_step o d, inside_else h B d b (ran h B cs bs s o) (odd (inside h B c (ran h B cs bs s o))) n) (E.even o F);
      }

  pub ordered_next : (done' : ℕ → Bool) → ((d : ℕ) → (d ≡ c → ⊥) → done' d ≡ done d) → Ordered h B M e e₂ cs' bs' (s + 1) done'
  ordered_next done' p = rw (add-one s) record {
    checks = record { low = λ i l. elim (ℕ_discrete i s) [ yes q ↦ rw (q, fc) L.check | no d ↦ rw (sc i (omega arith)) (O.checks.low i (omega arith)) ] };
    bits = record { low = λ i l. elim (ℕ_discrete i s) [ yes q ↦ rw (q, fb) L.bit | no d ↦ rw (sb i (omega arith)) (O.bits.low i (omega arith)) ] };
    fewer = omega (arith, O.fewer, fewer h B M c b e₁ (ran h B cs bs s (λ a. false)) e₂ (ran h B cs' bs' (suc s) (λ a. false)) L (solves (λ a. false)));
    within = λ a q. O.within a (left a q).0;
    lost = λ i l. elim (ℕ_discrete i s) [ yes q ↦ rw (q, fb) (O.within b L.gone) | no d ↦ rw (sb i (omega arith)) (O.lost i (omega arith)) ];
    reached = λ o. next (O.reached o) c b L (solves o);
    free = free₂;
    even = λ d q. elim (ℕ_discrete d c) [ yes r ↦ rw r even_own | no r ↦ even_other d (O.even d (sym (p d r) ∙ q)) ];
  }

-- a bit that is taken out of a row
put_out : (b : ℕ) (E E' : Matrix) → E' ≡ put 0 b false E → (a : ℕ) → E' 0 a ≡ (E 0 a && not (eqb a b))
put_out b E E' p a = ap (λ (g : Matrix). g 0 a) p ∙ (elim (ℕ_discrete a b) [
  | yes q ↦ rw (q, eq-eqb b b refl, and-false) (put_here 0 b false E)
  | no d ↦ rw (ne_eqb a b d, and-true) (put_place 0 b false E 0 a d)
])

-- a step that is noted
pub ordered_noted : (h : Matrix) (B M : ℕ) (e : ℕ → Bool) (E E' D D' : Matrix) (steps steps' : List Step) (s c b : ℕ) → Ordered h B M e (E 0) (checks_of steps) (bits_of steps) s (D 0) → Lone h B M (E 0) c b
    → E' ≡ put 0 b false E → D' ≡ put 0 c true D → Noted steps steps' s c b → s < length steps → Ordered h B M e (E' 0) (checks_of steps') (bits_of steps') (s + 1) (D' 0)
ordered_noted h B M e E E' D D' steps steps' s c b O L p q N k =
    ordered_next h B M e (E 0) (checks_of steps) (bits_of steps) s (D 0) O c b L (E' 0) (put_out b E E' p) (checks_of steps') (bits_of steps')
    (noted_check steps steps' s c b N k) (noted_bit steps steps' s c b N k) (other_checks steps steps' s c b N) (other_bits steps steps' s c b N)
    (D' 0) (λ d n. ap (λ (g : Matrix). g 0 d) q ∙ put_place 0 c true D 0 d n)

-- and leaves less to do
pub noted_less : (h : Matrix) (B M : ℕ) (E E' : Matrix) (c b : ℕ) → Lone h B M (E 0) c b → E' ≡ put 0 b false E → count B (E 0) ≡ suc (count B (E' 0))
noted_less h B M E E' c b L p = fewer h B M c b (E 0) (λ a. false) (E' 0) (λ a. false || (eqb a b && odd (inside h B c (λ a. false)))) L record { gone = put_out b E E' p; value = λ a. refl }

-- what the search finds among N bits is among the first B, where none is erased from B on
pub lone_narrow : (h : Matrix) (B N M c b : ℕ) (e : ℕ → Bool) → B ≤ N → Short B e → Lone h N M e c b → Lone h B M e c b
lone_narrow h B N M c b e few f L = record {
  check = L.check;
  bit = elim (dec_lt b B) [ yes l ↦ l | no l ↦ absurd (false≢true (sym (f.none b (omega arith)) ∙ L.gone)) ];
  has = L.has;
  gone = L.gone;
  only = sym (inside_short h N B c e few f.none) ∙ L.only;
}

-- and so is what it does not find
pub single_narrow : (h : Matrix) (B N M from : ℕ) (e : ℕ → Bool) → B ≤ N → Short B e → NoSingle h N M from e → NoSingle h B M from e
single_narrow h B N M from e few f S = record { none = λ c i k q. S.none c i k (inside_short h N B c e few f.none ∙ q) }

-- what a noted step leaves of the erased bits, and of the list of checks
pub short_noted : (B b : ℕ) (E E' : Matrix) → Short B (E 0) → E' ≡ put 0 b false E → Short B (E' 0)
short_noted B b E E' f p = record { none = λ a k. put_out b E E' p a ∙ rw (f.none a k) }

pub live_noted : (h : Matrix) (N M : ℕ) (E E' : Matrix) (c b : ℕ) (l : List ℕ) (k a n : ℕ) → Lone h N M (E 0) c b → E' ≡ put 0 b false E → get_or l a 0 ≡ c → Live h N M (E 0) l k a n
    → Live h N M (E' 0) l k (a + 1) n
live_noted h N M E E' c b l k a n L p =
    live_solved h N M c b (E 0) (λ a. false) (E' 0) (λ a. false || (eqb a b && odd (inside h N c (λ a. false)))) L record { gone = put_out b E E' p; value = λ a. refl } l k a n

-- the checks that have one of the bits
pub joined_none : (h : Matrix) (B : ℕ) (e done : ℕ → Bool) → Joined h B 0 e done done
joined_none h B e done = record { at = λ d. rw (le-ltb d 0 (omega arith), or-false) }

pub joined_next : (h : Matrix) (B c : ℕ) (e done : ℕ → Bool) (D D' : Matrix) → Joined h B c e done (D 0) → not (eqb (inside h B c e) 0) ≡ true → D' ≡ put 0 c true D → Joined h B (c + 1) e done (D' 0)
joined_next h B c e done D D' J t p = record {
  at = λ d. ap (λ (g : Matrix). g 0 d) p ∙ elim (ℕ_discrete d c) [
    | yes q ↦ rw (q, t, lt-ltb c (c + 1) (omega arith), or-true) (put_here 0 c true D)
    | no q ↦ rw (below_next d c q) (put_place 0 c true D 0 d q ∙ J.at d)
  ];
}

pub joined_past : (h : Matrix) (B c : ℕ) (e done done' : ℕ → Bool) → Joined h B c e done done' → not (eqb (inside h B c e) 0) ≡ false → Joined h B (c + 1) e done done'
joined_past h B c e done done' J t = record {
  at = λ d. elim (ℕ_discrete d c) [
    | yes q ↦ rw (q, t, and-false) (J.at c ∙ rw (le-ltb c c (omega arith)))
    | no q ↦ rw (below_next d c q) (J.at d)
  ];
}
