-- One pass finds the least_with magnitude and the least_with of the others, and so the least_with of all places but any one. Assumes nothing.
use mathlib.Core.Path.{◌≡◌, refl, sym, ap, ◌∙◌}
use mathlib.Core.Logic.{◌⊎◌, inl, inr}
use mathlib.Core.Bool.{Bool, true, false, not, cond, true≢false, false≢true}
use Prim.Native.Nat.{ℕ, zero, suc, ◌+◌, ◌<◌, ◌≤◌}
use native.Mathlib.Decide.{ℕ_discrete}
use native.Mathlib.Omega.{arith}
use native.Mathlib.Numerals.{add-one}
use lib.Ieee.{Float, nan, inf, fin, lt, neg, is_nan, of_bits}
use Rattle.parity.specs.Finite.{one, count}
use Rattle.parity.specs.Words.{odd}
use Rattle.parity.proofs.Finite.Sums.{is_true, is_false, is, count_suc, count_bound}
use Rattle.parity.specs.Floats.{magnitude, negative, lesser, infinite, finite}
use Rattle.parity.specs.Soft.{is_erased, is_soft, turns_sign, least_with, least_soft, sound, but}
use Rattle.soft.specs.Store.{Sounds}
use Rattle.check_node.specs.Pass.{seen_none, see_size, see_one, seen}
use Rattle.parity.specs.declared.Channel.{Channel}
use Rattle.parity.specs.declared.Channel.TheVariants.{Sure, Soft, Erased}
use Rattle.check_node.specs.declared.Seen.{Seen}
use Rattle.parity.proofs.Soft.Order.{lt_asym, lt_cotrans}
use Rattle.parity.proofs.Soft.Forms.{is_sure_lem, is_soft_lem, is_erased_lem, form}
use Rattle.parity.proofs.Soft.Counts.{but_at, but_other, odd_more}
use Rattle.parity.proofs.Soft.Sound.{finite_number}

neg_number : (x : Float) → finite x ≡ true → is_nan (neg x) ≡ false
unfolding neg is_nan
neg_number nan e = absurd (false≢true e)
neg_number (inf s) e = refl
neg_number (fin s m e) p = refl

pub size_number : (x : Float) → finite x ≡ true → is_nan (magnitude x) ≡ false
size_number x e = elim (is (negative x)) [ is_true q ↦ rw q (neg_number x e) | is_false q ↦ rw q (finite_number x e) ]

infinite_number : is_nan infinite ≡ false
unfolding is_nan of_bits
infinite_number = refl

infinite_not_below : lt infinite infinite ≡ false
unfolding lt of_bits
infinite_not_below = refl

-- What the pass knows after i of d messages of least_with magnitudes.
pub record Least (d : ℕ) (f : ℕ → Channel) (i : ℕ) (s : Seen) : Type 0 where
  pub same : (t : ℕ) → (t ≡ s.at → ⊥) → least_soft i (but t) f ≡ s.least
  pub other : least_soft i (but s.at) f ≡ s.next
  pub order : lt s.next s.least ≡ false
  pub number : is_nan s.least ≡ false
  pub number' : is_nan s.next ≡ false
  pub place : (s.at < i) ⊎ (s.at ≡ d)

least_start : (d : ℕ) (f : ℕ → Channel) → Least d f 0 (seen_none d)
unfolding least_soft
least_start d f = record {
  same = λ t n. refl;
  other = refl;
  order = infinite_not_below;
  number = infinite_number;
  number' = infinite_number;
  place = inr refl;
}

-- one place more
least_at : (i : ℕ) (f : ℕ → Channel) → least_soft (suc i) (but i) f ≡ least_soft i (but i) f
unfolding least_soft
least_at i f = rw (but_at i)

least_other : (i t : ℕ) (f : ℕ → Channel) → (i ≡ t → ⊥) → least_soft (suc i) (but t) f ≡ least_with (least_soft i (but t) f) (f i)
unfolding least_soft
least_other i t f n = rw (but_other t i n)

not_here : (d i : ℕ) (a : ℕ) → i < d → (a < i) ⊎ (a ≡ d) → i ≡ a → ⊥
not_here d i a k (inl l) e = omega arith
not_here d i a k (inr q) e = omega arith

earlier : (d i a : ℕ) → (a < i) ⊎ (a ≡ d) → (a < suc i) ⊎ (a ≡ d)
earlier d i a (inl l) = inl (omega arith)
earlier d i a (inr q) = inr q

module _ (d : ℕ) (f : ℕ → Channel) (i : ℕ) (k : i < d) (s : Seen) (L : Least d f i s) where
  here : i ≡ s.at → ⊥
  here = not_here d i s.at k L.place

  -- a value that is not soft changes nothing
  kept : (r : Seen) → r.least ≡ s.least → r.next ≡ s.next → r.at ≡ s.at → ((a : Float) → least_with a (f i) ≡ a) → Least d f (suc i) r
  kept r e₁ e₂ e₃ q = record {
    same = λ t n. elim (ℕ_discrete i t) [
      | yes z ↦ rw (← z) (least_at i f ∙ L.same i here ∙ sym e₁)
      | no z ↦ least_other i t f z ∙ q _ ∙ L.same t (rw e₃ at n) ∙ sym e₁
    ];
    other = rw (e₃, e₂) (least_other i s.at f here ∙ q _ ∙ L.other);
    order = rw (e₁, e₂) L.order;
    number = rw e₁ L.number;
    number' = rw e₂ L.number';
    place = rw e₃ (earlier d i s.at L.place);
  }

  -- a soft one is the least_with, or the least_with of the others, or neither
  module _ (x : Float) (nx : is_nan x ≡ false) (q : (a : Float) → least_with a (f i) ≡ lesser a x) (flip : Bool) where
    soft : Least d f (suc i) (see_size s i x flip)
    soft = elim (is (lt x s.least)) [
      | is_true e ↦ rw e record {
        same = λ t n. let m : i ≡ t → ⊥ = λ z. n (sym z) in least_other i t f m ∙ q _ ∙ (elim (ℕ_discrete t s.at) [
          | yes z ↦ rw (z, L.other, lt_cotrans_next e)
          | no z ↦ rw (L.same t z, e)
        ]);
        other = least_at i f ∙ L.same i here;
        order = lt_asym x s.least e;
        number = nx;
        number' = L.number;
        place = inl (omega arith);
      }
      | is_false e ↦ elim (is (lt x s.next)) [
        | is_true g ↦ rw (e, g) record {
          same = λ t n. same' e t n;
          other = least_other i s.at f here ∙ q _ ∙ (rw (L.other, g));
          order = e;
          number = L.number;
          number' = nx;
          place = earlier d i s.at L.place;
        }
        | is_false g ↦ rw (e, g) record {
          same = λ t n. same' e t n;
          other = least_other i s.at f here ∙ q _ ∙ (rw (L.other, g));
          order = L.order;
          number = L.number;
          number' = L.number';
          place = earlier d i s.at L.place;
        }
      ]
    ]
      where
        -- below the least_with is below the next: otherwise the next is below the least_with
        lt_cotrans_next : lt x s.least ≡ true → lt x s.next ≡ true
        lt_cotrans_next e = elim (is (lt x s.next)) [
          | is_true g ↦ g
          | is_false g ↦ absurd (true≢false (sym (lt_cotrans x s.next s.least L.number' e g) ∙ L.order))
        ]

        same' : lt x s.least ≡ false → (t : ℕ) → (t ≡ s.at → ⊥) → least_soft (suc i) (but t) f ≡ s.least
        same' e t n = elim (ℕ_discrete i t) [
          | yes z ↦ rw (← z) (least_at i f ∙ L.same i here)
          | no z ↦ least_other i t f z ∙ q _ ∙ (rw (L.same t n, e))
        ]

  pub least_more : sound (f i) ≡ true → Least d f (suc i) (see_one s i (f i))
  least_more o = elim (form (f i)) [
    | is_sure_lem b e ↦ rw e (kept (see_one s i (Sure b)) refl refl refl (λ a. rw e))
    | is_erased_lem e ↦ rw e (kept (see_one s i Erased) refl refl refl (λ a. rw e))
    | is_soft_lem x e ↦ rw e (soft (magnitude x) (size_number x (rw e at o)) (λ a. rw e) (cond (turns_sign (Soft x)) (not s.odd) s.odd))
  ]

pub least_seen : (d : ℕ) (f : ℕ → Channel) → Sounds d f → (i : ℕ) → i ≤ d → Least d f i (seen d f i)
unfolding seen
least_seen d f S zero k = least_start d f
least_seen d f S (suc i) k = least_more d f i k (seen d f i) (least_seen d f S i (omega arith)) (S.at i k)

-- what it counts
pub record Counted (f : ℕ → Channel) (i : ℕ) (s : Seen) : Type 0 where
  pub gone : s.erased ≡ count i (λ j. is_erased (f j))
  pub soft : s.soft ≡ count i (λ j. is_soft (f j))
  pub turned : s.odd ≡ odd (count i (λ j. turns_sign (f j)))

counted_more : (f : ℕ → Channel) (i : ℕ) (s : Seen) → Counted f i s → Counted f (suc i) (see_one s i (f i))
counted_more f i s C = record {
  gone = erased_one (f i) ∙ (rw (count_suc i (λ j. is_erased (f j))) (ap (λ n. n + one (is_erased (f i))) C.gone));
  soft = soft_one (f i) ∙ (rw (count_suc i (λ j. is_soft (f j))) (ap (λ n. n + one (is_soft (f i))) C.soft));
  turned = odd_one (f i) ∙ (rw (count_suc i (λ j. turns_sign (f j)), odd_more, C.turned));
}
  where
    erased_one : (v : Channel) → (see_one s i v).erased ≡ s.erased + one (is_erased v)
    erased_one (Sure b) = omega arith
    erased_one (Soft x) = elim (is (lt (magnitude x) s.least)) [
      | is_true e ↦ rw e (omega arith)
      | is_false e ↦ elim (is (lt (magnitude x) s.next)) [ is_true g ↦ rw (e, g) (omega arith) | is_false g ↦ rw (e, g) (omega arith) ]
    ]
    erased_one Erased = refl

    soft_one : (v : Channel) → (see_one s i v).soft ≡ s.soft + one (is_soft v)
    soft_one (Sure b) = omega arith
    soft_one (Soft x) = elim (is (lt (magnitude x) s.least)) [
      | is_true e ↦ rw e
      | is_false e ↦ elim (is (lt (magnitude x) s.next)) [ is_true g ↦ rw (e, g) | is_false g ↦ rw (e, g) ]
    ]
    soft_one Erased = omega arith

    odd_one : (v : Channel) → (see_one s i v).odd ≡ cond (turns_sign v) (not s.odd) s.odd
    odd_one (Sure b) = refl
    odd_one (Soft x) = elim (is (lt (magnitude x) s.least)) [
      | is_true e ↦ rw e
      | is_false e ↦ elim (is (lt (magnitude x) s.next)) [ is_true g ↦ rw (e, g) | is_false g ↦ rw (e, g) ]
    ]
    odd_one Erased = refl

pub counted_seen : (d : ℕ) (f : ℕ → Channel) (i : ℕ) → Counted f i (seen d f i)
unfolding seen
counted_seen d f zero = record { gone = unfold count in refl; soft = unfold count in refl; turned = unfold count odd in refl }
counted_seen d f (suc i) = counted_more f i (seen d f i) (counted_seen d f i)

-- the counts are at most the number of messages
pub seen_small : (d : ℕ) (f : ℕ → Channel) (i : ℕ) → ((seen d f i).soft ≤ i) × ((seen d f i).erased ≤ i)
seen_small d f i =
    let C = counted_seen d f i in
    (rw C.soft (count_bound i (λ j. is_soft (f j))), rw C.gone (count_bound i (λ j. is_erased (f j))))

pub seen_next : (d : ℕ) (f : ℕ → Channel) (i : ℕ) → seen d f (i + 1) ≡ see_one (seen d f i) i (f i)
seen_next d f i = rw (add-one i) (unfold seen in refl)

pub seen_none_lem : (d : ℕ) (f : ℕ → Channel) → seen d f 0 ≡ seen_none d
unfolding seen
seen_none_lem d f = refl

-- the counts have room
pub seen_room : (d : ℕ) (f : ℕ → Channel) (i : ℕ) (s : Seen) → s ≡ seen d f i → i < 65536 → (s.soft < 65536) × (s.erased < 65536)
seen_room d f i s e k = rw e (omega (arith, (seen_small d f i).0, (seen_small d f i).1))
