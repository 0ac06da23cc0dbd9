-- A bit's sums, one check more at a time. Assumes nothing.
use mathlib.Core.Path.{◌≡◌, refl, sym, ap, ◌∙◌}
use mathlib.Core.List.{List}
use Prim.Native.Nat.{ℕ, ◌+◌, ◌<◌, ◌≤◌}
use native.Mathlib.Decide.{ℕ_discrete}
use native.Mathlib.Omega.{arith}
use native.Mathlib.Numerals.{add-one}
use lib.ListN.{length, set, length-set}
use lib.Seq.{get_or-set_same, get_or-set_other}
use lib.Ieee.{Float, nan}
use Rattle.parity.specs.Soft.{with_next, settled, gathered, bit_sends, byte_for, float_for, message_at, but}
use Rattle.soft.specs.Store.{Holding, Partly}
use Rattle.bit_node.specs.Sums.{every, bit_answer, part_sum, joined_with, settled_of}
use Rattle.parity.specs.declared.Channel.{Channel}
use Rattle.parity.proofs.Soft.Cong.{gathered_cong}
use Rattle.parity.proofs.Soft.Counts.{but_at, but_other}
use Rattle.soft.proofs.Places.{partly_new, message_other, holding_at}

module _ (v : Channel) (f : ℕ → Channel) where
  pub sum_none : (t : ℕ) → part_sum v f 0 t ≡ v
  unfolding part_sum gathered
  sum_none t = refl

  pub sum_other : (n t : ℕ) → (n ≡ t → ⊥) → part_sum v f (n + 1) t ≡ with_next (part_sum v f n t) (f n)
  unfolding part_sum gathered
  sum_other n t m = rw (add-one n, but_other t n m)

  pub sum_at : (n : ℕ) → part_sum v f (n + 1) n ≡ part_sum v f n n
  unfolding part_sum gathered
  sum_at n = rw (add-one n, but_at n)

  -- from n on no place is left out
  pub sum_past : (n t u : ℕ) → n ≤ t → n ≤ u → part_sum v f n t ≡ part_sum v f n u
  unfolding part_sum
  sum_past n t u k l = gathered_cong v n (but t) (but u) f f (λ i m. but_other t i (λ z. omega arith) ∙ sym (but_other u i (λ z. omega arith))) (λ i m. refl)

  pub sum_all_lem : (n : ℕ) → settled (part_sum v f n n) ≡ bit_sends v n every f
  unfolding part_sum bit_sends
  sum_all_lem n = ap settled (gathered_cong v n (but n) every f f (λ i m. but_other n i (λ z. omega arith)) (λ i m. refl))

  pub sum_answer : (n t : ℕ) → settled (part_sum v f n t) ≡ bit_answer v n f t
  unfolding part_sum bit_answer bit_sends
  sum_answer n t = refl

  -- value j is read, joined to the first j, and then replaced by the sum before it
  pub sums_more : (d j : ℕ) → j < d → (ts : List ℕ) (xs : List Float) → Partly d j (part_sum v f j) f ts xs
      → (us : List ℕ) (ys : List Float) → Partly d j (joined_with (message_at ts xs) (f j)) (message_at ts xs) us ys
      → Partly d (j + 1) (part_sum v f (j + 1)) f (set us j (byte_for (part_sum v f j j))) (set ys j (float_for (part_sum v f j j)))
  sums_more d j k ts xs P us ys Q =
      let ku : j < length us = omega (arith, Q.tags) in
      let ky : j < length ys = omega (arith, Q.values) in
      let now-at : (t : ℕ) → t < j → with_next (message_at ts xs t) (f j) ≡ part_sum v f (j + 1) t = λ t l.
      ap (λ w. with_next w (f j)) (partly_new d j (part_sum v f j) f ts xs P t l) ∙ sym (sum_other j t (λ z. omega arith)) in
      record {
        tags = length-set us j _ ∙ Q.tags;
        values = length-set ys j _ ∙ Q.values;
        tag = λ t l. elim (ℕ_discrete t j) [
          | yes z ↦ rw z (get_or-set_same us j _ 0 ku ∙ ap byte_for (sym (sum_at j)))
          | no z ↦ get_or-set_other us j t _ 0 z ∙ Q.tag t (omega arith) ∙ ap byte_for (now-at t (omega arith))
        ];
        value = λ t l. elim (ℕ_discrete t j) [
          | yes z ↦ rw z (get_or-set_same ys j _ nan ky ∙ ap float_for (sym (sum_at j)))
          | no z ↦ get_or-set_other ys j t _ nan z ∙ Q.value t (omega arith) ∙ ap float_for (now-at t (omega arith))
        ];
        rest = λ t a b. message_other us ys j t (byte_for (part_sum v f j j)) (float_for (part_sum v f j j)) (λ z. omega arith) ∙ Q.rest t (omega arith) b ∙ P.rest t (omega arith) b;
      }

  -- one value more at the end
  pub sum_next : (w u : Channel) (j : ℕ) → w ≡ part_sum v f j j → u ≡ f j → with_next w u ≡ part_sum v f (j + 1) (j + 1)
  sum_next w u j e q = rw (e, q) (ap (λ z. with_next z (f j)) (sum_past j j (j + 1) (omega arith) (omega arith)) ∙ sym (sum_other j (j + 1) (λ z. omega arith)))

  -- the sums, settled, are the answers
  pub settled_sums : (d : ℕ) (us : List ℕ) (ys : List Float) → Holding d (part_sum v f d) us ys → (ts : List ℕ) (xs : List Float)
      → Holding (length us) (settled_of (message_at us ys)) ts xs → Holding d (bit_answer v d f) ts xs
  settled_sums d us ys H ts xs K =
      let e : (t : ℕ) → t < d → settled (message_at us ys t) ≡ bit_answer v d f t = λ t k. ap settled (holding_at d (part_sum v f d) us ys H t k) ∙ sum_answer d t in
      record {
        tags = K.tags ∙ H.tags;
        values = K.values ∙ H.tags;
        tag = λ t k. K.tag t (omega (arith, H.tags)) ∙ ap byte_for (e t k);
        value = λ t k. K.value t (omega (arith, H.tags)) ∙ ap float_for (e t k);
      }
