-- What one pass tells of a place's others is what the check sends to it. Assumes nothing.
use mathlib.Core.Path.{◌≡◌, sym, ◌∙◌}
use mathlib.Core.Bool.{Bool, not, cond, ◌&&◌}
use Prim.Native.Nat.{ℕ, ◌<◌}
use native.Mathlib.Decide.{ℕ_discrete}
use native.Mathlib.Omega.{arith}
use lib.Dec.{eqb, ltb}
use borrow.Author.Tests.{eq-eqb, ne_eqb, lt-ltb, le-ltb}
use Rattle.parity.specs.Finite.{one, count, any}
use Rattle.parity.proofs.Finite.Sums.{is_true, is_false, is}
use Rattle.parity.specs.Soft.{is_erased, is_soft, turns_sign, least_soft, turns_odd, check_sends, but}
use Rattle.soft.specs.Store.{Sounds}
use Rattle.check_node.specs.Pass.{seen, answer_to, check_answer}
use Rattle.parity.specs.declared.Channel.{Channel}
use Rattle.parity.proofs.Soft.Counts.{count_but, any_count, all_sure, odd_less}
use Rattle.check_node.proofs.Two.{Least, least_seen, Counted, counted_seen}

module _ (d : ℕ) (f : ℕ → Channel) (S : Sounds d f) (t : ℕ) (k : t < d) where
  C : Counted f d (seen d f d)
  C = counted_seen d f d

  L : Least d f d (seen d f d)
  L = least_seen d f S d (omega arith)

  -- a count that leaves out place t
  others_none : (q : ℕ → Bool) → any d (λ i. but t i && q i) ≡ ltb (one (q t)) (count d q)
  others_none q =
      let e = count_but d t q k in
      any_count d (λ i. but t i && q i) ∙ (elim (ℕ_discrete (count d (λ i. but t i && q i)) 0) [
        | yes z ↦ rw (eq-eqb _ _ z, le-ltb (one (q t)) (count d q) (omega arith))
        | no z ↦ rw (ne_eqb _ _ z, lt-ltb (one (q t)) (count d q) (omega arith))
      ])

  not_below : (q : ℕ → Bool) → not (ltb (one (q t)) (count d q)) ≡ eqb (count d q) (one (q t))
  not_below q =
      let e = count_but d t q k in
      elim (ℕ_discrete (count d q) (one (q t))) [
        | yes z ↦ rw (eq-eqb _ _ z, le-ltb (one (q t)) (count d q) (omega arith))
        | no z ↦ rw (ne_eqb _ _ z, lt-ltb (one (q t)) (count d q) (omega arith))
      ]

  least_is : least_soft d (but t) f ≡ cond (eqb (seen d f d).at t) (seen d f d).next (seen d f d).least
  least_is = elim (ℕ_discrete (seen d f d).at t) [
    | yes z ↦ rw (eq-eqb _ _ z) (rw z at L.other)
    | no z ↦ rw (ne_eqb _ _ z) (L.same t (λ y. z (sym y)))
  ]

  parity_is : turns_odd d (but t) f ≡ cond (turns_sign (f t)) (not (seen d f d).odd) (seen d f d).odd
  unfolding turns_odd
  parity_is = rw C.turned (odd_less _ _ (turns_sign (f t)) (count_but d t (λ i. turns_sign (f i)) k))

  pub check_answer_lem : check_answer d f t ≡ answer_to (seen d f d) t (f t)
  unfolding check_answer check_sends
  check_answer_lem = elim (is (any d (λ i. but t i && is_erased (f i)))) [
    | is_true e ↦ rw (e, C.gone, ← others_none (λ i. is_erased (f i)), e)
    | is_false e ↦
        rw (e, all_sure d (but t) f e, others_none (λ i. is_soft (f i)), not_below (λ i. is_soft (f i)), parity_is, least_is, C.gone, C.soft, ← others_none (λ i. is_erased (f i)), e)
  ]
