-- Placing a message, place by place. Assumes nothing.
use mathlib.Core.Path.{◌≡◌, refl, sym, ap, ◌∙◌}
use mathlib.Core.Bool.{true, false, not, ◌&&◌, and-eq-true_iff, true≢false}
use mathlib.Core.List.{List}
use Prim.Native.Nat.{ℕ, ◌+◌, ◌≤◌, ◌<◌}
use native.Mathlib.Nat.{zero-add}
use native.Mathlib.Numerals.{add-one}
use native.Mathlib.Omega.{arith}
use native.Mathlib.Decide.{ℕ_discrete, dec_lt}
use lib.Dec.{eqb, ltb}
use lib.ListN.{get_or, length, set, length-set}
use lib.Seq.{get_or-set_same, get_or-set_other, ext_get_or}
use borrow.Author.Tests.{eq-eqb, eqb-true, lt-ltb, ltb-true}
use Rattle.parity.specs.Finite.{one, count, sum, list_from}
use Rattle.parity.proofs.Finite.Sums.{is_true, is_false, is, count_suc, count_not, count_mono}
use Rattle.parity.proofs.Finite.Lists.{length_list_from, at_list_from}
use Rattle.elimination.specs.Reduction.{pivot}
use Rattle.elimination.proofs.Reduced.{pivot_at_lem, pivot_of, pivot_count}
use Rattle.message_bits.specs.Placing.{pivot_at, Rising, placed, Placing}

-- a list, by its entries
pub is_list_from : (n : ℕ) (f : ℕ → ℕ) (l : List ℕ) → length l ≡ n → ((b : ℕ) → b < n → get_or l b 0 ≡ f b) → l ≡ list_from 0 n f
is_list_from n f l e h = ext_get_or 0 l (list_from 0 n f) (e ∙ sym (length_list_from 0 n f)) (λ b k.
    let i : b < n = omega arith in
    h b i ∙ sym (at_list_from 0 n f b i ∙ ap f (zero-add b)))

-- placing the message
module _ (n r : ℕ) (pivots : List ℕ) (A : Rising n r pivots) (message : ℕ → ℕ) where
  abbrev at : ℕ → ℕ
  at = pivot_at pivots

  pub place_start : (u : List ℕ) → length u ≡ n → Placing n r pivots message u 0 0 0
  unfolding count sum
  place_start u l = record {
    long = l;
    used = omega arith;
    past = λ c k. absurd (omega arith);
    next = λ c k m. omega arith;
    others = refl;
    done = λ j k. absurd (omega arith);
  }

  pub place_end : (u : List ℕ) (b p q : ℕ) → n ≤ b → Placing n r pivots message u b p q → u ≡ list_from 0 n (placed r pivots message)
  place_end u b p q k P = is_list_from n (placed r pivots message) u P.long (λ j l. P.done j (omega arith))

  others_next : (b : ℕ) → count (b + 1) (λ i. not (pivot r at i)) ≡ count b (λ i. not (pivot r at i)) + one (not (pivot r at b))
  others_next b = rw (add-one b) (count_suc b (λ i. not (pivot r at i)))

  -- the message has a byte for each bit that is no pivot
  pub room : (b : ℕ) → b < n → pivot r at b ≡ false → (L : ℕ) → L + r ≡ n → count b (λ i. not (pivot r at i)) < L
  room b bn q L e =
      let a = count_mono (b + 1) n (λ i. not (pivot r at i)) (omega arith) in
      let o = rw q at (others_next b) in
      omega (arith, count_not n (pivot r at), pivot_count n r at (λ c k. A.low c k) (λ c d k l. A.rise c d k l))

  module _ (u : List ℕ) (b p q : ℕ) (P : Placing n r pivots message u b p q) (bn : b < n) where
    module _ (t : ltb p r && eqb (at p) b ≡ true) where
      here : (p < r) × (at p ≡ b)
      here = let (t₁, t₂) = (and-eq-true_iff (ltb p r) (eqb (at p) b)).0 t in (ltb-true p r t₁, eqb-true (at p) b t₂)

      is_pivot : pivot r at b ≡ true
      is_pivot = rw (← here.1) (pivot_at_lem r at p here.0)

      pub place_pivot : Placing n r pivots message (set u b 0) (b + 1) (p + 1) q
      unfolding placed
      place_pivot = record {
        long = length-set u b 0 ∙ P.long;
        used = omega (arith, here.0);
        past = λ c k. elim (ℕ_discrete c p) [ yes z ↦ rw z (omega (arith, here.1)) | no z ↦ omega (arith, P.past c (omega arith)) ];
        next = λ c k m. omega (arith, A.rise p c (omega arith) m, here.1);
        others = P.others ∙ omega (arith, rw is_pivot at (others_next b));
        done = λ j k. elim (ℕ_discrete j b) [
          | yes z ↦ rw (z, is_pivot) (get_or-set_same u b 0 0 (rw P.long bn))
          | no z ↦ get_or-set_other u b j 0 0 z ∙ P.done j (omega arith)
        ];
      }

    module _ (t : ltb p r && eqb (at p) b ≡ false) where
      not_here : p < r → at p ≡ b → ⊥
      not_here k e = true≢false (sym (rw (lt-ltb p r k, eq-eqb (at p) b e)) ∙ t)

      no_pivot : pivot r at b ≡ false
      no_pivot = elim (is (pivot r at b)) [
        | is_false z ↦ z
        | is_true z ↦
            let (c, k, e) = pivot_of r at b z in
            absurd (elim (dec_lt c p) [
              | yes l ↦ omega (arith, P.past c l)
              | no l ↦ elim (ℕ_discrete c p) [
                | yes i ↦ not_here (omega arith) (rw i at e)
                | no i ↦ omega (arith, A.rise p c (omega arith) k, P.next p (omega arith) (omega arith))
              ]
            ])
      ]

      pub place_room : (L : ℕ) → L + r ≡ n → q < L
      place_room L e = rw P.others (room b bn no_pivot L e)

      pub place_other : Placing n r pivots message (set u b (message q)) (b + 1) p (q + 1)
      unfolding placed
      place_other = record {
        long = length-set u b _ ∙ P.long;
        used = P.used;
        past = λ c k. omega (arith, P.past c k);
        next = λ c k m. elim (ℕ_discrete c p) [
          | yes z ↦ omega (arith, P.next c k m, not_here (omega arith), ap at z)
          | no z ↦ omega (arith, A.rise p c (omega arith) m, P.next p (omega arith) (omega arith))
        ];
        others = omega (arith, P.others, rw no_pivot at (others_next b));
        done = λ j k. elim (ℕ_discrete j b) [
          | yes z ↦ rw (z, no_pivot, ← P.others) (get_or-set_same u b _ 0 (rw P.long bn))
          | no z ↦ get_or-set_other u b j _ 0 z ∙ P.done j (omega arith)
        ];
      }
