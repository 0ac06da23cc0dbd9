-- What elimination in the residue's bits comes to: a contradiction, or the word that the checks determine. Assumes nothing.
use mathlib.Core.Path.{◌≡◌, refl, sym, ap, ◌∙◌}
use mathlib.Core.Logic.{◌↔◌}
use mathlib.Core.Bool.{Bool, true, false, not, ◌&&◌, and-true, and-false, or-false, and-eq-true_iff, true≢false, false≢true}
use mathlib.Core.List.{List}
use Prim.Native.Nat.{ℕ, ◌+◌, ◌*◌, ◌%◌, ◌≤◌, ◌<◌}
use native.Mathlib.Nat.{mul-le-mul_right}
use native.Mathlib.Omega.{arith}
use native.Mathlib.Decide.{ℕ_discrete, dec_lt}
use lib.Dec.{eqb}
use lib.ListN.{get_or}
use borrow.Author.Tests.{eq-eqb, ne_eqb, eqb-true, eqb-false, lt-ltb, le-ltb, not-false}
use Rattle.parity.specs.Finite.{one, count, any}
use Rattle.parity.specs.Matrix.{Matrix, lent}
use Rattle.parity.specs.Words.{erased, is_one, inside, odd}
use Rattle.parity.specs.Determining.{some_agrees, determined}
use Rattle.parity.proofs.Finite.Bools.{or_false_both, or_else}
use Rattle.parity.proofs.Finite.Sums.{Is, is_true, is_false, is, all_at, all_not, any_of, any_at, count_pos, count_cong, sum_zero}
use Rattle.parity.proofs.Matrix.Lent.{lent_out}
use Rattle.parity.proofs.Words.Residue.{outside}
use Rattle.parity.proofs.Words.Sets.{inside_below}
use Rattle.parity.proofs.Words.Agreeing.{Agree, some_of, none_of, known_value, some_same, determined_same}
use Rattle.result.specs.Result.{held, agreeing}
use Rattle.sets.proofs.Short.{inside_short}
use Rattle.result.proofs.Word.{erased_held, ones_held}
use Rattle.elimination.specs.Reduction.{Reduced, Reduction, pivot}
use Rattle.elimination.proofs.Clearing.{same_at}
use Rattle.elimination.proofs.Turns.{reduced_in, reduction_below}
use Rattle.elimination.proofs.Reduced.{pivot_at_lem, pivot_of, the_row}
use Rattle.pivots.specs.Pivots.{EvenFrom, alone, alone_odd, PivotsWritten, Low}
use Rattle.residue.specs.Rows.{Copied, Gathered}
use Rattle.residue.specs.Sets.{Apart, Posed, Determined, Eliminated}
use Rattle.residue.proofs.Gathering.{narrow}
use Rattle.residue.proofs.Reading.{inside_in, consistent, some_agrees_lem, at_pivot, at_free, at_bound}

module _ (h : Matrix) (N M : ℕ) (e o : ℕ → Bool) (few : N ≤ 512) (A : Apart N e o) where
  -- the word that the sets hold
  abbrev u : ℕ → ℕ
  u = held e o

  is_erased_lem : (b : ℕ) → erased u b ≡ e b
  is_erased_lem b = ap (λ (s : ℕ → Bool). s b) (erased_held e o)

  is_one_lem : (b : ℕ) → is_one u b ≡ o b
  is_one_lem b = ap (λ (s : ℕ → Bool). s b) (ones_held e o A.apart)

  -- no codeword agrees
  pub refused : some_agrees h N M u ≡ false → (l v : ℕ → Bool) → ((b : ℕ) → l b ≡ true → e b ≡ true) → Determined h N M e o false l v
  refused q l v f = record { told = sym q; word = λ t. absurd (false≢true t); fewer = f }

  -- A check that contains no erased bit counts the known ones of every codeword that agrees.
  untouched : (c : ℕ) → inside h 512 c e ≡ 0 → (y : ℕ → Bool) → ((b : ℕ) → b < N → erased u b ≡ false → y b ≡ is_one u b) → inside h N c y ≡ inside h 512 c o
  untouched c z y f =
      inside_in h N c y o (λ b k p. f b k (is_erased_lem b ∙ outside h 512 c e z b (omega arith) p) ∙ is_one_lem b)
      ∙ sym (inside_short h 512 N c o few A.short_o)

  -- one that is uneven is a contradiction
  pub uneven_none : agreeing h 512 M e o ≡ false → some_agrees h N M u ≡ false
  unfolding agreeing
  uneven_none q = none_of h N M u (λ y a.
      let (c, k, f) = all_not M _ q in
      let (f₁, f₂) = or_false_both (not (eqb (inside h 512 c e) 0)) (eqb (inside h 512 c o % 2) 0) f in
      let z = eqb-true (inside h 512 c e) 0 (not-false (eqb (inside h 512 c e) 0) f₁) in
      eqb-false (inside h 512 c o % 2) 0 f₂ (ap (◌% 2) (sym (untouched c z y a.known)) ∙ a.even c k))

  module _ (t : agreeing h 512 M e o ≡ true) where
    even_at : (c : ℕ) → c < M → inside h 512 c e ≡ 0 → inside h 512 c o % 2 ≡ 0
    unfolding agreeing
    even_at c k z = eqb-true (inside h 512 c o % 2) 0 (or_else (not (eqb (inside h 512 c e) 0)) _ (all_at M _ t c k) (rw (eq-eqb (inside h 512 c e) 0 z)))

    -- no bit is erased: the word is a codeword
    pub all_known : count 512 e ≡ 0 → Determined h N M e o true e o
    all_known z = record {
      told = sym some;
      word = λ q b k. rw (none b (omega arith)) (sym (known_value h N M u some b k (is_erased_lem b ∙ none b (omega arith)) ∙ ap one (is_one_lem b)));
      fewer = λ b q. q;
    }
      where
        none : (b : ℕ) → b < 512 → e b ≡ false
        none b k = elim (is (e b)) [ is_false q ↦ q | is_true q ↦ absurd (omega (arith, count_pos 512 e b k q)) ]

        empty : (c : ℕ) → inside h 512 c e ≡ 0
        empty c = unfold inside in count_cong 512 (λ b k. rw (none b k, and-false)) ∙ zeros
          where
            zeros : count 512 (λ b. false) ≡ 0
            zeros = unfold count in sum_zero 512 (λ b k. refl)

        some : some_agrees h N M u ≡ true
        some = some_of h N M u (is_one u) record {
          even = λ c k. rw (untouched c (empty c) (is_one u) (λ b l q. refl)) (even_at c k (empty c));
          known = λ b k q. refl;
        }

    -- The rows g are the checks that touch the residue; k are the rows reduced; ew and ow are the sets as far as the B bits of a row.
    module _ (g k : Matrix) (B L r : ℕ) (at : List ℕ) (ew ow : ℕ → Bool) (room : N ≤ B) (most : B ≤ 512)
        (same-e : (b : ℕ) → b < B → ew b ≡ e b) (same-o : (b : ℕ) → b < B → ow b ≡ o b) (out-e : (b : ℕ) → B ≤ b → ew b ≡ false) (out_o : (b : ℕ) → B ≤ b → ow b ≡ false)
        (G : Gathered h g B M e L) (R : Reduction g k B L ew B r at) where
      copied : (c d : ℕ) → Copied h g B c d → (y : ℕ → Bool) → inside g N d y ≡ inside h N c y
      copied c d C y = unfold inside in count_cong N (λ b l. rw (C.same b (omega arith)))

      -- the same codewords agree by the gathered checks
      gathered_agree : (y : ℕ → Bool) → Agree h N M u y ↔ Agree g N L u y
      gathered_agree y = (
        λ a. record { even = λ d l. let (c, i, C) = G.from d l in rw (copied c d C y) (a.even c i); known = a.known },
        λ a. record {
          even = λ c l. elim (ℕ_discrete (inside h 512 c e) 0) [
            | yes z ↦ rw (untouched c z y a.known) (even_at c l z)
            | no z ↦ let (d, i, C) = G.all c l (λ q. z (inside_short h 512 B c e most (λ b j. A.short_e b (omega arith)) ∙ q)) in rw (← copied c d C y) (a.even d i)
          ];
          known = a.known;
        },
      )

      short_e : (b : ℕ) → N ≤ b → ew b ≡ false
      short_e b l = elim (dec_lt b B) [ yes q ↦ same-e b q ∙ A.short_e b l | no q ↦ out-e b (omega arith) ]

      short_o : (b : ℕ) → N ≤ b → ow b ≡ false
      short_o b l = elim (dec_lt b B) [ yes q ↦ same-o b q ∙ A.short_o b l | no q ↦ out_o b (omega arith) ]

      R' : Reduction g k N L ew N r at
      R' = reduction_below g k B L ew N r at room short_e R

      abbrev at' : ℕ → ℕ
      at' c = get_or at c 0

      F : Reduced k L (erased u) N r at'
      F = reduced_in k L ew (erased u) N r at' (λ j l. same-e j (omega arith) ∙ sym (is_erased_lem j)) R'.form

      -- and by the reduced ones
      reduced_agree : (y : ℕ → Bool) → Agree h N M u y ↔ Agree k N L u y
      reduced_agree y = (
        λ a. let d = (gathered_agree y).0 a in record { even = (same_at g k N L R'.same y).0 d.even; known = d.known },
        λ a. (gathered_agree y).1 record { even = (same_at g k N L R'.same y).1 a.even; known = a.known },
      )

      inside_e : (c : ℕ) → inside k B c ew ≡ inside k N c (erased u)
      inside_e c = inside_below k B N c ew (erased u) room (λ b. elim (dec_lt b N) [
        | yes l ↦ rw (lt-ltb b N l, is_erased_lem b) (same-e b (omega arith))
        | no l ↦ rw (le-ltb b N (omega arith)) (short_e b (omega arith))
      ])

      inside_o : (c : ℕ) → inside k B c ow ≡ inside k N c (is_one u)
      inside_o c = inside_below k B N c ow (is_one u) room (λ b. elim (dec_lt b N) [
        | yes l ↦ rw (lt-ltb b N l, is_one_lem b) (same-o b (omega arith))
        | no l ↦ rw (le-ltb b N (omega arith)) (short_o b (omega arith))
      ])

      -- an uneven row without a pivot is a contradiction
      pub eliminated_none : EvenFrom k B r L ow false → some_agrees h N M u ≡ false
      eliminated_none E = none_of h N M u (λ y a.
          let (c, i, l, d) = E.uneven refl in
          d (ap (◌% 2) (inside_o c) ∙ consistent k N L u r at' F y ((reduced_agree y).0 a) c i l))

      -- of the checks below r, just one has a given pivot
      at_one : (p : ℕ → Bool) (c : ℕ) → c < r → any r (λ d. eqb (at' d) (at' c) && p d) ≡ p c
      at_one p c l = elim (is (p c)) [
        | is_true q ↦ any_of r _ c l (rw (eq-eqb (at' c) (at' c) refl) q) ∙ sym q
        | is_false q ↦ elim (is (any r (λ d. eqb (at' d) (at' c) && p d))) [
          | is_false s ↦ s ∙ sym q
          | is_true s ↦
              let (d, i, v) = any_at r (λ d. eqb (at' d) (at' c) && p d) s in
              let (v₁, v₂) = (and-eq-true_iff (eqb (at' d) (at' c)) (p d)).0 v in
              s ∙ sym (rw (the_row k N L (erased u) r at' F d c i l (eqb-true (at' d) (at' c) v₁)) at v₂)
        ]
      ]

      at_none : (p : ℕ → Bool) (b : ℕ) → pivot r at' b ≡ false → any r (λ d. eqb (at' d) b && p d) ≡ false
      at_none p b q = elim (is (any r (λ d. eqb (at' d) b && p d))) [
        | is_false s ↦ s
        | is_true s ↦
            let (d, i, v) = any_at r (λ d. eqb (at' d) b && p d) s in
            let (v₁, v₂) = (and-eq-true_iff (eqb (at' d) b) (p d)).0 v in
            absurd (true≢false (sym (rw (eqb-true (at' d) b v₁) at (pivot_at_lem r at' d i)) ∙ q))
      ]

      module _ (E : EvenFrom k B r L ow true) (l v : ℕ → Bool) (P : PivotsWritten k B ew ow at r e o l v) where
        T : (c : ℕ) → r ≤ c → c < L → inside k N c (is_one u) % 2 ≡ 0
        T c i j = ap (◌% 2) (sym (inside_o c)) ∙ E.even refl c i j

        -- a bit that is no pivot
        other : (b : ℕ) → b < N → pivot r at' b ≡ false → held l v b ≡ determined k N L u b
        other b i q =
            rw (P.left b, P.value b, at_none (alone k B ew) b q, at_none (alone_odd k B ew ow) b q, and-true, or-false) (elim (is (e b)) [
              | is_true p ↦ rw p (sym (at_free k N L u r at' F T b i (is_erased_lem b ∙ p) q))
              | is_false p ↦ rw p (sym (known_value k N L u (some_agrees_lem k N L u r at' F T) b i (is_erased_lem b ∙ p) ∙ ap one (is_one_lem b)))
            ])

        -- a pivot
        own : (c : ℕ) → c < r → held l v (at' c) ≡ determined k N L u (at' c)
        own c i =
            let p : e (at' c) ≡ true = sym (is_erased_lem (at' c)) ∙ F.among c i in
            rw (P.left (at' c), P.value (at' c), at_one (alone k B ew) c i, at_one (alone_odd k B ew ow) c i, p, A.apart (at' c) p) (elim (ℕ_discrete (inside k B c ew) 1) [
              | yes q ↦ rw (eq-eqb (inside k B c ew) 1 q) (sym (at_pivot k N L u r at' F T c i (sym (inside_e c) ∙ q) ∙ ap (λ (s : ℕ). one (odd s)) (sym (inside_o c))))
              | no q ↦ rw (ne_eqb (inside k B c ew) 1 q) (sym (at_bound k N L u r at' F T c i (λ z. q (inside_e c ∙ z))))
            ])

        pub eliminated_some : Determined h N M e o true l v
        eliminated_some = record {
          told = sym (some_same h k N M L u u reduced_agree ∙ some_agrees_lem k N L u r at' F T);
          word = λ q b i. here b i (is (pivot r at' b)) ∙ ap (λ (f : ℕ → ℕ). f b) (sym (determined_same h k N M L u u reduced_agree));
          fewer = λ b q. ((and-eq-true_iff (e b) _).0 (sym (P.left b) ∙ q)).0;
        }
          where
            here : (b : ℕ) → b < N → Is (pivot r at' b) → held l v b ≡ determined k N L u b
            here b i (is_false q) = other b i q
            here b i (is_true q) = let (c, j, s) = pivot_of r at' b q in rw (← s) (own c j)

-- the words that so many bits take
pub width_few : (N W : ℕ) → W * 64 < N + 64 → N ≤ 512 → W ≤ 8
width_few N W k l = omega arith

-- so many checks of so many words
pub few_words : (a b : ℕ) → a ≤ 512 → b ≤ 8 → a * b ≤ 4096
few_words a b k l = omega (arith, mul-le-mul_right b k)

-- On words: a check and the sets have eight, a row has W.
module _ (ws es os ls vs : List ℕ) (N M W : ℕ) (P : Posed W ws N M es os ls vs) (g k : Matrix) (L r : ℕ) (at : List ℕ)
    (G : Gathered (lent 8 ws) g (W * 64) M (lent 8 es 0) L) (R : Reduction g k (W * 64) L (lent W es 0) (W * 64) r at) where
  most : W * 64 ≤ 512
  most = omega (arith, P.narrow)

  pub rows_low : Low r 512 at
  rows_low = record { low = λ c l. omega (arith, R.form.low c l, most) }

  -- a row without a pivot is uneven
  pub rows_none : EvenFrom k (W * 64) r L (lent W os 0) false → Eliminated ws N M es os false ls vs
  rows_none E =
      refused (lent 8 ws) N M (lent 8 es 0) (lent 8 os 0) P.given.bits P.given.apart
      (eliminated_none (lent 8 ws) N M (lent 8 es 0) (lent 8 os 0) P.given.bits P.given.apart P.even g k (W * 64) L r at (lent W es 0) (lent W os 0) P.wide most (narrow W 8 P.narrow es) (narrow W 8 P.narrow os) (lent_out W es 0) (lent_out W os 0) G R E)
      (lent 8 ls 0) (lent 8 vs 0) (λ b q. rw P.given.left at q)

  -- all are even, and pivots are written
  pub rows_some : EvenFrom k (W * 64) r L (lent W os 0) true → (l' v' : ℕ → Bool)
      → PivotsWritten k (W * 64) (lent W es 0) (lent W os 0) at r (lent 8 ls 0) (lent 8 vs 0) l' v' → Determined (lent 8 ws) N M (lent 8 es 0) (lent 8 os 0) true l' v'
  rows_some E l' v' Q =
      eliminated_some (lent 8 ws) N M (lent 8 es 0) (lent 8 os 0) P.given.bits P.given.apart P.even g k (W * 64) L r at (lent W es 0) (lent W os 0) P.wide most (narrow W 8 P.narrow es) (narrow W 8 P.narrow os) (lent_out W es 0) (lent_out W os 0) G R
      E l' v' (rw (P.given.left, P.given.values) at Q)
