-- The four numbers of M-100, from sets of bits. Assumes nothing.
use mathlib.Core.Path.{◌≡◌, sym, ◌∙◌}
use mathlib.Core.Bool.{Bool, true, false, not, ◌&&◌, false≢true}
use mathlib.Core.List.{[], ◌∷◌}
use Prim.Native.Nat.{ℕ, ◌+◌, ◌-◌, ◌≤◌, ◌<◌}
use native.Mathlib.Omega.{arith}
use Rattle.parity.specs.Finite.{count}
use Rattle.parity.specs.Words.{erased, within, recovered, losses}
use Rattle.parity.proofs.Finite.Sums.{is_true, is_false, is, count_cong, count_part, count_end}
use Rattle.parity.proofs.Words.Residue.{withins}
use Rattle.sets.specs.Losses.{set_losses}

-- by the sizes of the set s of lost bits and of the set t of those that are left
module _ (N n : ℕ) (s t : ℕ → Bool) (few : n ≤ N) (part : within N t s ≡ true) (bs ba ls la : ℕ) (sent : bs ≡ count n s) (added : ba ≡ count (N - n) (λ j. s (n + j)))
    (sent' : ls ≡ count n t) (added' : la ≡ count (N - n) (λ j. t (n + j))) where
  sent_part : count n (λ b. s b && not (t b)) + count n t ≡ count n s
  sent_part = count_part n s t (λ b l. (withins N t s).0 part b (omega arith))

  added_part : count (N - n) (λ j. s (n + j) && not (t (n + j))) + count (N - n) (λ j. t (n + j)) ≡ count (N - n) (λ j. s (n + j))
  added_part = count_part (N - n) (λ j. s (n + j)) (λ j. t (n + j)) (λ j l. (withins N t s).0 part (n + j) (omega arith))

  pub fewer_left : (ls ≤ bs) × (la ≤ ba)
  fewer_left = (omega (arith, sent_part), omega (arith, added_part))

  pub losses_sizes : (bs - ls) ∷ (ba - la) ∷ ls ∷ la ∷ [] ≡ set_losses n (N - n) s t
  unfolding set_losses
  losses_sizes =
      let e₁ : bs - ls ≡ count n (λ b. s b && not (t b)) = omega (arith, sent_part) in
      let e₂ : ba - la ≡ count (N - n) (λ j. s (n + j) && not (t (n + j))) = omega (arith, added_part) in
      cc

-- of a word before, whose erased bits are s, no others among N, and a word after, whose erased bits are t
module _ (N n k : ℕ) (before after : ℕ → ℕ) (s t : ℕ → Bool) (few : n + k ≤ N) (part : within N t s ≡ true) (short : (b : ℕ) → n + k ≤ b → s b ≡ false)
    (is-s : (b : ℕ) → b < n + k → erased before b ≡ s b) (is-t : (b : ℕ) → b < n + k → erased after b ≡ t b) where
  short_left : (b : ℕ) → n + k ≤ b → b < N → t b ≡ false
  short_left b l m = elim (is (t b)) [ is_false q ↦ q | is_true q ↦ absurd (false≢true (sym (short b l) ∙ (withins N t s).0 part b m q)) ]

  pub losses_sets : losses n k before after ≡ set_losses n (N - n) s t
  unfolding losses recovered set_losses
  losses_sets =
      let f = count_cong n {p = λ b. erased before b && not (erased after b)} {q = λ b. s b && not (t b)} (λ b l. rw (is-s b (omega arith), is-t b (omega arith))) in
      let g = count_cong k {p = λ j. erased before (n + j) && not (erased after (n + j))} {q = λ j. s (n + j) && not (t (n + j))} (λ j l. rw (is-s (n + j) (omega arith), is-t (n + j) (omega arith)))
      ∙ sym (count_end k (N - n) (λ j. s (n + j) && not (t (n + j))) (omega arith) (λ j l m. rw (short (n + j) (omega arith)))) in
      let c = count_cong n {p = erased after} {q = t} (λ b l. is-t b (omega arith)) in
      let d = count_cong k {p = λ j. erased after (n + j)} {q = λ j. t (n + j)} (λ j l. is-t (n + j) (omega arith))
      ∙ sym (count_end k (N - n) (λ j. t (n + j)) (omega arith) (λ j l m. short_left (n + j) (omega arith) (omega arith))) in
      cc
