-- An accepted matrix: its ones fit the memory, and no bit from n + k on counts. Assumes nothing.
use mathlib.Core.Path.{◌≡◌, sym, ◌∙◌}
use mathlib.Core.Bool.{true≢false}
use mathlib.Core.List.{List}
use lib.ListN.{length}
use lib.Ieee.{Float}
use Prim.Native.Nat.{ℕ, zero, suc, ◌+◌, ◌-◌, ◌*◌, ◌<◌, ◌≤◌}
use native.Mathlib.Decide.{dec_lt}
use native.Mathlib.Nat.{add-zero, add-suc}
use native.Mathlib.Omega.{arith}
use Rattle.parity.specs.Finite.{count}
use Rattle.parity.specs.Matrix.{Matrix}
use Rattle.parity.specs.Sound.{Sound}
use Rattle.parity.proofs.Finite.Sums.{count_bound, count_end}
use Rattle.parity.proofs.Matrix.Sound.{sound_rule}
use Rattle.messages.specs.Memory.{start, Laid, Inner, Within}
use Rattle.messages.proofs.Places.{start_zero, start_suc, none_counted}

module _ (h : Matrix) (n m k : ℕ) (S : Sound h n m k) where
  pub inner : (w : List ℕ) (f : List Float) → length w ≡ n + k → length f ≡ n + k → Inner h w f
  inner w f p q = record {
    most = omega (arith, p, S.n120, S.k392);
    same = q ∙ sym p;
    below = λ d a e. elim (dec_lt a (n + k)) [ yes l ↦ omega (arith, p) | no l ↦ absurd (true≢false (sym e ∙ S.clean.bits d a (omega arith))) ];
  }

  -- given checks have at most 512 ones, and added ones three
  given_room : (c : ℕ) → c ≤ m → start h 512 c ≤ 512 * c
  given_room zero l = omega (arith, start_zero h 512)
  given_room (suc c) l = omega (arith, start_suc h 512 c, given_room c (omega arith), count_bound 512 (h c))

  added_three : (j : ℕ) → j < k → count 512 (h (m + j)) ≡ 3
  added_three j l = count_end (n + k) 512 (h (m + j)) (omega (arith, S.n120, S.k392)) (λ b i q. S.clean.bits (m + j) b i) ∙ (sound_rule h n m k j S l).all3

  added_room : (j : ℕ) → j ≤ k → start h 512 (m + j) ≤ 512 * m + 3 * j
  added_room zero l = rw (add-zero m) (omega (arith, given_room m (omega arith)))
  added_room (suc j) l = rw (add-suc m j) (omega (arith, start_suc h 512 (m + j), added_room j (omega arith), added_three j (omega arith)))

  -- the checks after them have none
  after_none : (j : ℕ) → start h 512 (m + k + j) ≡ start h 512 (m + k)
  after_none zero = rw (add-zero (m + k))
  after_none (suc j) =
      let e = count_end 0 512 (h (m + k + j)) (omega arith) (λ b i q. S.clean.checks (m + k + j) b (omega arith)) in
      rw (add-suc (m + k) j) (omega (arith, start_suc h 512 (m + k + j), after_none j, e, none_counted (h (m + k + j))))

  -- at most 62,616 messages
  room : start h 512 512 ≤ 65024
  room =
      let e : m + k + (512 - (m + k)) ≡ 512 = omega (arith, S.m120, S.k392) in
      let q = rw e at (after_none (512 - (m + k))) in
      omega (arith, q, added_room k (omega arith), S.m120, S.k392)

  pub laid : (ws : List ℕ) (ts : List ℕ) (xs : List Float) → length ws ≡ 4096 → length ts ≡ 65536 → length xs ≡ 65536 → Laid ws h ts xs
  laid ws ts xs p q r = record { words = p; memory = record { tags = q; values = r }; room = room }

  pub within : Within h (m + k)
  within = record { most = omega (arith, S.m120, S.k392); after = λ d a l. S.clean.checks d a l }
