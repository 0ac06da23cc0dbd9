-- Orthogonalising: its turns, what they keep, and how it ends. Assumes nothing.
use mathlib.Core.Path.{◌≡◌, refl, sym, ap, ◌∙◌}
use mathlib.Core.Logic.{◌↔◌}
use mathlib.Core.Bool.{Bool, true, false, true≢false, false≢true}
use mathlib.Core.List.{List}
use Prim.Native.Nat.{ℕ, zero, suc, ◌+◌, ◌≤◌, ◌<◌}
use native.Mathlib.Omega.{arith}
use native.Mathlib.Decide.{ℕ_discrete, dec_lt}
use borrow.Author.Tests.{ne_eqb, lt-ltb, le-ltb}
use Rattle.parity.specs.Matrix.{Matrix}
use Rattle.parity.specs.Cycles.{held_by, pairs, cycles, split_of, largest_share, lower_bit, higher_bit, Orthogonalised, orthogonal}
use Rattle.parity.specs.Sound.{Sound}
use Rattle.parity.proofs.Splits.Pick.{picked, no_cycles, some_cycles}
use Rattle.parity.proofs.Matrix.Sound.{split_sound}

module _ (turns : ℕ) (h : Matrix) (n m k splits total : ℕ) (held : List ℕ) where
  -- no pair has share two or more: it finishes
  pub finishes : largest_share h (n + k) (m + k) < 2
      → orthogonal (suc turns) h n m k splits total held ≡ record { finished = true; splits = splits; sum = total; k = k; held = held; matrix = h }
  unfolding orthogonal
  finishes e = rw (lt-ltb _ _ e, orthogonal)

  -- a pair is left at k = 392: it stops
  pub stops_full : 2 ≤ largest_share h (n + k) (m + k) → k ≡ 392
      → orthogonal (suc turns) h n m k splits total held ≡ record { finished = false; splits = splits; sum = total; k = k; held = held; matrix = h }
  unfolding orthogonal
  stops_full e q =
      let full : ℕ → Orthogonalised = λ x. record { finished = false; splits = splits; sum = total; k = x; held = held; matrix = h } in
      rw (le-ltb _ _ e, q, orthogonal) (ap full q)

  -- else it splits the pair and repeats
  pub repeats : 2 ≤ largest_share h (n + k) (m + k) → (k ≡ 392 → ⊥)
      → orthogonal (suc turns) h n m k splits total held
      ≡ orthogonal turns (split_of h (n + k) (m + k) (lower_bit h (n + k) (m + k)) (higher_bit h (n + k) (m + k))) n m (suc k) (suc splits)
      (total + pairs (largest_share h (n + k) (m + k))) (held_by h (m + k) (lower_bit h (n + k) (m + k)) (higher_bit h (n + k) (m + k)))
  unfolding orthogonal
  repeats e q = rw (le-ltb _ _ e, ne_eqb k 392 q, orthogonal) refl

-- 393 - k turns are enough: more of them change nothing.
pub enough : (n m turns : ℕ) (h : Matrix) (k splits total : ℕ) (held : List ℕ) → k ≤ 392 → 393 ≤ turns + k
    → orthogonal (suc turns) h n m k splits total held ≡ orthogonal turns h n m k splits total held
enough n m zero h k splits total held l e = absurd (omega arith)
enough n m (suc turns) h k splits total held l e =
    elim (dec_lt (largest_share h (n + k) (m + k)) 2) [
      | yes t ↦ finishes (suc turns) h n m k splits total held t ∙ sym (finishes turns h n m k splits total held t)
      | no t ↦ elim (ℕ_discrete k 392) [
        | yes q ↦ stops_full (suc turns) h n m k splits total held (omega arith) q ∙ sym (stops_full turns h n m k splits total held (omega arith) q)
        | no q ↦
            repeats (suc turns) h n m k splits total held (omega arith) q
            ∙ enough n m turns _ (suc k) (suc splits) (total + pairs (largest_share h (n + k) (m + k))) (held_by h (m + k) (lower_bit h (n + k) (m + k)) (higher_bit h (n + k) (m + k))) (omega arith) (omega arith)
            ∙ sym (repeats turns h n m k splits total held (omega arith) q)
      ]
    ]

-- a property of the matrix, k, the splits made, their sum and the checks carried, at what orthogonalising came to
abbrev pub At : (Matrix → ℕ → ℕ → ℕ → List ℕ → Type 0) → Orthogonalised → Type 0
At P o = P o.matrix o.k o.splits o.sum o.held

-- What every split of the chosen pair keeps, orthogonalising keeps.
module _ (n m : ℕ) (P : Matrix → ℕ → ℕ → ℕ → List ℕ → Type 0)
    (step : (h : Matrix) (k splits total : ℕ) (held : List ℕ) → P h k splits total held → 2 ≤ largest_share h (n + k) (m + k) → (k ≡ 392 → ⊥)
    → P (split_of h (n + k) (m + k) (lower_bit h (n + k) (m + k)) (higher_bit h (n + k) (m + k))) (suc k) (suc splits)
    (total + pairs (largest_share h (n + k) (m + k))) (held_by h (m + k) (lower_bit h (n + k) (m + k)) (higher_bit h (n + k) (m + k)))) where
  pub keeps : (turns : ℕ) (h : Matrix) (k splits total : ℕ) (held : List ℕ) → P h k splits total held → At P (orthogonal turns h n m k splits total held)
  keeps zero h k splits total held p = unfold orthogonal in p
  keeps (suc turns) h k splits total held p =
      elim (dec_lt (largest_share h (n + k) (m + k)) 2) [
        | yes l ↦ rw (finishes turns h n m k splits total held l) p
        | no l ↦ elim (ℕ_discrete k 392) [
          | yes q ↦ rw (stops_full turns h n m k splits total held (omega arith) q) p
          | no q ↦ rw (repeats turns h n m k splits total held (omega arith) q)
              (keeps turns _ (suc k) (suc splits) (total + pairs (largest_share h (n + k) (m + k))) (held_by h (m + k) (lower_bit h (n + k) (m + k)) (higher_bit h (n + k) (m + k))) (step h k splits total held p (omega arith) q))
        ]
      ]

-- Orthogonalising keeps acceptance.
pub orthogonal_sound : (n m turns : ℕ) (h : Matrix) (k splits total : ℕ) (held : List ℕ) → Sound h n m k
    → Sound (orthogonal turns h n m k splits total held).matrix n m (orthogonal turns h n m k splits total held).k
orthogonal_sound n m = keeps n m (λ h k splits total held. Sound h n m k) (λ h k splits total held S t q.
    let (l, r, s) = picked h (n + k) (m + k) (omega arith) in
    split_sound h n m k _ _ S (omega arith) r (λ e. omega arith) (omega arith) (omega (arith, S.k392)))

-- How it ends: finished where no pair is left, or at k = 392 with a pair left.
pub record Ends (n m : ℕ) (o : Orthogonalised) : Type 0 where
  pub none_left : o.finished ≡ true → largest_share o.matrix (n + o.k) (m + o.k) < 2
  pub pair_left : o.finished ≡ false → 2 ≤ largest_share o.matrix (n + o.k) (m + o.k)
  pub full : o.finished ≡ false → o.k ≡ 392

pub ends : (n m turns : ℕ) (h : Matrix) (k splits total : ℕ) (held : List ℕ) → k ≤ 392 → turns + k ≡ 393 → Ends n m (orthogonal turns h n m k splits total held)
ends n m zero h k splits total held l e = absurd (omega arith)
ends n m (suc turns) h k splits total held l e =
    elim (dec_lt (largest_share h (n + k) (m + k)) 2) [
      | yes t ↦ rw (finishes turns h n m k splits total held t)
          record { none_left = λ q. t; pair_left = λ q. absurd (true≢false q); full = λ q. absurd (true≢false q) }
      | no t ↦ elim (ℕ_discrete k 392) [
        | yes q ↦ rw (stops_full turns h n m k splits total held (omega arith) q)
            record { none_left = λ r. absurd (false≢true r); pair_left = λ r. omega arith; full = λ r. q }
        | no q ↦ rw (repeats turns h n m k splits total held (omega arith) q) (ends n m turns _ (suc k) (suc splits) _ _ (omega arith) (omega arith))
      ]
    ]

-- It finishes exactly if no four-cycle is left.
pub finished_cycles : (n m : ℕ) (o : Orthogonalised) → Ends n m o → (o.finished ≡ true) ↔ (cycles o.matrix (n + o.k) (m + o.k) ≡ 0)
finished_cycles n m o E = (λ e. no_cycles o.matrix (n + o.k) (m + o.k) (E.none_left e), λ e. go o.finished refl e)
  where
    go : (t : Bool) → o.finished ≡ t → cycles o.matrix (n + o.k) (m + o.k) ≡ 0 → o.finished ≡ true
    go true q e = q
    go false q e = absurd (omega (arith, some_cycles o.matrix (n + o.k) (m + o.k) (E.pair_left q)))
