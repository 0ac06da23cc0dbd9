-- The matrices that splits give, and what holds of each of them: the invariant of every list of calls. Assumes nothing.
use mathlib.Core.List.{List}
use mathlib.Core.Path.{◌≡◌, sym, ap, ◌∙◌}
use mathlib.Core.Bool.{Bool}
use Prim.Native.Nat.{ℕ, suc, ◌+◌, ◌-◌, ◌%◌, ◌≤◌, ◌<◌}
use native.Mathlib.Nat.{add-suc, add-zero, add_assoc}
use native.Mathlib.Omega.{arith}
use Rattle.parity.specs.Matrix.{Matrix}
use Rattle.parity.specs.Cycles.{share, pairs, cycles, split_of, taken_back, others, lower_bit, higher_bit, orthogonal}
use Rattle.parity.specs.Words.{inside}
use Rattle.parity.specs.Sound.{Sound}
use Rattle.parity.proofs.Splits.Split.{sum_even, Stops, Even, split_stops, split_even, inside_new, inside_apart}
use Rattle.parity.proofs.Splits.Cycles.{split_cycles}
use Rattle.parity.proofs.Matrix.Rule.{old_apart}
use Rattle.parity.proofs.Matrix.Sound.{sound_rule, split_sound}
use Rattle.parity.proofs.Splits.Pick.{picked}
use Rattle.parity.proofs.Splits.Orthogonal.{keeps}
use Rattle.parity.proofs.Words.Extend.{Added}
use Rattle.parity.proofs.Splits.Back.{split_back, split_others}

-- A matrix with k added bits that splits of the given matrix g give, each of a pair with share two or more at its turn;
-- `total` is the sum of s (s - 1) / 2 over them.
pub data Built (g : Matrix) (n m : ℕ) : Matrix → ℕ → ℕ → Type 0 where
  given : Built g n m g 0 0
  more : {h : Matrix} {k total : ℕ} → Built g n m h k total → (u v : ℕ) → u < n + k → v < n + k → (u ≡ v → ⊥) → 2 ≤ share h (m + k) u v → k < 392
      → Built g n m (split_of h (n + k) (m + k) u v) (suc k) (total + pairs (share h (m + k) u v))

-- What holds of the matrix h with k added bits, of the given matrix g with n bits and m checks, where `carried` is the carried sum.
pub record Good (g : Matrix) (n m : ℕ) (h : Matrix) (k carried : ℕ) : Type 0 where
  pub ok : Sound h n m k
  pub falls : carried + cycles h (n + k) (m + k) ≤ cycles g n m
  pub stops : (s : ℕ → Bool) → Stops h (n + k) (m + k) s → Stops g n m s
  pub evens : (x : ℕ → Bool) → Even g n m x → Added h n m k x → Even h (n + k) (m + k) x
  pub given_even : (x : ℕ → Bool) → Even h (n + k) (m + k) x → Even g n m x

-- What taking back gives is built, and what it takes off is in the total.
pub record Undone (g : Matrix) (n m : ℕ) (h : Matrix) (k total : ℕ) : Type 0 where
  pub built : Built g n m (taken_back h (n + (k - 1)) (m + (k - 1))) (k - 1) (total - pairs (others h (n + (k - 1)) (m + (k - 1))))
  pub enough : pairs (others h (n + (k - 1)) (m + (k - 1))) ≤ total

module _ (g : Matrix) (n m : ℕ) where
  good_start : Sound g n m 0 → Good g n m g 0 0
  good_start a = record {
    ok = a;
    falls = rw (add-zero n, add-zero m) (omega arith);
    stops = rw (add-zero n, add-zero m) (λ s t. t);
    evens = rw (add-zero n, add-zero m) (λ x t b. t);
    given_even = rw (add-zero n, add-zero m) (λ x t. t);
  }

  module _ (h : Matrix) (k carried u v : ℕ) (G : Good g n m h k carried) (un : u < n + k) (vn : v < n + k) (uv : u ≡ v → ⊥)
      (s2 : 2 ≤ share h (m + k) u v) (k392 : k < 392) where
    -- the added checks of the split matrix: those before, and x's new bit is the sum
    added : (x : ℕ → Bool) → Added (split_of h (n + k) (m + k) u v) n m (suc k) x
        → Added h n m k x × (inside (split_of h (n + k) (m + k) u v) (suc (n + k)) (m + k) x % 2 ≡ 0)
    added x t = (
      λ j l.
          let r = sound_rule h n m k j G.ok l in
          let e = inside_apart h (n + k) (m + k) u v un vn uv x (m + j) (λ q. omega arith) (old_apart h n m k u v un vn uv s2 j r) in
          sym (ap (◌% 2) e) ∙ (rw (add-suc n k) at (t j (omega arith))),
      rw (add-suc n k) at (t k (omega arith)),
    )

    good_split : Good g n m (split_of h (n + k) (m + k) u v) (suc k) (carried + pairs (share h (m + k) u v))
    good_split = record {
      ok = split_sound h n m k u v G.ok un vn uv s2 k392;
      falls = rw (add-suc n k, add-suc m k) (omega (arith, split_cycles h (n + k) (m + k) u v un vn uv, G.falls));
      stops = rw (add-suc n k, add-suc m k) (λ s t. G.stops s (split_stops h (n + k) (m + k) u v un vn uv s t));
      evens = λ x e a. rw (add-suc n k, add-suc m k) (let (a₁, a₂) = added x a in
          (split_even h (n + k) (m + k) u v un vn uv x).1 (G.evens x e a₁, (sum_even (x u) (x v) (x (n + k))).1 (rw (inside_new h (n + k) (m + k) u v un vn uv x) at a₂)));
      given_even = rw (add-suc n k, add-suc m k) (λ x t. G.given_even x ((split_even h (n + k) (m + k) u v un vn uv x).0 t).0);
    }

  module _ (S : Sound g n m 0) where
    pub good : {h : Matrix} {k total : ℕ} → Built g n m h k total → Good g n m h k total
    good given = good_start S
    good (more {h = h} {k = k} {total = t} B u v un vn uv s l) = good_split h k t u v (good B) un vn uv s l

    -- Orthogonalising splits,
    pub built_orthogonal : (carried turns : ℕ) (h : Matrix) (k splits total : ℕ) (held : List ℕ) → Built g n m h k (carried + total)
        → Built g n m (orthogonal turns h n m k splits total held).matrix (orthogonal turns h n m k splits total held).k (carried + (orthogonal turns h n m k splits total held).sum)
    built_orthogonal carried = keeps n m (λ h k splits total held. Built g n m h k (carried + total)) (λ h k splits total held B t q.
        let (l, r, s) = picked h (n + k) (m + k) (omega arith) in
        rw (← s, ← add_assoc) (more B (lower_bit h (n + k) (m + k)) (higher_bit h (n + k) (m + k)) (omega arith) r (λ e. omega arith) (omega arith) (omega (arith, (good B).ok.k392))))

    -- and taking back undoes the last split.
    pub undone : {h : Matrix} {k total : ℕ} → Built g n m h k total → 0 < k → Undone g n m h k total
    undone given l = absurd (omega arith)
    undone (more {h = h} {k = k} {total = t} B u v un vn uv s l) i =
        let e : suc k - 1 ≡ k = omega arith in
        let p = pairs (share h (m + k) u v) in
        let f : (t + p) - p ≡ t = omega arith in
        record {
          built = rw (e, split_back h (n + k) (m + k) u v un vn (good B).ok.clean, split_others h (n + k) (m + k) u v un vn, f) B;
          enough = rw (e, split_others h (n + k) (m + k) u v un vn) (omega arith);
        }
