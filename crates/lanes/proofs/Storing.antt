-- Rows of a tile that are loaded and put back packet by packet. Assumes nothing.
use mathlib.Core.Path.{◌≡◌, refl, ◌∙◌}
use mathlib.Core.Bool.{Bool, true, false, not, cond, ◌&&◌, and-false, true≢false}
use Prim.Native.Nat.{ℕ, ◌+◌, ◌*◌}
use native.Mathlib.Omega.{arith}
use native.Mathlib.Decide.{ℕ_discrete}
use Rattle.parity.specs.Matrix.{Matrix}
use Rattle.lanes.specs.Tiles.{arrived, Taken, Blanked, Loaded, Returned, Stored}

module _ (x : Matrix) (lost : ℕ → Bool) (from count : ℕ) (t : Matrix) where
  pub loaded_none : Loaded x lost from count 0 t t
  loaded_none = record { here = λ b j k. absurd (omega arith); else = λ b j k. refl }

  module _ (n : ℕ) (t₁ t₂ : Matrix) (L : Loaded x lost from count n t t₁) where
    pub loaded_blank : lost n ≡ true → Blanked n t₁ t₂ → Loaded x lost from count (n + 1) t t₂
    unfolding arrived
    loaded_blank e K = record {
      here = λ b j k l. elim (ℕ_discrete b n) [ yes q ↦ rw (q, e) (K.here j) | no d ↦ K.else b j d ∙ L.here b j (omega arith) l ];
      else = λ b j k. K.else b j (λ q. omega arith) ∙ L.else b j (omega arith);
    }

    pub loaded_take : lost n ≡ false → Taken x from count n t₁ t₂ → Loaded x lost from count (n + 1) t t₂
    unfolding arrived
    loaded_take e K = record {
      here = λ b j k l. elim (ℕ_discrete b n) [ yes q ↦ rw (q, e) (K.here j l) | no d ↦ K.else b j d ∙ L.here b j (omega arith) l ];
      else = λ b j k. K.else b j (λ q. omega arith) ∙ L.else b j (omega arith);
    }

module _ (lost left : ℕ → Bool) (from count : ℕ) (t : Matrix) (f : ℕ → Bool) (x : Matrix) where
  pub stored_none : Stored lost left from count 0 t f x x
  stored_none = record { here = λ b j k. absurd (omega arith); before = λ b i k. refl; behind = λ b i k. refl; else = λ b i k. refl }

  module _ (n : ℕ) (x₁ : Matrix) (S : Stored lost left from count n t f x x₁) where
    stored_past : lost n && not (left n) ≡ false → Stored lost left from count (n + 1) t f x x₁
    stored_past e = record {
      here = λ b j k l. elim (ℕ_discrete b n) [
        | yes q ↦ rw q (S.else n (from * 64 + j) (omega arith) ∙ rw (past (lost n) (left n) (f j) e))
        | no d ↦ S.here b j (omega arith) l
      ];
      before = S.before;
      behind = S.behind;
      else = λ b i k. S.else b i (omega arith);
    }
      where
        past : (p q r : Bool) → p && not q ≡ false → p && (not q && not r) ≡ false
        past true true r e = refl
        past true false r e = absurd (true≢false e)
        past false q r e = refl

    pub stored_left : left n ≡ true → Stored lost left from count (n + 1) t f x x₁
    stored_left e = stored_past (rw (e, and-false))

    pub stored_kept : lost n ≡ false → Stored lost left from count (n + 1) t f x x₁
    stored_kept e = stored_past (rw e)

    pub stored_return : lost n ≡ true → left n ≡ false → (x₂ : Matrix) → Returned from count n t f x₁ x₂ → Stored lost left from count (n + 1) t f x x₂
    stored_return p q x₂ R = record {
      here = λ b j k l. elim (ℕ_discrete b n) [
        | yes e ↦ rw (e, p, q) (R.here j l ∙ rw (S.else n (from * 64 + j) (omega arith)) (turn (f j) (x n (from * 64 + j)) (t n j)))
        | no d ↦ R.else b (from * 64 + j) d ∙ S.here b j (omega arith) l
      ];
      before = λ b i k. elim (ℕ_discrete b n) [ yes e ↦ rw e (R.before i k ∙ S.before n i k) | no d ↦ R.else b i d ∙ S.before b i k ];
      behind = λ b i k. elim (ℕ_discrete b n) [ yes e ↦ rw e (R.behind i k ∙ S.behind n i k) | no d ↦ R.else b i d ∙ S.behind b i k ];
      else = λ b i k. R.else b i (λ e. omega arith) ∙ S.else b i (omega arith);
    }
      where
        turn : (a b c : Bool) → cond a b c ≡ cond (not a) c b
        turn true b c = refl
        turn false b c = refl
