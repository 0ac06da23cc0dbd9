-- The list of the checks that may still have an erased bit, as it is searched. Assumes nothing.
use mathlib.Core.Path.{◌≡◌, sym, ◌∙◌}
use mathlib.Core.Bool.{Bool}
use mathlib.Core.List.{List}
use mathlib.Core.Logic.{◌⊎◌, inl, inr, ⊎_elim}
use Prim.Native.Nat.{ℕ, ◌+◌, ◌≤◌, ◌<◌}
use native.Mathlib.Omega.{arith}
use native.Mathlib.Decide.{ℕ_discrete}
use lib.ListN.{length, get_or, set}
use lib.Seq.{get_or-set_same, get_or-set_other}
use Rattle.parity.specs.Matrix.{Matrix}
use Rattle.parity.specs.Words.{inside}
use Rattle.sets.specs.Sets.{Short}
use Rattle.sets.proofs.Short.{inside_short}
use Rattle.search.specs.Next.{Lone, NoSingle}
use Rattle.search.specs.Live.{Listed, Placed, Live, NoneAlone}

-- the checks below c are listed
pub listed_none : (l : List ℕ) → Listed 0 l
listed_none l = record { at = λ i k. absurd (omega arith) }

pub listed_more : (c : ℕ) (l : List ℕ) → c < length l → Listed c l → Listed (c + 1) (set l c c)
listed_more c l k S = record {
  at = λ i m. elim (ℕ_discrete i c) [
    | yes q ↦ rw q (get_or-set_same l c c 0 k)
    | no d ↦ get_or-set_other l c i c 0 d ∙ S.at i (omega arith)
  ];
}

pub live_listed : (h : Matrix) (N M : ℕ) (e : ℕ → Bool) (l : List ℕ) → Listed M l → Live h N M e l 0 0 M
live_listed h N M e l S = record {
  low = λ i k. rw (S.at i k) k;
  every = λ c k n. inr (record { place = c; least = omega arith; below = k; here = S.at c k });
}

-- what is so of N bits is so of B, where none is erased from N on
module _ (h : Matrix) (B N c : ℕ) (e : ℕ → Bool) (few : N ≤ B) (f : Short N e) where
  pub none_wider : inside h N c e ≡ 0 → inside h B c e ≡ 0
  none_wider z = inside_short h B N c e few f.none ∙ z

  pub more_wider : (inside h N c e ≡ 1 → ⊥) → inside h B c e ≡ 1 → ⊥
  more_wider d q = d (sym (inside_short h B N c e few f.none) ∙ q)

  pub lone_wider : (M b : ℕ) → Lone h N M e c b → Lone h B M e c b
  lone_wider M b L = record { check = L.check; bit = omega (arith, L.bit); has = L.has; gone = L.gone; only = inside_short h B N c e few f.none ∙ L.only }

-- a check that is not the next one stands behind it
pub placed_later : (l : List ℕ) (a n d : ℕ) → Placed l a n d → (get_or l a 0 ≡ d → ⊥) → Placed l (a + 1) n d
placed_later l a n d P z = record {
  place = P.place;
  least = elim (ℕ_discrete P.place a) [ yes r ↦ absurd (z (rw r at P.here)) | no r ↦ omega (arith, P.least) ];
  below = P.below;
  here = P.here;
}

module _ (h : Matrix) (N M : ℕ) (e : ℕ → Bool) (l : List ℕ) (k a n : ℕ) (G : Live h N M e l k a n) where
  -- the next check has no erased bit
  pub live_none : inside h N (get_or l a 0) e ≡ 0 → Live h N M e l k (a + 1) n
  live_none q = record {
    low = G.low;
    every = λ d m z. ⊎_elim (λ (P : Placed l 0 k d). inl P) (λ (P : Placed l a n d). inr (placed_later l a n d P (λ r. z (rw (← r) q)))) (G.every d m z);
  }

  module _ (ahead : k ≤ a) (below : a < n) (room : n ≤ length l) where
    kept_here : get_or (set l k (get_or l a 0)) k 0 ≡ get_or l a 0
    kept_here = get_or-set_same l k (get_or l a 0) 0 (omega arith)

    kept_other : (i : ℕ) → (i ≡ k → ⊥) → get_or (set l k (get_or l a 0)) i 0 ≡ get_or l i 0
    kept_other i d = get_or-set_other l k i (get_or l a 0) 0 d

    kept_next : (d : ℕ) → Placed l a n d → Placed (set l k (get_or l a 0)) 0 (k + 1) d ⊎ Placed (set l k (get_or l a 0)) (a + 1) n d
    kept_next d P = elim (ℕ_discrete P.place a) [
      | yes r ↦ inl (record { place = k; least = omega arith; below = omega arith; here = kept_here ∙ rw r at P.here })
      | no r ↦ inr (record { place = P.place; least = omega (arith, P.least); below = P.below; here = kept_other P.place (λ q. omega (arith, P.least)) ∙ P.here })
    ]

    -- it has more than one, and is kept
    pub live_kept : Live h N M e (set l k (get_or l a 0)) (k + 1) (a + 1) n
    live_kept = record {
      low = λ i m. elim (ℕ_discrete i k) [ yes q ↦ rw (q, kept_here) (G.low a below) | no q ↦ rw (kept_other i q) (G.low i m) ];
      every = λ d m z. ⊎_elim
          (λ (P : Placed l 0 k d). inl (record { place = P.place; least = omega arith; below = omega (arith, P.below); here = kept_other P.place (λ q. omega (arith, P.below)) ∙ P.here }))
          (λ (P : Placed l a n d). kept_next d P)
          (G.every d m z);
    }

    pub none_kept : (k₀ : ℕ) → ((i : ℕ) → k₀ ≤ i → i < k → inside h N (get_or l i 0) e ≡ 1 → ⊥) → (inside h N (get_or l a 0) e ≡ 1 → ⊥)
        → (i : ℕ) → k₀ ≤ i → i < k + 1 → inside h N (get_or (set l k (get_or l a 0)) i 0) e ≡ 1 → ⊥
    none_kept k₀ f g i p m = elim (ℕ_discrete i k) [ yes q ↦ rw (q, kept_here) g | no q ↦ rw (kept_other i q) (f i p (omega arith)) ]

-- A search has come to place a, and kept those from place k₀ up to k.
pub record Searched (h : Matrix) (N M : ℕ) (e : ℕ → Bool) (n k₀ : ℕ) (l : List ℕ) (k a : ℕ) : Type 0 where
  pub live : Live h N M e l k a n
  pub ahead : k ≤ a
  pub few : a ≤ n
  pub none : (i : ℕ) → k₀ ≤ i → i < k → inside h N (get_or l i 0) e ≡ 1 → ⊥

pub searched_start : (h : Matrix) (N M : ℕ) (e : ℕ → Bool) (l : List ℕ) (k a n : ℕ) → k ≤ a → a ≤ n → Live h N M e l k a n → Searched h N M e n k l k a
searched_start h N M e l k a n p q G = record { live = G; ahead = p; few = q; none = λ i m o. absurd (omega arith) }

module _ (h : Matrix) (N M : ℕ) (e : ℕ → Bool) (n k₀ : ℕ) (l : List ℕ) (k a : ℕ) (S : Searched h N M e n k₀ l k a) where
  pub searched_none : a < n → inside h N (get_or l a 0) e ≡ 0 → Searched h N M e n k₀ l k (a + 1)
  searched_none m z = record { live = live_none h N M e l k a n S.live z; ahead = omega (arith, S.ahead); few = omega arith; none = S.none }

  pub searched_kept : a < n → n ≤ length l → (inside h N (get_or l a 0) e ≡ 1 → ⊥) → Searched h N M e n k₀ (set l k (get_or l a 0)) (k + 1) (a + 1)
  searched_kept m r z = record {
    live = live_kept h N M e l k a n S.live S.ahead m r;
    ahead = omega (arith, S.ahead);
    few = omega arith;
    none = none_kept h N M e l k a n S.live S.ahead m r k₀ S.none z;
  }

  pub searched_all : n ≤ a → NoneAlone h N M e n k₀ l k
  searched_all m =
      let q : a ≡ n = omega (arith, S.few) in
      record { live = rw q at S.live; few = omega (arith, S.ahead); none = S.none }

-- nothing is left to be looked at
module _ (h : Matrix) (N M : ℕ) (e : ℕ → Bool) (n k₀ : ℕ) (l : List ℕ) (k : ℕ) (S : NoneAlone h N M e n k₀ l k) where
  kept_all : (c : ℕ) → c < M → (inside h N c e ≡ 0 → ⊥) → Placed l 0 k c
  kept_all c m z = ⊎_elim (λ (P : Placed l 0 k c). P) (λ (P : Placed l n n c). absurd (omega (arith, P.least, P.below))) (S.live.every c m z)

  -- the next pass
  pub live_again : Live h N M e l 0 0 k
  live_again = record { low = λ i m. S.live.low i (omega (arith, S.few)); every = λ c m z. inr (kept_all c m z) }

  -- or the end
  pub live_over : k₀ ≡ 0 → NoSingle h N M 0 e
  live_over z = record {
    none = λ c i m q.
        let P = kept_all c m (λ y. omega arith) in
        S.none P.place (omega arith) P.below (rw P.here q);
  }
