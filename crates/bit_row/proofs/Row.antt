-- A bit's row, what stands before it, and the way back. Assumes nothing.
use mathlib.Core.Path.{◌≡◌, refl, ◌∙◌}
use mathlib.Core.Bool.{Bool, true}
use mathlib.Core.List.{List}
use Prim.Native.Nat.{ℕ, suc, ◌+◌, ◌<◌, ◌≤◌}
use native.Mathlib.Decide.{ℕ_discrete, dec_lt}
use native.Mathlib.Omega.{arith}
use lib.Ieee.{Float}
use Rattle.parity.specs.Finite.{count}
use Rattle.parity.specs.Matrix.{Matrix}
use Rattle.parity.specs.Soft.{message_at}
use Rattle.parity.specs.declared.Channel.{Channel}
use Rattle.parity.proofs.Finite.Firsts.{nth_below}
use Rattle.messages.specs.Memory.{start, place, held, column, Written, Within}
use Rattle.messages.proofs.Places.{start_mono, place_high, above_none, above_more, place_same, within_below, place_small}
use Rattle.messages.proofs.Word.{Gap, gap_before}
use Rattle.bit_row.specs.Row.{Low, Collected, Spread}

-- ---- the row
module _ (p : ℕ → Bool) (f : ℕ → Channel) where
  pub collected_none : (ts : List ℕ) (xs : List Float) → Collected p 0 f ts xs
  collected_none ts xs = record { at = λ i j q. absurd (omega arith) }

  module _ (c : ℕ) (ts : List ℕ) (xs : List Float) (C : Collected p c f ts xs) where
    pub collected_end : (M : ℕ) → M ≤ c → Collected p M f ts xs
    collected_end M k = record { at = λ i l q. C.at i (omega arith) q }

    pub collected_gap : (e : ℕ) → Gap p c e → Collected p e f ts xs
    collected_gap e G = record { at = λ i l q. C.at i (gap_before p c e G i l q) q }

    pub collected_one : p c ≡ true → (us : List ℕ) (ys : List Float) → Written (65024 + count c p) (f c) ts xs us ys → Collected p (c + 1) f us ys
    collected_one e us ys W = record {
      at = λ i l q. elim (ℕ_discrete i c) [
        | yes z ↦ rw z W.here
        | no z ↦
            let j : i < c = omega arith in
            W.other (65024 + count i p) (λ w. omega (arith, w, nth_below p i c j q)) ∙ C.at i j q
      ];
    }

-- no check from M on has the bit
pub within_gap : (h : Matrix) (M : ℕ) → Within h M → (b c : ℕ) → M ≤ c → Gap (column h b) M c
within_gap h M W b c k = record { least = k; none = λ d l m. W.after d b l }

-- ---- before the row
module _ (ts : List ℕ) (xs : List Float) where
  pub low_none : Low ts xs ts xs
  low_none = record { tags = refl; values = refl; at = λ i k. refl }

  module _ (us : List ℕ) (ys : List Float) (L : Low ts xs us ys) where
    pub low_more : (vs : List ℕ) (zs : List Float) → Low us ys vs zs → Low ts xs vs zs
    low_more vs zs K = record { tags = K.tags ∙ L.tags; values = K.values ∙ L.values; at = λ i k. K.at i k ∙ L.at i k }

    pub low_row : (d : ℕ) (v : Channel) (vs : List ℕ) (zs : List Float) → Written (65024 + d) v us ys vs zs → Low ts xs vs zs
    low_row d v vs zs W = record { tags = W.tags ∙ L.tags; values = W.values ∙ L.values; at = λ i k. W.other i (λ z. omega arith) ∙ L.at i k }

    pub low_held : (h : Matrix) (N c b : ℕ) → start h N 512 ≤ 65024 → c < 512 → b < N → h c b ≡ true → held h N us ys c b ≡ held h N ts xs c b
    unfolding held
    low_held h N c b m k l e = L.at (place h N c b) (place_small h N c b m k l e)

-- ---- the way back
module _ (h : Matrix) (N b : ℕ) (ts : List ℕ) (xs : List Float) where
  pub spread_none : (l : ℕ) → Spread h N b l l ts xs ts xs
  spread_none l = record {
    tags = refl;
    values = refl;
    done = λ d k m e. absurd (omega arith);
    rest = λ d a k e q. refl;
    above = above_none h N ts xs;
    row = λ t. refl;
  }

  module _ (l c : ℕ) (us : List ℕ) (ys : List Float) (S : Spread h N b l c ts xs us ys) where
    pub spread_gap : (e : ℕ) → Gap (column h b) c e → Spread h N b l e ts xs us ys
    spread_gap e G = record {
      tags = S.tags;
      values = S.values;
      done = λ d k m q. S.done d k (gap_before (column h b) c e G d m q) q;
      rest = λ d a k q r. S.rest d a k q (λ z m. omega (arith, r z m, G.least));
      above = S.above;
      row = S.row;
    }

    pub spread_end : (M : ℕ) → Within h M → M ≤ c → Spread h N b l M ts xs us ys
    spread_end M W k = record {
      tags = S.tags;
      values = S.values;
      done = λ d i m q. S.done d i (omega arith) q;
      rest = λ d a i q r. S.rest d a i q (λ z m. omega (arith, r z m, within_below h M W d a q));
      above = S.above;
      row = S.row;
    }

    -- those from c on besides
    pub spread_more : (e : ℕ) (vs : List ℕ) (zs : List Float) → b < N → l ≤ c → c ≤ e → Spread h N b c e us ys vs zs → Spread h N b l e ts xs vs zs
    spread_more e vs zs kb i j T = record {
      tags = T.tags ∙ S.tags;
      values = T.values ∙ S.values;
      done = λ d k m q. elim (dec_lt d c) [
        | yes n ↦ T.rest d b kb q (λ z o. omega arith) ∙ S.done d k n q
        | no n ↦ T.done d (omega arith) m q ∙ S.row (count d (column h b))
      ];
      rest = λ d a m q r. T.rest d a m q (λ z n. r z (omega arith)) ∙ S.rest d a m q (λ z n. omega (arith, r z n));
      above = above_more h N ts xs us ys S.above vs zs T.above;
      row = λ t. T.row t ∙ S.row t;
    }

    -- a message of the row goes to its place
    pub spread_one : start h N 512 ≤ 65024 → b < N → c < 512 → l ≤ c → h c b ≡ true → (p d : ℕ) → p ≡ place h N c b → d ≡ count c (column h b) → (vs : List ℕ) (zs : List Float)
        → Written p (message_at us ys (65024 + d)) us ys vs zs → Spread h N b l (c + 1) ts xs vs zs
    unfolding held
    spread_one m kb kc lc e p d g i vs zs X =
        let W = rw (g, i) at X in
        let small = place_small h N c b m kc kb e in
        record {
          tags = W.tags ∙ S.tags;
          values = W.values ∙ S.values;
          done = λ d k i r. elim (ℕ_discrete d c) [
            | yes z ↦ rw z (W.here ∙ S.row (count c (column h b)))
            | no z ↦ W.other (place h N d b) (λ w. z (place_same h N d b c b kb kb r e w).0) ∙ S.done d k (omega arith) r
          ];
          rest = λ d a k r s. W.other (place h N d a)
              (λ w. let f = place_same h N d a c b k kb r e w in omega (arith, s f.1 (omega (arith, f.0)), f.0)) ∙ S.rest d a k r (λ z n. omega (arith, s z n));
          above = record {
            at = λ q k o. W.other q (λ w. omega (arith, w, place_high h N c b kb e, start_mono h N (suc c) 512 kc)) ∙ S.above.at q k o;
          };
          row = λ t. W.other (65024 + t) (λ w. omega (arith, w, small)) ∙ S.row t;
        }
