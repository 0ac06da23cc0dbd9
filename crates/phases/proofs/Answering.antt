-- Check after check answers, and its cursor stands at its first message. Assumes nothing.
use mathlib.Core.Path.{◌≡◌, refl, sym, ◌∙◌}
use mathlib.Core.Bool.{true}
use mathlib.Core.List.{List}
use Prim.Native.Nat.{ℕ, suc, ◌+◌, ◌<◌}
use native.Mathlib.Decide.{ℕ_discrete}
use native.Mathlib.Omega.{arith}
use lib.ListN.{get_or, length, set, length-set}
use lib.Seq.{get_or-set_same, get_or-set_other}
use lib.Ieee.{Float}
use Rattle.parity.specs.Finite.{count}
use Rattle.parity.specs.Matrix.{Matrix}
use Rattle.parity.specs.Soft.{Messages, to_bits}
use Rattle.parity.specs.declared.Channel.{Channel}
use Rattle.parity.proofs.Finite.Firsts.{nth_below, nth_at}
use Rattle.soft.specs.Store.{Sounds}
use Rattle.check_node.specs.Pass.{check_answer}
use Rattle.messages.specs.Memory.{start, place, held, Above, Cursors, Within}
use Rattle.messages.proofs.Places.{start_suc, start_mono, place_low, place_high, first_place, within_below}
use Rattle.phases.specs.Phases.{Part, from, SoundAll, Answering}
use Rattle.phases.proofs.Compact.{check_row}

module _ (h : Matrix) (N : ℕ) where
  pub above_part : (c : ℕ) (g : ℕ → Channel) (ts : List ℕ) (xs : List Float) (us : List ℕ) (ys : List Float) → c < 512 → Part (start h N c) (count N (h c)) g ts xs us ys
      → Above h N ts xs us ys
  above_part c g ts xs us ys k P = record { at = λ i l m. P.after i (omega (arith, start_suc h N c, start_mono h N (suc c) 512 k)) }

  pub answering_start : (M : ℕ) (ts : List ℕ) (xs : List Float) → Answering h N M 0 (held h N ts xs) ts xs
  answering_start M ts xs = record { done = λ d b k. absurd (omega arith); left = λ d b k l m e. refl }

  module _ (M : ℕ) (old : Messages) where
    module _ (c : ℕ) (k : c < M) (ts : List ℕ) (xs : List Float) (A : Answering h N M c old ts xs) where
      abbrev w : ℕ
      w = count N (h c)

      abbrev D : ℕ → Channel
      D = from (start h N c) ts xs

      row : (b : ℕ) → b < N → h c b ≡ true → D (count b (h c)) ≡ old c b
      row b l e = sym (held_is b) ∙ A.left c b (omega arith) k l e
        where
          held_is : (b : ℕ) → held h N ts xs c b ≡ D (count b (h c))
          held_is b = unfold held place in refl

      pub answering_sounds : SoundAll h N M old → Sounds w D
      answering_sounds S = record {
        at = λ t l.
            let (b, i, e, q) = nth_at (h c) N t l in
            rw (← q, row b i e) (S.at c b k i e);
      }

      module _ (ts' : List ℕ) (xs' : List Float) (P : Part (start h N c) w (check_answer w D) ts xs ts' xs') where
        here : (b : ℕ) → b < N → h c b ≡ true → held h N ts' xs' c b ≡ to_bits h N old c b
        unfolding held place to_bits check_answer
        here b l e = P.new (count b (h c)) (nth_below (h c) b N l e) ∙ check_row (h c) (old c) D N b e row

        before : (d b : ℕ) → d < c → b < N → h d b ≡ true → held h N ts' xs' d b ≡ held h N ts xs d b
        unfolding held
        before d b j l e = P.before (place h N d b) (omega (arith, place_high h N d b l e, start_mono h N (suc d) c j))

        after : (d b : ℕ) → c < d → held h N ts' xs' d b ≡ held h N ts xs d b
        unfolding held
        after d b j = P.after (place h N d b) (omega (arith, place_low h N d b, start_mono h N (suc c) d j, start_suc h N c))

        pub answering_more : Answering h N M (c + 1) old ts' xs'
        answering_more = record {
          done = λ d b j l e. elim (ℕ_discrete d c) [
            | yes q ↦ rw q (here b l (rw q at e))
            | no n ↦ before d b (omega arith) l e ∙ A.done d b (omega arith) l e
          ];
          left = λ d b j m l e. after d b (omega arith) ∙ A.left d b (omega arith) m l e;
        }

-- ---- the cursors
-- the cursors of the first c checks stand at their first messages
pub record Begun (h : Matrix) (N c : ℕ) (at : List ℕ) : Type 0 where
  pub size : length at ≡ 512
  pub is : (d : ℕ) → d < c → get_or at d 0 ≡ start h N d

module _ (h : Matrix) (N : ℕ) where
  pub begun_none : (at : List ℕ) → length at ≡ 512 → Begun h N 0 at
  begun_none at k = record { size = k; is = λ d l. absurd (omega arith) }

  pub begun_more : (c a : ℕ) (at : List ℕ) → Begun h N c at → c < 512 → a ≡ start h N c → Begun h N (c + 1) (set at c a)
  begun_more c a at B k e = record {
    size = length-set at _ _ ∙ B.size;
    is = λ d l. elim (ℕ_discrete d c) [
      | yes z ↦ rw z (get_or-set_same at c a 0 (omega (arith, B.size)) ∙ e)
      | no z ↦ get_or-set_other at c d a 0 z ∙ B.is d (omega arith)
    ];
  }

  pub begun_all : (M : ℕ) (at : List ℕ) → Within h M → Begun h N M at → Cursors h N 0 at
  begun_all M at W B = record { size = B.size; is = λ c a e. B.is c (within_below h M W c a e) ∙ sym (first_place h N c) }
