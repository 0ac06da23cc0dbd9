-- Before the first round: the messages of check after check, each its bit's value. Assumes nothing.
use mathlib.Core.Path.{◌≡◌, ◌∙◌}
use mathlib.Core.Bool.{true}
use mathlib.Core.List.{List}
use Prim.Native.Nat.{ℕ, ◌+◌, ◌<◌, ◌≤◌}
use native.Mathlib.Decide.{ℕ_discrete}
use native.Mathlib.Numerals.{add-one}
use native.Mathlib.Omega.{arith}
use lib.ListN.{length}
use lib.Ieee.{Float}
use Rattle.parity.specs.Matrix.{Matrix}
use Rattle.parity.specs.Soft.{sent_after}
use Rattle.messages.specs.Memory.{start, place, held, Written, Filling, Holds}
use Rattle.parity.specs.declared.Channel.{Channel}
use Rattle.messages.proofs.Places.{start_suc, place_same}
use Rattle.messages.proofs.Word.{Gap, gap_count, gap_before}

pub place_gap : (h : Matrix) (N c b e : ℕ) → Gap (h c) b e → place h N c e ≡ place h N c b
unfolding place
place_gap h N c b e G = omega (arith, gap_count (h c) b e G)

-- after the last of N bits comes the next check
pub place_last : (h : Matrix) (N c : ℕ) → place h N c N ≡ start h N (c + 1)
unfolding place
place_last h N c = rw (add-one c) (omega (arith, start_suc h N c))

module _ (h : Matrix) (N : ℕ) (m : ℕ → Channel) where
  pub filling_none : (ts : List ℕ) (xs : List Float) → length ts ≡ 65536 → length xs ≡ 65536 → Filling h N 0 0 m ts xs
  filling_none ts xs k l = record { tags = k; values = l; before = λ d a i. absurd (omega arith); here = λ a i. absurd (omega arith) }

  module _ (c b : ℕ) (ts : List ℕ) (xs : List Float) (F : Filling h N c b m ts xs) where
    pub filling_gap : (e : ℕ) → Gap (h c) b e → Filling h N c e m ts xs
    filling_gap e G = record {
      tags = F.tags;
      values = F.values;
      before = F.before;
      here = λ a k l q. F.here a (gap_before (h c) b e G a k q) l q;
    }

    pub filling_one : b < N → h c b ≡ true → (us : List ℕ) (ys : List Float) → Written (place h N c b) (m b) ts xs us ys → Filling h N c (b + 1) m us ys
    unfolding held
    filling_one kb e us ys W = record {
      tags = W.tags ∙ F.tags;
      values = W.values ∙ F.values;
      before = λ d a k l q. W.other (place h N d a) (λ w. let f = place_same h N d a c b l kb q e w in omega (arith, f.0)) ∙ F.before d a k l q;
      here = λ a k l q. elim (ℕ_discrete a b) [
        | yes z ↦ rw z W.here
        | no z ↦ W.other (place h N c a) (λ w. z (place_same h N c a c b l kb q e w).1) ∙ F.here a (omega arith) l q
      ];
    }

    -- the check is done
    pub filling_check : N ≤ b → Filling h N (c + 1) 0 m ts xs
    filling_check k = record {
      tags = F.tags;
      values = F.values;
      before = λ d a i l q. elim (ℕ_discrete d c) [ yes z ↦ rw z (F.here a (omega arith) l (rw z at q)) | no z ↦ F.before d a (omega arith) l q ];
      here = λ a i. absurd (omega arith);
    }

-- all are
pub filling_all : (h : Matrix) (N M : ℕ) (m : ℕ → Channel) (ts : List ℕ) (xs : List Float) → Filling h N M 0 m ts xs → Holds h N M (sent_after h N M m 0) ts xs
unfolding sent_after
filling_all h N M m ts xs F = record { tags = F.tags; values = F.values; at = λ d a i j e. F.before d a i j e }
