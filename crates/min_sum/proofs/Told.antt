-- Lists told by their elements. Assumes nothing.
use mathlib.Core.Path.{◌≡◌, sym, ap, ◌∙◌}
use mathlib.Core.List.{List}
use Prim.Native.Nat.{ℕ}
use native.Mathlib.Omega.{arith}
use lib.Seq.{ext_get_or}
use lib.Ieee.{Float, nan}
use Rattle.parity.specs.Finite.{list_from}
use Rattle.parity.proofs.Soft.Outcomes.{length_floats, at_floats}
use Rattle.parity.proofs.Finite.Lists.{length_list_from, at_list_from}
use Rattle.parity.specs.Soft.{byte_for, float_for}
use Rattle.soft.specs.Store.{Holding}
use Rattle.parity.specs.SoftCall.{floats_from}
use Rattle.parity.specs.declared.Channel.{Channel}
use native.Mathlib.Nat.{zero-add}

-- the results as lists
pub held_word : (N : ℕ) (g g' : ℕ → Channel) (w : List ℕ) (f : List Float) → Holding N g w f → ((b : ℕ) → g b ≡ g' b) → w ≡ list_from 0 N (λ b. byte_for (g' b))
held_word N g g' w f H e =
    ext_get_or 0 w (list_from 0 N (λ b. byte_for (g' b))) (H.tags ∙ sym (length_list_from 0 N (λ b. byte_for (g' b))))
    (λ j k. H.tag j (omega (arith, H.tags)) ∙ ap byte_for (e j ∙ ap g' (sym (zero-add j))) ∙ sym (at_list_from 0 N (λ b. byte_for (g' b)) j (omega (arith, H.tags))))

pub held_floats : (N : ℕ) (g g' : ℕ → Channel) (w : List ℕ) (f : List Float) → Holding N g w f → ((b : ℕ) → g b ≡ g' b) → f ≡ floats_from 0 N (λ b. float_for (g' b))
held_floats N g g' w f H e =
    ext_get_or nan f (floats_from 0 N (λ b. float_for (g' b))) (H.values ∙ sym (length_floats 0 N (λ b. float_for (g' b))))
    (λ j k. H.value j (omega (arith, H.values)) ∙ ap float_for (e j ∙ ap g' (sym (zero-add j))) ∙ sym (at_floats 0 N (λ b. float_for (g' b)) j (omega (arith, H.values))))
