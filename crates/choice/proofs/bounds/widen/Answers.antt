-- `widen` meets its contract. Assumes nothing.
use mathlib.Core.Path.{◌∙◌}
use native.Mathlib.Omega.{arith}
use Rattle.columns.proofs.Adders.{given_light, shares_met}
use Rattle.columns.proofs.Shares.{together_comm}
use Rattle.choice.proofs.RowBounds.{raising_next}
use Rattle.choice.proofs.bounds.widen.Goals as goal

pub tally-requires : goal.tally-requires
tally-requires c = record { width_in_bounds = (omega (arith, c.requires.words_len.1, c.requires.words_len.3), omega arith, omega (arith, c.requires.words_len.0), omega (arith, c.words_of-i-end.ensures.1, c.requires.words_len.3)); r_bound = given_light 2 _ _ c.requires.given _ }

pub loop-i-preserved : goal.loop-i-preserved
loop-i-preserved c = (
  c.lift.auto.bound ∙ c.loop-i.invariant.0,
  raising_next _ (together_comm 2 _) _ _ _ _ _ _ c.loop-i.invariant.1 (shares_met 2 _ _ c.requires.given _ _ _ c.tally.ensures) c.lift.ensures,
)
