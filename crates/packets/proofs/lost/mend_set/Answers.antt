-- `lost::mend_set` meets its contract. Assumes nothing.
use mathlib.Core.Path.{refl, sym, ◌∙◌}
use Rattle.packets.proofs.Setting.{none_left}
use Rattle.packets.proofs.lost.mend_set.Goals as goal

pub returns-then-size-eq0 : goal.returns-then-size-eq0
returns-then-size-eq0 c = (refl, rw (none_left _ (sym c.size.ensures ∙ c.if-size-eq0.true)) at c.mend_lost-after.ensures.1)
