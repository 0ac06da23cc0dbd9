-- `lone_at` meets its contract. Assumes nothing.
use mathlib.Core.Path.{refl}
use Rattle.enumeration.specs.Search.{lone_word}
use Rattle.enumeration.proofs.checks.lone_at.Goals as goal

pub returns : goal.returns
unfolding lone_word
returns c = refl
