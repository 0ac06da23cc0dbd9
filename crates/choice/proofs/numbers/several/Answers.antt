-- `several` meets its contract. Assumes nothing.
use Rattle.choice.proofs.Lifting.{several_places}
use Rattle.choice.proofs.numbers.several.Goals as goal

pub returns : goal.returns
returns c = several_places _
