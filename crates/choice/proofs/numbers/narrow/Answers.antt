-- `narrow` meets its contract. Assumes nothing.
use Rattle.choice.proofs.Highest.{candidates_some, candidates_none}
use Rattle.choice.proofs.numbers.narrow.Goals as goal

pub returns-then-some-ne0 : goal.returns-then-some-ne0
returns-then-some-ne0 c = candidates_some _ _ _ c.if-some-ne0.true

pub returns : goal.returns
returns c = candidates_none _ _ _ c.if-some-ne0.false
