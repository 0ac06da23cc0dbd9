-- `judge::judge` meets its contract. Assumes nothing.
use Rattle.reading.proofs.Judging.{load_empty, load_other, load_head}
use Rattle.reading.proofs.judge.judge.Goals as goal

pub returns-then-source-eq0 : goal.returns-then-source-eq0
returns-then-source-eq0 c = load_empty _ c.if-source-eq0.true

pub checks-requires : goal.checks-requires
checks-requires c = load_head _ _ _ _ c.if-source-eq0.false (rw c.in-Some.is at c.first_word.ensures)

pub returns-in-None : goal.returns-in-None
returns-in-None c = load_other _ c.if-source-eq0.false (rw c.in-None.is at c.first_word.ensures)
