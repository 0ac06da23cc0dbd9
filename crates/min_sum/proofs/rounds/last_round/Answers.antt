-- `last_round` meets its contract. Assumes nothing.
use mathlib.Core.Path.{◌∙◌}
use Rattle.min_sum.proofs.rounds.last_round.Goals as goal

pub checks_send-requires : goal.checks_send-requires
checks_send-requires c = record { laid = (c.requires.ready.0.laid, c.requires.ready.0.within); at_len = c.requires.at_len }

pub result_all-requires : goal.result_all-requires
result_all-requires c = let C = c.checks_send in
    let Q = c.requires.ready.0 in
    let M = Q.laid.memory in
    rw c.requires.ready.1.same record { laid_across = (record { words = c.requires.ready.1.long; memory = record { tags = C.auto.tags ∙ M.tags; values = C.auto.values ∙ M.values }; room = Q.laid.room }, Q.within); inner = (Q.inner, C.ensures.cursors) }

pub returns : goal.returns
returns c = let C = c.checks_send in
    let M = c.requires.ready.0.laid.memory in
    record {
      mt = C.new.tags;
      mx = C.new.values;
      heard = record { tags = C.auto.tags ∙ M.tags; values = C.auto.values ∙ M.values; answering = C.ensures.answering };
      results = rw c.requires.ready.1.same at c.result_all.ensures;
    }
