-- `one_round` meets its contract. Assumes nothing.
use mathlib.Core.Path.{◌∙◌}
use Rattle.messages.proofs.Places.{above_more}
use Rattle.min_sum.proofs.rounds.one_round.Goals as goal

pub checks_send-requires : goal.checks_send-requires
checks_send-requires c = record { laid = (c.requires.ready.0.laid, c.requires.ready.0.within); at_len = c.requires.at_len }

pub send_all-requires : goal.send_all-requires
send_all-requires c = let C = c.checks_send in
    let Q = c.requires.ready.0 in
    let M = Q.laid.memory in
    rw c.requires.ready.1.same record { laid_across = (record { words = c.requires.ready.1.long; memory = record { tags = C.auto.tags ∙ M.tags; values = C.auto.values ∙ M.values }; room = Q.laid.room }, Q.within); inner = (Q.inner, C.ensures.cursors) }

pub returns : goal.returns
returns c = let C = c.checks_send in
    let A = rw c.requires.ready.1.same at c.send_all.ensures in
    let M = c.requires.ready.0.laid.memory in
    record {
      mt = C.new.tags;
      mx = C.new.values;
      heard = record { tags = C.auto.tags ∙ M.tags; values = C.auto.values ∙ M.values; answering = C.ensures.answering };
      sent = A.sent_all;
      above = above_more _ 512 _ _ _ _ C.ensures.above _ _ A.above;
    }
