-- `check_answers` meets its contract. Assumes nothing.
use Rattle.check_node.proofs.Answers.{check_answer_lem}
use Rattle.soft.proofs.Places.{partly_start, partly_more, partly_all}
use Rattle.check_node.specs.Pass.{check_answer}
use Rattle.parity.specs.Soft.{message_at}
use lib.ListN.{length}
use native.Mathlib.Omega.{arith}
use mathlib.Core.Path.{◌≡◌, refl, sym, ◌∙◌}
use Rattle.check_node.proofs.check_answers.Goals as goal

pub loop-t-init : goal.loop-t-init
loop-t-init c = (refl, omega arith, c.look-s.ensures, partly_start _ _ _ (sym c.requires.tags_len.0))

pub message-requires : goal.message-requires
message-requires c = let l = c.loop-t in omega (arith, l.invariant.3.tags, l.invariant.3.values)

pub put-requires : goal.put-requires
put-requires c = let l = c.loop-t in omega (arith, l.invariant.3.tags, l.invariant.3.values)

pub loop-t-preserved : goal.loop-t-preserved
loop-t-preserved c = let l = c.loop-t in
    let f = message_at c.args.tags.now c.args.values.now in
    let d = length c.args.tags.now in
    let e = c.message.ensures ∙ l.invariant.3.rest l.t (omega arith) (omega arith) in
    let g : c.answer-a.result ≡ check_answer d f l.t = c.answer-a.ensures ∙ (rw (l.invariant.2, e) (sym (check_answer_lem d f c.requires.sounds l.t (omega arith)))) in
    (l.invariant.0, omega arith, l.invariant.2, rw (c.put.ensures.tags_after, c.put.ensures.values_after, g) (partly_more _ _ (check_answer d f) _ _ _ l.invariant.3 (omega arith)))

pub shape_of-tags : goal.shape_of-tags
shape_of-tags c = c.loop-t.invariant.3.tags

pub shape_of-values : goal.shape_of-values
shape_of-values c = c.loop-t.invariant.3.values ∙ c.requires.tags_len.0

pub returns : goal.returns
returns c = let l = c.loop-t in partly_all _ _ _ _ _ _ l.invariant.3 (omega arith)
