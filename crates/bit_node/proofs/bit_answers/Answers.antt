-- `bit_answers` meets its contract. Assumes nothing.
use Rattle.bit_node.proofs.Adding.{sum_all_lem, settled_sums}
use Rattle.parity.specs.Soft.{message_at, settled}
use lib.ListN.{length}
use mathlib.Core.Path.{◌∙◌, ap}
use Rattle.bit_node.proofs.bit_answers.Goals as goal

pub returns : goal.returns
returns c = let f = message_at c.args.tags.now c.args.values.now in
    let d = length c.args.tags.now in
    let v = c.args.channel in
    record { value = c.settle.ensures ∙ ap settled c.sums-all.ensures.value ∙ sum_all_lem v f d; holding = settled_sums v f d _ _ c.sums-all.ensures.holding _ _ c.settle_all.ensures }
