-- `sums` meets its contract. Assumes nothing.
use mathlib.Core.Path.{sym, ◌∙◌}
use Rattle.bit_node.proofs.SoftAlone.{each_soft, alone_all, alone_holding}
use Rattle.bit_node.proofs.sums.Goals as goal

pub returns-in-Soft : goal.returns-in-Soft
returns-in-Soft c = let soft = each_soft c.args.tags.now (sym c.all_soft.ensures ∙ c.if-all_soft.true) in
    rw c.in-Soft.is record { value = alone_all c.args.tags.now c.args.values.now _ soft c.requires _ _ c.soft_sums.ensures; holding = alone_holding c.args.tags.now c.args.values.now _ soft c.requires _ _ c.soft_sums.ensures }
