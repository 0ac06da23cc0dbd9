-- `bit_at` meets its contract. Assumes nothing.
use Rattle.phases.proofs.Parts.{part_result, part_sends}
use mathlib.Core.Path.{◌∙◌}
use Rattle.phases.proofs.bits.bit_at.Goals as goal

pub returns : goal.returns
returns c = let R = part_result c.args.a c.args.w c.args.tags.now c.args.values.now c.requires.0 c.requires.1 c.args.channel in
    record { value = c.bit_answers.ensures.value ∙ R; part = part_sends c.args.a c.args.w c.args.tags.now c.args.values.now c.requires.0 c.requires.1 c.args.channel _ _ c.bit_answers.ensures.holding }
