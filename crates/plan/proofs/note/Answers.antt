-- `note` meets its contract. Assumes nothing.
use Rattle.std.proofs.lemmas.List.{map-set}
use Rattle.lanes.specs.declared.Step.{Step}
use Rattle.plan.proofs.note.Goals as goal

pub returns : goal.returns
returns c = record { left_after = c.lower.ensures; steps_after = (map-set (λ (s : Step). s.check) c.args.steps.now c.args.s _, map-set (λ (s : Step). s.bit) c.args.steps.now c.args.s _) }
